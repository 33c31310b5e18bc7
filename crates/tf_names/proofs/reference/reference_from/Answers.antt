use Rattle.std.proofs.Common.{◌∙◌, sym}
use Rattle.std.specs.Option.{option_map}
use Rattle.hcl_tokens.specs.Scanned.{lexeme}
use Rattle.tf_names.specs.Inner.Found.{reference_seen}
use Rattle.tf_names.proofs.ReferenceLemmas.{begins_here, no_ident, none_after_dot}
use Rattle.tf_names.proofs.reference.reference_from.Goals as goal

pub returns-then-not-is_ident-clause-is : goal.returns-then-not-is_ident-clause-is
returns-then-not-is_ident-clause-is c =
    no_ident c.args.tokens.now.tokens c.args.number (lexeme c.get-token.result) c.get-token.ensures.token (sym c.is_ident.ensures ∙ c.if-not-is_ident.true)

pub returns-then-is_after_dot-clause-is : goal.returns-then-is_after_dot-clause-is
returns-then-is_after_dot-clause-is c =
    none_after_dot c.args.tokens.now.tokens c.args.number (lexeme c.get-token.result) c.get-token.ensures.token (sym c.is_ident.ensures ∙ c.if-not-is_ident.false) (sym c.is_after_dot.ensures ∙ c.if-is_after_dot.true)

pub returns-clause-is : goal.returns-clause-is
returns-clause-is c =
    begins_here c.args.tokens.now.tokens c.args.number (lexeme c.get-token.result) c.get-token.ensures.token (sym c.is_ident.ensures ∙ c.if-not-is_ident.false) (sym c.is_after_dot.ensures ∙ c.if-is_after_dot.false)
    (option_map (reference_seen c.args.number) c.reference_at.result) c.reference_at.ensures.is
