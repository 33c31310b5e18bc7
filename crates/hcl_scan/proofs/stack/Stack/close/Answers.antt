use Rattle.std.proofs.Common.{◌∙◌, ap, drop, sym}
use Rattle.hcl_tokens.specs.Lexemes.{Brace}
use Rattle.hcl_scan.specs.Inner.Openings.{without_closed, popped_if}
use Rattle.hcl_tokens.specs.declared.token.Kind.TheVariants.{BraceClose, SeqClose}
use Rattle.hcl_scan.proofs.StackLemmas.{dropped_so}
use Rattle.hcl_scan.proofs.stack.Stack.close.Goals as goal

pub returns-in-BraceClose : goal.returns-in-BraceClose
returns-in-BraceClose c =
    c.pop_if-in-BraceClose.ensures ∙ ap (popped_if Brace) c.pop_groups.ensures
    ∙ dropped_so c.args.self.now BraceClose ∙ ap (λ k. without_closed k c.args.self.now) (sym c.in-BraceClose.is)

pub returns-in-SeqClose : goal.returns-in-SeqClose
returns-in-SeqClose c =
    c.pop.ensures.rest ∙ ap (drop 1) c.pop_groups-in-SeqClose.ensures
    ∙ dropped_so c.args.self.now SeqClose ∙ ap (λ k. without_closed k c.args.self.now) (sym c.in-SeqClose.is)
