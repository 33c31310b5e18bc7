use Rattle.std.proofs.Common.{◌∙◌, ◌+◌, ap, sym, arith}
use Rattle.hcl_tokens.specs.Kinds.{is}
use Rattle.hcl_tokens.specs.declared.token.Kind.TheVariants.{Dot}
use Rattle.hcl_grammar.specs.Numbered.{is_passed_over}
use Rattle.tf_facts.proofs.CollectLemmas.{unnamed, unnamed_at_end}
use Rattle.tf_facts.proofs.PatternLemmas.{there_is}
use Rattle.tf_facts.proofs.reference.may_be_named.Goals as goal

pub returns-then-next-len : goal.returns-then-next-len
returns-then-next-len c = λ _. unnamed_at_end c.args.tokens.now.tokens (c.args.number + 1) (omega (arith, c.len.ensures.len, c.if-next-len.true))

pub returns-else-is_dot : goal.returns-else-is_dot
returns-else-is_dot c = λ none.
    let t = there_is c.args.tokens.now.tokens (c.args.number + 1) (omega (arith, c.len.ensures.len, c.if-next-len.false)) in
    let kind = sym (c.kind-kind.ensures t.0 t.1) in
    unnamed c.args.tokens.now.tokens (c.args.number + 1) t.0 t.1 (ap (is Dot) kind ∙ sym c.is_dot.ensures ∙ c.if-is_dot.false) (ap is_passed_over kind ∙ sym c.is_passed_over.ensures ∙ none)
