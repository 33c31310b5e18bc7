use Rattle.std.proofs.Common.{◌∙◌, ◌++◌, ap, map, sym}
use Rattle.hcl_grammar.specs.Numbered.{number_tokens}
use Rattle.tf_facts.specs.Found.{declaration}
use Rattle.tf_facts.proofs.DeclarationLemmas.{locals_more, locals_over}
use Rattle.tf_facts.proofs.declaration.push_locals.Goals as goal

pub returns-then-not-is_inside : goal.returns-then-not-is_inside
returns-then-not-is_inside c =
    locals_over (number_tokens c.args.accepted.now.tokens) c.args.items.now c.args.from c.args.found.now.items c.loop-number.found.items c.loop-number.number c.get-item.result c.get-item.ensures
    (sym c.is_inside.ensures ∙ c.if-not-is_inside.true) c.loop-number.invariant

pub loop-number-preserved : goal.loop-number-preserved
loop-number-preserved c =
    locals_more (number_tokens c.args.accepted.now.tokens) c.args.items.now c.args.from c.args.found.now.items c.loop-number.found.items c.loop-number.number c.get-item.result c.get-item.ensures c.push_declaration.new.found.items
    (sym c.is_inside.ensures ∙ c.if-not-is_inside.false) (c.in_ok-push_declaration.ensures ∙ ap (λ r. map declaration c.loop-number.found.items ++ r) c.local_of.ensures) c.loop-number.invariant
