use Rattle.std.proofs.Common.{◌∙◌, ◌++◌, ap, map, sym}
use Rattle.tf_names.specs.Views.{occurrence_seen}
use Rattle.tf_names.proofs.DeclarationLemmas.{locals_more, locals_over}
use Rattle.tf_names.proofs.declaration.push_locals.Goals as goal

pub returns-then-not-is_inside : goal.returns-then-not-is_inside
returns-then-not-is_inside c =
    locals_over c.args.accepted.now.tokens c.args.items.now c.args.from c.args.found.now.items c.loop-number.found.items c.loop-number.number c.get-item.result c.get-item.ensures
    (sym c.is_inside.ensures ∙ c.if-not-is_inside.true) c.loop-number.invariant

pub loop-number-preserved : goal.loop-number-preserved
loop-number-preserved c =
    locals_more c.args.accepted.now.tokens c.args.items.now c.args.from c.args.found.now.items c.loop-number.found.items c.loop-number.number c.get-item.result c.get-item.ensures c.push_found.new.found.items
    (sym c.is_inside.ensures ∙ c.if-not-is_inside.false) (c.in_ok-push_found.ensures ∙ ap (λ r. map occurrence_seen c.loop-number.found.items ++ r) c.local_of.ensures) c.loop-number.invariant
