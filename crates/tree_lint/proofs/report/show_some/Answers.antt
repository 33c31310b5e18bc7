use Rattle.std.proofs.Common.{◌∙◌, ap, map, refl}
use Rattle.std.specs.Prelude.{string_bytes}
use Rattle.tree_lint.specs.Inner.Showing.{linted_view}
use Rattle.module_find.proofs.KeptLemmas.{keeps_none}
use Rattle.tree_lint.proofs.ShownLemmas.{comments_told, or_memory, refused_one, shown, shows_as}
use Rattle.tree_lint.proofs.report.show_some.Goals as goal

pub returns-in_default : goal.returns-in_default
returns-in_default g c =
    shows_as _ _ _ _ _ _ _ _ _ (or_memory c.args.one.now (linted_view c.args.linted))
    (refused_one c.args.task c.args.one.now _ _ _ _ _ _ _ c.no_memory.ensures (ap g.O.ByteSink.failed c.in_default.ensures.err ∙ c.requires.out) (ap g.O.ByteSink.taken c.in_default.ensures.err)
    c.refuse.ensures.took c.refuse.ensures.kept c.refuse.ensures.ended)

pub returns : goal.returns
returns g c =
    shown c.args.task c.args.one.now _ _ _ _ _ (linted_view c.args.linted) _ _ c.in-Ok.ensures.ok refl c.tell_comments.ensures.took
    (comments_told c.args.task.manner.terminals.err c.args.one.now (linted_view c.args.linted) _ c.args.linted.comments.now (ap (map string_bytes) c.as_slice.ensures.value) refl)
    (keeps_none c.args.kept.now) c.status.ensures c.len.ensures c.has_output.ensures
