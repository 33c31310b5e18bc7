use Rattle.std.proofs.Common.{◌≤◌, ◌<◌, arith, length, refl}
use Rattle.tfrules_command.specs.Line.{max_files}
use Rattle.module_find.proofs.KeptLemmas.{keeps_none}
use Rattle.tree_lint.proofs.ShownLemmas.{for_broken, for_number, refused_one, refused_untold, shows_as}
use Rattle.tree_lint.proofs.run.lint_one.Goals as goal

pub returns-then-not-one-clause-shows : goal.returns-then-not-one-clause-shows
returns-then-not-one-clause-shows g c =
    shows_as _ _ _ _ _ _ _ _ _
    (for_broken (g.T.Tree.files c.args.files.now.tree) c.args.task.manner.terminals c.args.task.policy c.args.one.now _ _ c.if-not-one.true refl)
    (refused_untold c.args.task c.args.one.now _ _ _ _ _ c.requires.out refl c.requires.err refl (keeps_none c.args.kept.now) refl)

pub returns-then-len-gt-MAX_FILES-clause-shows : goal.returns-then-len-gt-MAX_FILES-clause-shows
returns-then-len-gt-MAX_FILES-clause-shows g c =
    let many : max_files < length c.args.one.now.files.items = omega (arith, c.len.ensures, c.if-len-gt-MAX_FILES.true) in
    shows_as _ _ _ _ _ _ _ _ _
    (for_number (g.T.Tree.files c.args.files.now.tree) c.args.task.manner.terminals c.args.task.policy c.args.one.now _ _ c.if-not-one.false many refl)
    (refused_one c.args.task c.args.one.now _ _ _ _ _ _ _ c.too_many.ensures c.requires.out refl c.refuse.ensures.took c.refuse.ensures.kept c.refuse.ensures.ended)

pub lint_files-requires-clause-readable : goal.lint_files-requires-clause-readable
lint_files-requires-clause-readable g c =
    let few : length c.args.one.now.files.items ≤ max_files = omega (arith, c.len.ensures, c.if-len-gt-MAX_FILES.false) in
    (c.if-not-one.false, few)
