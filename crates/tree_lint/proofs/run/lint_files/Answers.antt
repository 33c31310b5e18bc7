use Rattle.std.proofs.Common.{ap, map, refl}
use Rattle.std.specs.Prelude.{string_bytes}
use Rattle.tfrules_command.specs.Files.{numbered_files}
use Rattle.tfrules_command.proofs.EndRowLemmas.{rising}
use Rattle.tree_lint.proofs.FileLemmas.{have_found}
use Rattle.tree_lint.proofs.ShownLemmas.{for_file, for_found, for_memory, refused_one, shows_as}
use Rattle.tree_lint.specs.declared.written.Terminals.{Terminals}
use Rattle.tree_lint.proofs.run.lint_files.Goals as goal

pub returns-in_default-clause-shows : goal.returns-in_default-clause-shows
returns-in_default-clause-shows g c =
    shows_as _ _ _ _ _ _ _ _ _ (for_memory (g.T.Tree.files c.args.files.now.tree) c.args.task.manner.terminals c.args.task.policy c.args.one.now _ _ c.requires.readable refl)
    (refused_one c.args.task c.args.one.now _ _ _ _ _ _ _ c.no_memory.ensures c.requires.out refl c.refuse.ensures.took c.refuse.ensures.kept c.refuse.ensures.ended)

pub returns-in-Err-clause-shows : goal.returns-in-Err-clause-shows
returns-in-Err-clause-shows g c =
    shows_as _ _ _ _ _ _ _ _ _
    (for_file (g.T.Tree.files c.args.files.now.tree) c.args.task.manner.terminals c.args.task.policy c.args.one.now _ _ c.requires.readable _ (ap (map string_bytes) c.as_slice.ensures.value) _ _ _
    (ap (λ (t : Terminals). t.err) c.new-all.ensures.terminals) c.in-Err.ensures.gathers)
    (refused_one c.args.task c.args.one.now _ _ _ _ _ _ _ c.refusal.ensures c.requires.out refl c.refuse-in-Err.ensures.took c.refuse-in-Err.ensures.kept c.refuse-in-Err.ensures.ended)

pub returns-in-Ok-issue_list-clause-shows : goal.returns-in-Ok-issue_list-clause-shows
returns-in-Ok-issue_list-clause-shows g c =
    let gathered = c.in_default-gather.ensures.gathers in
    let reached = gathered.1.1.reached in
    let found = c.in-Ok-issue_list.ensures (numbered_files 0 reached.sources) reached.kept_is (rising 0 reached.sources) in
    shows_as _ _ _ _ _ _ _ _ _
    (for_found (g.T.Tree.files c.args.files.now.tree) c.args.task.manner.terminals c.args.task.policy c.args.one.now _ _ c.requires.readable gathered.0 _ (ap (map string_bytes) c.as_slice.ensures.value) _
    (have_found _ c.args.task.policy _ _ _ _ _ _ _ _ c.new-all.ensures.checks c.new-all.ensures.terminals gathered.1.1 c.as_linted-linted.ensures found))
    c.show.ensures

pub returns-clause-shows : goal.returns-clause-shows
returns-clause-shows g c =
    shows_as _ _ _ _ _ _ _ _ _ (for_memory (g.T.Tree.files c.args.files.now.tree) c.args.task.manner.terminals c.args.task.policy c.args.one.now _ _ c.requires.readable c.in_default-gather.ensures.gathers.0)
    (refused_one c.args.task c.args.one.now _ _ _ _ _ _ _ c.no_memory-in-Err-issue_list.ensures c.requires.out refl c.refuse-in-Err-issue_list.ensures.took c.refuse-in-Err-issue_list.ensures.kept c.refuse-in-Err-issue_list.ensures.ended)
