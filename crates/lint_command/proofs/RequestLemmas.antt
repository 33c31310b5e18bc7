-- From a run over the names of a line to the end of its request.
use Rattle.std.proofs.Common.{◌≡◌, ℕ, Bool, false, List, Option, subst, sym}
use Rattle.command_line.specs.Rows.{End, Shows, out_of_memory}
use Rattle.file_tree.specs.Files.{Faults, Files, Name}
use Rattle.module_find.specs.Refusals.{tree_linter}
use Rattle.tree_lint.specs.declared.written.Terminals.{Terminals}
use Rattle.tree_words.specs.Ends.{EndsBy}
use Rattle.lint_command.specs.Ends.{Lints}
use Rattle.lint_command.specs.Inner.Runs.{EndsByRequest, LintsNamed, read_failed}
use Rattle.lint_command.specs.Line.{Request}

-- the end of a run over the names of the line
pub ends_named : (terminals : Terminals) (asking : Request) (names : List Name) (failed : Bool) (input : Option (List ℕ)) (files : Files) (was is : Faults) (end : End)
    → asking.null ≡ false → names ≡ asking.names → LintsNamed terminals asking.job names files was is end → EndsByRequest terminals asking failed input files was is end
ends_named terminals asking names failed input files was is end line named ends =
    let here : LintsNamed terminals asking.job asking.names files was is end = subst (λ (l : List Name). LintsNamed terminals asking.job l files was is end) named ends in
    subst
    (λ (null : Bool). EndsBy (Shows tree_linter (out_of_memory tree_linter) end) ((is ≡ was) × Shows tree_linter read_failed end) (λ paths. Lints terminals asking.job paths files was is end) null asking.names failed input)
    (sym line) here
