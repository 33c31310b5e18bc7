use Rattle.std.proofs.Common.{◌≡◌, ◌∙◌, ◌⊎◌, [], List, ap, map, refl, subst, sym, ℕ}
use Rattle.std.specs.Borrow.{Bor}
use Rattle.std.specs.Prelude.{Err}
use Rattle.clap.specs.Words.{HasKind, Text, app_of, fault_of, found_of, is_simple, is_simple_and_free, kind_of, matches_of, rows_of}
use Rattle.command_line.specs.Arguments.{unless_fault, usage_by}
use Rattle.command_line.proofs.AskedLemmas.{Same, asked_more, refused_line}
use Rattle.command_line.proofs.OneFaultLemmas.{one_fault}
use Rattle.lint_command.specs.Line.{Request, request_of_rows, request_of_texts, tfrules_all}
use Rattle.lint_command.specs.declared.options.LintOptions.{LintOptions}
use Rattle.lint_command.specs.declared.usage.Usage.{Usage}
use Rattle.lint_command.specs.declared.usage.Usage.TheVariants.{BadLine, Help, OutOfMemory}
use Rattle.lint_command.proofs.options.options.Goals as goal

pub returns-in-Ok-try_get_matches_from : goal.returns-in-Ok-try_get_matches_from
returns-in-Ok-try_get_matches_from c =
    let app_is : app_of c.in-Ok.command ≡ tfrules_all = c.in-Ok.ensures in
    let words : List Text = map (λ s. s.now) c.args.words.now in
    let none : fault_of tfrules_all words ≡ [] = ap (λ a. fault_of a words) (sym app_is) ∙ c.in-Ok-try_get_matches_from.ensures.kinds (ap is_simple_and_free app_is) in
    let rows : rows_of (found_of c.in-Ok-try_get_matches_from.matches) ≡ matches_of tfrules_all words =
    (c.in-Ok-try_get_matches_from.ensures.matches (ap is_simple app_is)).0 ∙ ap (λ a. matches_of a words) app_is in
    let others : List (List ℕ) = map (λ (name : Bor (List ℕ)). name.now) c.args.others.now in
    asked_more c.options_of.ensures
    (ap (request_of_rows others) rows ∙ ap (λ f. unless_fault (usage_by OutOfMemory Help BadLine) f (request_of_rows others (matches_of tfrules_all words))) (sym none))

pub returns-in-Err : goal.returns-in-Err
returns-in-Err c =
    let app_is : app_of c.in-Ok.command ≡ tfrules_all = c.in-Ok.ensures in
    let words : List Text = map (λ s. s.now) c.args.words.now in
    let others : List (List ℕ) = map (λ (name : Bor (List ℕ)). name.now) c.args.others.now in
    let kinds = subst (λ a. HasKind (fault_of a words) c.in-Err.error) app_is (c.in-Err.ensures.kinds (ap is_simple_and_free app_is)) in
    subst (λ (u : Usage). Same LintOptions Usage (Err u) (Err OutOfMemory) ⊎ Same Request Usage (Err u) (request_of_texts words others)) (sym c.usage_for.ensures)
    (refused_line OutOfMemory Help BadLine (fault_of tfrules_all words) (request_of_rows others (matches_of tfrules_all words)) (kind_of c.in-Err.error) (one_fault tfrules_all words refl refl) kinds)
