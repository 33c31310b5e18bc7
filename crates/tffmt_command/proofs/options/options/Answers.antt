use Rattle.std.proofs.Common.{ap, sym, subst, codes, map, List, Ok, Err, [], ◌≡◌, ◌∙◌, ◌⊎◌, inr, refl}
use Rattle.clap.specs.Words.{HasKind, Text, found_of, rows_of, app_of, is_simple, is_simple_and_free, kind_of, fault_of, matches_of}
use Rattle.command_line.specs.Arguments.{unless_fault, usage_by}
use Rattle.command_line.specs.Flags.{is_set}
use Rattle.tffmt_command.specs.Line.{options_in, options_of, tffmt}
use Rattle.tffmt_command.specs.declared.options.FmtOptions.{FmtOptions}
use Rattle.tffmt_command.specs.declared.options.Usage.{Usage}
use Rattle.tffmt_command.specs.declared.options.Usage.TheVariants.{BadLine, Help, OutOfMemory}
use Rattle.command_line.proofs.AskedLemmas.{Same, refused_line}
use Rattle.command_line.proofs.OneFaultLemmas.{one_fault}
use Rattle.tffmt_command.proofs.options.options.Goals as goal

pub returns-in-Ok-try_get_matches_from : goal.returns-in-Ok-try_get_matches_from
returns-in-Ok-try_get_matches_from c =
    let app_is : app_of c.in-Ok.command ≡ tffmt = c.in-Ok.ensures in
    let words : List Text = map (λ s. s.now) c.args.words.now in
    let none : fault_of tffmt words ≡ [] = ap (λ a. fault_of a words) (sym app_is) ∙ c.in-Ok-try_get_matches_from.ensures.kinds (ap is_simple_and_free app_is) in
    let rows : rows_of (found_of c.in-Ok-try_get_matches_from.matches) ≡ matches_of tffmt words =
    (c.in-Ok-try_get_matches_from.ensures.matches (ap is_simple app_is)).0 ∙ ap (λ a. matches_of a words) app_is in
    let set = c.is_flag_set.ensures ∙ ap (λ r. is_set (codes "check") r) rows in
    inr (ap (λ b. Ok (record { check = b })) set ∙ ap (λ f. unless_fault (usage_by OutOfMemory Help BadLine) f (options_in (matches_of tffmt words))) (sym none))

pub returns-in-Err : goal.returns-in-Err
returns-in-Err c =
    let app_is : app_of c.in-Ok.command ≡ tffmt = c.in-Ok.ensures in
    let words : List Text = map (λ s. s.now) c.args.words.now in
    let kinds = subst (λ a. HasKind (fault_of a words) c.in-Err.error) app_is (c.in-Err.ensures.kinds (ap is_simple_and_free app_is)) in
    subst (λ (u : Usage). Same FmtOptions Usage (Err u) (Err OutOfMemory) ⊎ Same FmtOptions Usage (Err u) (options_of words)) (sym c.usage_for.ensures)
    (refused_line OutOfMemory Help BadLine (fault_of tffmt words) (options_in (matches_of tffmt words)) (kind_of c.in-Err.error) (one_fault tffmt words refl refl) kinds)
