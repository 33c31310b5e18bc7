use Rattle.std.proofs.Common.{◌≡◌, ◌∙◌, [], List, ap, map}
use Rattle.std.specs.Prelude.{unwrap_or}
use Rattle.clap.specs.Words.{Text, app_of, first_of, found_of, is_simple, matches_of, rows_of}
use Rattle.lint_command.specs.Line.{tfrules_all}
use Rattle.lint_command.proofs.wrong_value.value_of.Goals as goal

pub returns-in-Ok : goal.returns-in-Ok
returns-in-Ok c =
    let app_is : app_of c.in_ok-command.command ≡ tfrules_all = c.in_ok-command.ensures in
    let words : List Text = map (λ s. s.now) c.args.words.now in
    let rows : rows_of (found_of c.in-Ok.matches) ≡ matches_of tfrules_all words = (c.in-Ok.ensures.matches (ap is_simple app_is)).0 ∙ ap (λ a. matches_of a words) app_is in
    c.value_in.ensures ∙ ap (λ r. unwrap_or (first_of c.args.option.now r) []) rows
