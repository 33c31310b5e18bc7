use Rattle.std.proofs.Common.{◌<◌, ◌≤◌, arith, inr, length, map}
use Rattle.std.proofs.lemmas.List.{length-map}
use Rattle.std.specs.Borrow.{Bor}
use Rattle.std.specs.Prelude.{List, ℕ}
use Rattle.rule_set.specs.RuleSets.{rules_of}
use Rattle.tfrules_command.specs.Line.{max_files}
use Rattle.tfrules_command.proofs.AskedRuleLemmas.{few_enough, too_many}
use Rattle.tfrules_command.proofs.options.options_for.Goals as goal

pub returns-then-given-gt-MAX_FILES : goal.returns-then-given-gt-MAX_FILES
returns-then-given-gt-MAX_FILES c =
    let more : max_files < length (map (λ (name : Bor (List ℕ)). name.now) c.args.given.now) = omega (arith, length-map c.args.given.now (λ (name : Bor (List ℕ)). name.now), c.if-given-gt-MAX_FILES.true) in
    inr (too_many c.args.force _ (rules_of c.args.settings.rules) c.args.settings.naming c.args.minimum more)

pub returns-in-Ok : goal.returns-in-Ok
returns-in-Ok c =
    let few : length (map (λ (name : Bor (List ℕ)). name.now) c.args.given.now) ≤ max_files = omega (arith, length-map c.args.given.now (λ (name : Bor (List ℕ)). name.now), c.if-given-gt-MAX_FILES.false) in
    inr (few_enough c.args.force _ (rules_of c.args.settings.rules) c.args.settings.naming c.args.minimum c.in-Ok.files few c.in-Ok.ensures)
