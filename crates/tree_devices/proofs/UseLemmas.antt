-- The result of a walk over a tree that tells all its faults.
use Rattle.std.proofs.Common.{◌≡◌, ◌∙◌, [], List, ap, Some, Result, Ok, Err}
use Rattle.std.specs.Prelude.{IfOk}
use Rattle.file_tree.specs.Choices.{Chosen}
use Rattle.file_tree.specs.Files.{Faults, Files, Name}
use Rattle.file_tree.specs.Finds.{AreReal, with_failures}
use Rattle.file_tree.specs.declared.walk.Found.{Found}
use Rattle.tree_devices.specs.Uses.{AreOfCalls}

pub of_calls : (files : Files) (chosen : Chosen) (paths : List Name) (before after : Faults) (found : List Found) → before ≡ Some [] → AreReal files chosen paths before after found → AreOfCalls files chosen paths after found
of_calls files chosen paths before after found fresh real =
    record { noted = real.noted; all = real.is ∙ ap (λ f. with_failures f real.noted) fresh; real = real.real }

pub all_of_calls : {A E : Type 0} (r : Result A E) (found : A → List Found) (files : Files) (chosen : Chosen) (paths : List Name) (before after : Faults) → before ≡ Some []
    → IfOk r (λ a. AreReal files chosen paths before after (found a)) → IfOk r (λ a. AreOfCalls files chosen paths after (found a))
all_of_calls (Ok a) found files chosen paths before after fresh real = of_calls files chosen paths before after (found a) fresh real
all_of_calls (Err e) found files chosen paths before after fresh real = tt
