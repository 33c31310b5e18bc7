-- A plan, call by call.
use Rattle.std.proofs.Common.{◌≡◌, ◌∙◌, ◌<◌, ◌+◌, ◌++◌, ◌∷◌, [], ℕ, Bool, true, false, List, Option, Some, None, ap, get_or, length, refl, take}
use Rattle.std.specs.Prelude.{option_map, if◌then◌else◌}
use Rattle.std.specs.Str.{bytes_eq}
use Rattle.std.proofs.lemmas.List.{take_more}
use Rattle.file_tree.specs.Files.{Name, with_bytes, with_fault}
use Rattle.file_tree.specs.declared.fault.TreeFault.{TreeFault}
use Rattle.tree_devices.specs.PlannedFiles.{planned_faults, planned_files}
use Rattle.tree_devices.specs.declared.planned_tree.PlannedName.{PlannedName}

one_more : (plan : List (Option TreeFault)) (planned : Option TreeFault) → Some (planned_faults (plan ++ planned ∷ [])) ≡ with_fault (Some (planned_faults plan)) planned
one_more [] None = refl
one_more [] (Some fault) = refl
one_more (None ∷ plan) planned = one_more plan planned
one_more (Some first ∷ plan) None = ap (λ l. Some (first ∷ l)) (ap planned_faults_or (one_more plan None))
  where
    planned_faults_or : Option (List TreeFault) → List TreeFault
    planned_faults_or None = []
    planned_faults_or (Some l) = l
one_more (Some first ∷ plan) (Some fault) = ap (λ l. Some (first ∷ l)) (ap planned_faults_or (one_more plan (Some fault)))
  where
    planned_faults_or : Option (List TreeFault) → List TreeFault
    planned_faults_or None = []
    planned_faults_or (Some l) = l

-- a place was taken
pub taken : (plan : List (Option TreeFault)) (made : ℕ) (d planned : Option TreeFault) → made < length plan → get_or plan made d ≡ planned
    → Some (planned_faults (take (made + 1) plan)) ≡ with_fault (Some (planned_faults (take made plan))) planned
taken plan made d planned within found =
    ap (λ l. Some (planned_faults l)) (take_more plan made d within) ∙ one_more (take made plan) (get_or plan made d) ∙ ap (with_fault (Some (planned_faults (take made plan)))) found

abbrev untold : Option (List ℕ)
untold = None

untold_at : (bytes : List ℕ) (v : Bool) → untold ≡ (if v then option_map (λ _. bytes) untold else untold)
untold_at bytes true = refl
untold_at bytes false = refl

-- a file whose bytes aren't told is replaced
pub untold_put : (rows : List PlannedName) (name : Name) (bytes : List ℕ) → planned_files rows ≡ with_bytes (planned_files rows) name bytes
untold_put rows name bytes = λ i. record (planned_files rows) { told = λ other. untold_at bytes (bytes_eq other name) i }
