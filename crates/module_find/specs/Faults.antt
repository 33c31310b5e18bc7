-- Names that can't be linted.
use Rattle.std.specs.Prelude.{ℕ, List, [], ◌∷◌, Option, Some, None, flat_map}
use Rattle.file_tree.specs.FaultTexts.{tree_fault_text}
use Rattle.file_tree.specs.Files.{Name}
use Rattle.file_tree.specs.declared.fault.TreeFault.{TreeFault}
use Rattle.file_tree.specs.declared.walk.Found.{Found}
use Rattle.module_find.specs.Refusals.{Refusal, refusal_line, refusal_of, reported_fault}

abbrev pub refusal_by : Option TreeFault → Name → List Refusal
refusal_by None name = []
refusal_by (Some fault) name = refusal_of name (tree_fault_text (reported_fault fault)) ∷ []

-- the refusal of a found name that can't be linted
abbrev pub refusal_in : Found → List Refusal
refusal_in f = refusal_by f.fault f.name.items

-- the line of that refusal
abbrev pub fault_lines : Found → List ℕ
fault_lines f = flat_map refusal_line (refusal_in f)
