-- Names that can't be linted.
use Rattle.std.proofs.Common.{◌≡◌, ◌∙◌, ◌<◌, ◌+◌, ◌++◌, ℕ, List, Option, ap, append-nil, drop, flat_map, get_or, length, sym}
use Rattle.command_line.proofs.ListCutLemmas.{from_here}
use Rattle.file_tree.specs.FaultTexts.{tree_fault_text}
use Rattle.file_tree.specs.declared.fault.TreeFault.{TreeFault}
use Rattle.file_tree.specs.declared.walk.Found.{Found}
use Rattle.module_find.specs.Faults.{fault_lines, refusal_by}
use Rattle.module_find.specs.Refusals.{refusal_line, refusal_of, reported_fault}

pub fault_said : (f : Found) (fault told : TreeFault) (name text : List ℕ) → f.fault ≡ Option.Some fault → told ≡ reported_fault fault → name ≡ f.name.items → text ≡ tree_fault_text told → refusal_line (refusal_of name text) ≡ fault_lines f
fault_said f fault told name text e et en ex =
    (λ i. refusal_line (refusal_of (en i) (ex i))) ∙ ap (λ t. refusal_line (refusal_of f.name.items (tree_fault_text t))) et
    ∙ sym (append-nil (refusal_line (refusal_of f.name.items (tree_fault_text (reported_fault fault)))))
    ∙ ap (λ o. flat_map refusal_line (refusal_by o f.name.items)) (sym e)

-- the lines for one name and for those after it
pub fault_here : (faults : List Found) (i : ℕ) (f : Found) → i < length faults → f ≡ get_or faults i f → flat_map fault_lines (drop i faults) ≡ fault_lines f ++ flat_map fault_lines (drop (i + 1) faults)
fault_here faults i f lt is = ap (flat_map fault_lines) (from_here faults i f lt is)
