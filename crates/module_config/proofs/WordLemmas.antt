-- The messages, line by line.
use Rattle.std.proofs.Common.{◌≡◌, ◌∙◌, ◌<◌, ◌+◌, ◌++◌, ℕ, List, [], ap, drop, flat_map, get_or, length, sym}
use Rattle.std.specs.Prelude.{codes, Option, Some}
use Rattle.command_line.proofs.ListCutLemmas.{from_here}
use Rattle.file_tree.specs.Files.{Name}
use Rattle.file_tree.specs.FaultTexts.{tree_fault_text}
use Rattle.file_tree.specs.declared.fault.TreeFault.{TreeFault}
use Rattle.module_find.specs.Refusals.{refusal_line, refusal_of}
use Rattle.hcl_source.specs.FaultTexts.{fault_text}
use Rattle.hcl_source.specs.declared.fault.Fault.{Fault}
use Rattle.module_config.specs.Governors.{shown_from}
use Rattle.module_config.specs.Words.{config_lines, fault_line, text_lines, unlinted_line}
use Rattle.module_config.specs.declared.config_file.ConfigFile.{ConfigFile}
use Rattle.module_config.specs.declared.config_file.ConfigText.TheVariants.{Refused, Unread}
use Rattle.module_config.specs.declared.start.Start.{Start}

pub lines_here : {A : Type 0} (line : A → List ℕ) (all : List A) (i : ℕ) (a : A) → i < length all → a ≡ get_or all i a → flat_map line (drop i all) ≡ line a ++ flat_map line (drop (i + 1) all)
lines_here line all i a lt is = ap (flat_map line) (from_here all i a lt is)

pub one_unlinted : (n : ℕ) → n ≡ 1 → codes "1 module not linted: its options aren't known\n" ≡ unlinted_line n
one_unlinted n e = sym (ap unlinted_line e)

pub told_fault_is : (name shown : Name) (o : Option TreeFault) (fault : TreeFault) (text : List ℕ) → o ≡ Some fault → shown ≡ name → text ≡ tree_fault_text fault → refusal_line (refusal_of shown text) ≡ fault_line name o
told_fault_is name shown o fault text e s t = ap (λ n. refusal_line (refusal_of n text)) s ∙ ap (λ x. refusal_line (refusal_of name x)) t ∙ sym (ap (fault_line name) e)

pub refused_told : (start : Start) (file : ConfigFile) (path shown : Name) (fault : Fault) (text : List ℕ) → path ≡ file.name.items → shown ≡ shown_from start path → file.text ≡ Refused fault → text ≡ fault_text fault.kind
    → refusal_line (record { name = shown; at = Some fault.at; text = text; snippet = [] }) ≡ config_lines start file
refused_told start file path shown fault text p s r t =
    ap (λ n. refusal_line (record { name = n; at = Some fault.at; text = text; snippet = [] })) (s ∙ ap (shown_from start) p)
    ∙ ap (λ x. refusal_line (record { name = shown_from start file.name.items; at = Some fault.at; text = x; snippet = [] })) t ∙ sym (ap (text_lines (shown_from start file.name.items)) r)

pub unread_told : (start : Start) (file : ConfigFile) (path shown : Name) (fault : TreeFault) (text : List ℕ) → path ≡ file.name.items → shown ≡ shown_from start path → file.text ≡ Unread fault → text ≡ tree_fault_text fault
    → refusal_line (refusal_of shown text) ≡ config_lines start file
unread_told start file path shown fault text p s r t =
    ap (λ n. refusal_line (refusal_of n text)) (s ∙ ap (shown_from start) p) ∙ ap (λ x. refusal_line (refusal_of (shown_from start file.name.items) x)) t
    ∙ sym (ap (text_lines (shown_from start file.name.items)) r)
