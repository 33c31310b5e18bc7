-- A text stored before others.
use Rattle.std.proofs.Common.{◌≡◌, ℕ, Bool, true, false, List, ◌∷◌, Option, Some, None, refl, sym, subst, cond, true≢false}
use Rattle.std.specs.Prelude.{IsSome, find, option_map, if◌then◌else◌}
use Rattle.std.specs.Str.{bytes_eq}
use Rattle.std.proofs.lemmas.Slice.Eq.{bytes_eq-Decides}
use Rattle.file_tree.specs.Files.{Name, with_bytes}
use Rattle.tree_devices.specs.MemoryFiles.{files_in, text_in}
use Rattle.tree_devices.specs.declared.known.Known.{Known}
use Rattle.tree_devices.specs.declared.stored.Stored.{Stored}

given : (o : Option (List ℕ)) (bytes : List ℕ) → IsSome o → Some bytes ≡ option_map (λ _. bytes) o
given None bytes h = absurd (true≢false (sym h))
given (Some x) bytes h = refl

one_more : (files : List Stored) (s : Stored) (other : Name) → IsSome (text_in files s.name.items)
    → text_in (s ∷ files) other ≡ (if bytes_eq other s.name.items then option_map (λ _. s.bytes.items) (text_in files other) else text_in files other)
one_more files s other h = by (bytes_eq other s.name.items) refl
  where
    by : (v : Bool) → bytes_eq other s.name.items ≡ v
        → option_map (λ t. t.bytes.items) (cond v (Some s) (find (λ t. bytes_eq other t.name.items) files))
        ≡ (if v then option_map (λ _. s.bytes.items) (text_in files other) else text_in files other)
    by true e = given (text_in files other) s.bytes.items (subst (λ n. IsSome (text_in files n)) (sym ((bytes_eq-Decides other s.name.items).0 e)) h)
    by false e = refl

-- it is the text under its name, if there was one
pub put_first : (known : List Known) (files links : List Stored) (s : Stored) → IsSome (text_in files s.name.items)
    → files_in known (s ∷ files) links ≡ with_bytes (files_in known files links) s.name.items s.bytes.items
put_first known files links s h = λ i. record (files_in known files links) { told = λ other. one_more files s other h i }
