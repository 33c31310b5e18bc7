-- A device that tells nothing.
use Rattle.std.proofs.Common.{◌≡◌, Bool, true, false, List, [], ◌∷◌, ◌++◌, ℕ, Option, Some, None, ap, append_assoc, append-nil, refl, sym}
use Rattle.std.specs.Prelude.{Result, Ok, Err, OnOk, option_map, if◌then◌else◌}
use Rattle.std.specs.Str.{bytes_eq}
use Rattle.file_tree.specs.Files.{Faults, Name, with_fault, with_faults, with_bytes, silent_files}
use Rattle.file_tree.specs.declared.fault.TreeFault.{TreeFault}

abbrev untold : Option (List ℕ)
untold = None

still_untold : (bytes : List ℕ) (v : Bool) → untold ≡ (if v then option_map (λ _. bytes) untold else untold)
still_untold bytes true = refl
still_untold bytes false = refl

put_silent : (name : Name) (bytes : List ℕ) → silent_files ≡ with_bytes silent_files name bytes
put_silent name bytes = λ i. record silent_files { told = λ other. still_untold bytes (bytes_eq other name) i }

-- it also tells nothing of files after a replacement
pub silent_replace : {X Y : Type 0} (r : Result X Y) (name : Name) (bytes : List ℕ) → OnOk r (silent_files ≡ with_bytes silent_files name bytes)
silent_replace (Ok x) name bytes = put_silent name bytes
silent_replace (Err y) name bytes = tt

-- it tells no fault
pub silent_noted : (fault : Option TreeFault) → None ≡ with_fault None fault
silent_noted None = refl
silent_noted (Some fault) = refl

-- ---- the faults of calls in turn

abbrev pub list_of : Option TreeFault → List TreeFault
list_of None = []
list_of (Some fault) = fault ∷ []

pub none_noted : (faults : Faults) → faults ≡ with_faults faults []
none_noted None = refl
none_noted (Some all) = ap (λ l. Some l) (sym (append-nil all))

pub noted_more : (faults : Faults) (more : List TreeFault) (fault : Option TreeFault) → with_fault (with_faults faults more) fault ≡ with_faults faults (more ++ list_of fault)
noted_more faults more None = ap (with_faults faults) (sym (append-nil more))
noted_more None more (Some fault) = refl
noted_more (Some all) more (Some fault) = ap (λ l. Some l) (append_assoc all more (fault ∷ []))
