-- Looks and runs over trees in memory.
use Rattle.std.proofs.Common.{◌≡◌, ◌∙◌, ◌⊎◌, ◌++◌, ◌∷◌, ◌<◌, ◌≤◌, ◌+◌, [], ℕ, Bool, true, false, List, Option, Some, None, All, ap, get_or, inl, inr, length, refl, sym, subst, take}
use Rattle.std.specs.Prelude.{◌&&◌, ◌||◌, ◌≢◌, option_map}
use Rattle.std.specs.List.{list_any}
use Rattle.file_tree.specs.Files.{Faults, Files, with_fault}
use Rattle.file_tree.specs.declared.fault.TreeFault.{TreeFault}
use Rattle.file_tree.specs.declared.fault.TreeFault.TheVariants.{OutOfMemory}
use Rattle.tree_format.specs.Looks.{Notes, failure_of}
use Rattle.tree_format.specs.declared.outcome.Outcome.{Outcome}
use Rattle.file_tree.specs.declared.tree.Writing.{Writing}
use Rattle.file_tree.specs.declared.walk.Found.{Found}
use Rattle.std.proofs.lemmas.List.{take_all, take_more}
use Rattle.std.proofs.lemmas.List.Elements.{All-push, All-weaker}
use Rattle.tree_format.specs.GoodRuns.{AreReady, IsReady}
use Rattle.tree_format.specs.declared.mode.Mode.TheVariants.{Write}
use Rattle.tree_devices.specs.Runs.{NotesOne, faults_of}
use Rattle.tree_devices.specs.Inner.Told.{IsReadyIn, IsToldIn}

one_told : (fault : Option TreeFault) → with_fault (Some []) fault ≡ Some (faults_of fault)
one_told None = refl
one_told (Some fault) = refl

pub notes_one : (before after : Faults) (answer : Outcome) → before ≡ Some [] → Notes before after answer → NotesOne after answer
notes_one before after answer fresh notes = by notes.is
  where
    by : (after ≡ with_fault before (failure_of answer)) ⊎ ((failure_of answer ≡ Some OutOfMemory) × (after ≡ before)) → NotesOne after answer
    by (inl h) = inl (h ∙ ap (λ f. with_fault f (failure_of answer)) fresh ∙ one_told (failure_of answer))
    by (inr h) = inr (h.0, h.1 ∙ fresh)

-- ---- files that the tree tells

pub ready_in : (files : Files) (f : Found) (name : List ℕ) → f.fault ≡ None → name ≡ f.name.items → IsToldIn files name → IsReadyIn files f
ready_in files f name none is told =
    let it : IsToldIn files f.name.items = subst (IsToldIn files) is told in
    λ writing. (none, subst (IsReady false (Write writing) f.name.items) (sym it.1) (it.2, tt, tt))

both_true : (v w : Bool) → (v && w) ≡ true → (v ≡ true) × (w ≡ true)
both_true true true e = (refl, refl)
both_true true false e = absurd (cc)
both_true false w e = absurd (cc)

pub ready_more : (P : Found → Type 0) (all : List Found) (i : ℕ) (d : Found) (are one new : Bool) → i < length all → (are ≡ true → All P (take i all)) → d ≡ get_or all i d → (one ≡ true → P d) → new ≡ (are && one)
    → new ≡ true → All P (take (i + 1) all)
ready_more P all i d are one new within before same each is e =
    let both = both_true are one (sym is ∙ e) in
    subst (All P) (sym (take_more all i d within)) (All-push P (take i all) (get_or all i d) (before both.0) (subst P same (each both.1)))

pub all_ready : (files : Files) (all : List Found) (n : ℕ) (writing : Writing) → length all ≤ n → All (IsReadyIn files) (take n all) → AreReady false (Write writing) files all
all_ready files all n writing end ready =
    All-weaker (IsReadyIn files) (λ f. (f.fault ≡ None) × IsReady false (Write writing) f.name.items (files.told (files.real f.name.items))) (λ f h. h writing) all (subst (All (IsReadyIn files)) (take_all n all end) ready)
