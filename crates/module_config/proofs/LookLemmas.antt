-- Folders above, and their entries.
use Rattle.std.proofs.Common.{Global, Vec, ◌≡◌, ◌∙◌, ◌≤◌, ◌<◌, ◌+◌, ◌-◌, ◌++◌, ◌∷◌, [], ℕ, Bool, true, false, List, Contains, All, Option, Some, None, ap, append_assoc, append-nil, arith, get_or, inl, inr, length, map, refl, subst, suc, sym, take, zero}
use Rattle.std.specs.Prelude.{◌==◌, ◌||◌, Result, Ok, Err, IfOk, codes, drop, filter, nat_lt, if◌then◌else◌}
use Rattle.std.proofs.lemmas.List.{length-append, length-drop, length-map, take-append-drop, take-map, take_all, take_more}
use Rattle.std.proofs.lemmas.List.Elements.{All-append, All-contains_itself, All-filter, All-push, Contains-append_left, Contains-get_or}
use Rattle.std.proofs.lemmas.Slice.Eq.{starts_is}
use Rattle.std.proofs.lemmas.Bool.{lt-ltb}
use Rattle.std.proofs.lemmas.Bool.Decides.{Decides-eqb}
use Rattle.std.specs.Borrow.{Bor}
use Rattle.std.specs.Str.{bytes_eq}
use Rattle.file_tree.specs.Names.{begins}
use Rattle.file_tree.specs.declared.kind.Kind.{Kind}
use Rattle.file_tree.specs.Files.{Faults, Files, Name, Tells, with_faults}
use Rattle.file_tree.specs.declared.fault.TreeFault.{TreeFault}
use Rattle.file_tree.specs.declared.fault.TreeFault.TheVariants.{Missing}
use Rattle.file_tree.specs.declared.walk.Found.{Found}
use Rattle.file_tree.proofs.FileLemmas.{none_noted}
use Rattle.module_config.specs.Governs.{Governs, IsFirst, counted_folders, file_at, ups, ups_to}
use Rattle.module_config.specs.Governors.{FailsAt, IsAsked, IsGovernor, OnlyMissing, shown_from}
use Rattle.module_config.specs.Inner.Looking.{IsAskedIn, IsEntryOf, IsUnknownBy, LooksFirst, LooksUp, StuckBy, up_at}
use Rattle.module_config.specs.declared.governor.Governor.{Governor}
use Rattle.module_config.specs.declared.governor.Governor.TheVariants as governor
use Rattle.module_config.specs.declared.start.Start.{Start}
use Rattle.module_config.specs.declared.start.Start.TheVariants as start
use Rattle.module_config.specs.declared.first.Stuck.{Stuck}
use Rattle.module_config.specs.declared.first.Stuck.TheVariants as stuck

-- ---- folders above

ups_here : (path : Name) (n : ℕ) → ups_to path (suc n) ≡ (if get_or path n 0 == 47 then take (suc n) path ∷ [] else []) ++ ups_to path n
ups_here path n = by (get_or path n 0 == 47)
  where
    by : (v : Bool) → (if v then take (suc n) path ∷ ups_to path n else ups_to path n) ≡ (if v then take (suc n) path ∷ [] else []) ++ ups_to path n
    by true = refl
    by false = refl

pub ups_on : (path : Name) (end : ℕ) (old new : List Name) → 0 < end → new ≡ old ++ up_at path end → old ++ ups_to path end ≡ ups path → new ++ ups_to path (end - 1) ≡ ups path
ups_on path zero old new lt e before = absurd (omega (arith, lt))
ups_on path (suc n) old new lt e before =
    let less : suc n - 1 ≡ n = omega arith in
    ap (λ l. l ++ ups_to path (suc n - 1)) e ∙ append_assoc old (up_at path (suc n)) (ups_to path (suc n - 1))
    ∙ ap (λ m. old ++ ((if get_or path m 0 == 47 then take (suc n) path ∷ [] else []) ++ ups_to path m)) less ∙ ap (λ l. old ++ l) (sym (ups_here path n)) ∙ before

pub ups_end : (path : Name) (end : ℕ) (all : List Name) → end ≤ 0 → all ++ ups_to path end ≡ ups path → all ≡ ups path
ups_end path zero all lt e = sym (append-nil all) ∙ e
ups_end path (suc n) all lt e = absurd (omega (arith, lt))

-- ---- calls that say that a name doesn't exist

both_with : (f : Faults) (a b : List TreeFault) → with_faults (with_faults f a) b ≡ with_faults f (a ++ b)
both_with None a b = refl
both_with (Some l) a b = ap (λ x. Some x) (append_assoc l a b)

pub no_call : (was is : Faults) → is ≡ was → OnlyMissing was is
no_call was is e = ([], (λ k d lt. absurd (omega (arith, lt))), e ∙ none_noted was)

pub missing_then : (was between is : Faults) → OnlyMissing was between → OnlyMissing between is → OnlyMissing was is
missing_then was between is a b = (
  a.0 ++ b.0,
  All-append (λ fault. fault ≡ Missing) a.0 b.0 a.1 b.1,
  b.2 ∙ ap (λ f. with_faults f b.0) a.2 ∙ both_with was a.0 b.0,
)

pub fails_then : (was between is : Faults) (f : Found) → OnlyMissing was between → FailsAt between is f → FailsAt was is f
fails_then was between is f a b = (b.0, missing_then was between b.0 a b.1, b.2, b.3, b.4)

pub stuck_then : (P Q : Name → Type 0) (was between is : Faults) (why : Stuck) → ((n : Name) → P n → Q n) → OnlyMissing was between → StuckBy P between is why → StuckBy Q was is why
stuck_then P Q was between is stuck.OutOfMemory h a b = tt
stuck_then P Q was between is (stuck.Failed f) h a b = (h f.name.items b.0, fails_then was between is f a b.1)

-- ---- the first folder with an entry

pub up_false : (files later : Files) (name : Name) (was is : Faults) (v : Bool) → later ≡ files → v ≡ false → LooksUp later name was is v → OnlyMissing was is × (files.entry name ≡ None)
up_false files later name was is true same e h = absurd (cc)
up_false files later name was is false same e h = (h.0, subst (λ (f : Files). f.entry name ≡ None) same h.1)

pub lacks_more : (files : Files) (entry : Name) (folders : List Name) (i : ℕ) (folder : Name) → i < length folders → folder ≡ get_or folders i [] → files.entry (folder ++ entry) ≡ None
    → All (λ f. files.entry (f ++ entry) ≡ None) (take i folders) → All (λ f. files.entry (f ++ entry) ≡ None) (take (i + 1) folders)
lacks_more files entry folders i folder within is none before =
    subst (All (λ f. files.entry (f ++ entry) ≡ None)) (sym (take_more folders i [] within))
    (All-push (λ f. files.entry (f ++ entry) ≡ None) (take i folders) (get_or folders i []) before (subst (λ f. files.entry (f ++ entry) ≡ None) is none))

pub entry_there : (files : Files) (entry : Name) (folders : List Name) (n : ℕ) (folder : Name) (was between is : Faults) → n < length folders → folder ≡ get_or folders n [] → OnlyMissing was between
    → All (λ f. files.entry (f ++ entry) ≡ None) (take n folders) → LooksUp files (folder ++ entry) between is true → LooksFirst files entry folders was is n
entry_there files entry folders n folder was between is lt at missing lack up = (
  missing_then was between is missing (no_call between is up.0),
  record {
    within = omega (arith, lt);
    lack = lack;
    has = λ _. subst (λ f. (kind : Kind) × Tells (files.entry (f ++ entry)) kind) at up.1;
  },
)

pub none_there : (files : Files) (entry : Name) (folders : List Name) (i n : ℕ) (was is : Faults) → n ≡ length folders → length folders ≤ i → OnlyMissing was is → All (λ f. files.entry (f ++ entry) ≡ None) (take i folders)
    → LooksFirst files entry folders was is n
none_there files entry folders i n was is e le missing lack = (
  missing,
  record {
    within = omega (arith, e);
    lack = subst (All (λ f. files.entry (f ++ entry) ≡ None)) (take_all i folders le ∙ sym (take_all n folders (omega (arith, e)))) lack;
    has = λ lt. absurd (omega (arith, e, lt));
  },
)

pub entry_stuck : (entry : Name) (folders : List Name) (n : ℕ) (folder name : Name) → n < length folders → folder ≡ get_or folders n [] → name ≡ folder ++ entry → IsEntryOf entry folders name
entry_stuck entry folders n folder name lt at e = (get_or folders n [], Contains-get_or folders n [] lt, e ∙ ap (λ f. f ++ entry) at)

-- ---- those that count

all_at : (P : Name → Type 0) (xs : List Name) (x : Name) → All P xs → Contains xs x → P x
all_at P xs x all c = subst P c.2 (all c.0 x c.1)

pub among : (current : Name) (folders : List Name) (top : ℕ) (f : Name) → Contains (counted_folders current folders top) f → Contains folders f
among current folders top f c = by (nat_lt top (length folders)) c
  where
    own : Name → Bool
    own = λ folder. bytes_eq folder (get_or folders 0 []) || begins current folder

    by : (v : Bool) → Contains (if v then take (top + 1) folders else filter own folders) f → Contains folders f
    by true h = subst (λ l. Contains l f) (take-append-drop (top + 1) folders) (Contains-append_left (take (top + 1) folders) (drop (top + 1) folders) f h)
    by false h = all_at (Contains folders) (filter own folders) f (All-filter own (Contains folders) folders (All-contains_itself folders)) h

pub git_asked : (path : Name) (folders : List Name) → folders ≡ ups path → (name : Name) → IsEntryOf (codes ".git") folders name → IsAskedIn path name
git_asked path folders e name h = (h.0, subst (λ l. Contains l h.0) e h.1, inl h.2)

pub file_asked : (path current : Name) (folders kept : List Name) (top : ℕ) → folders ≡ ups path → kept ≡ counted_folders current folders top → (name : Name) → IsEntryOf (codes ".tfrules") kept name → IsAskedIn path name
file_asked path current folders kept top e k name h = (h.0, subst (λ l. Contains l h.0) e (among current folders top h.0 (subst (λ l. Contains l h.0) k h.1)), inr h.2)

pub all_kept : (current : Name) (folders kept shown : List Name) (top : ℕ) → shown ≡ folders → kept ≡ counted_folders current shown top → kept ≡ counted_folders current folders top
all_kept current folders kept shown top e k = k ∙ ap (λ l. counted_folders current l top) e

pub governs : (files : Files) (current path : Name) (folders kept : List Name) (top at : ℕ) (file : Option Name) (was between is : Faults) → folders ≡ ups path → kept ≡ counted_folders current folders top → LooksFirst files (codes ".git") folders was between top
    → LooksFirst files (codes ".tfrules") kept between is at → file ≡ file_at kept at → OnlyMissing was is × Governs files current path file
governs files current path folders kept top at file was between is e k first second f = (
  missing_then was between is first.0 second.0,
  record {
    top = top;
    is_top = subst (λ l. IsFirst files (codes ".git") l top) e first.1;
    at = at;
    is_at = subst (λ l. IsFirst files (codes ".tfrules") l at) (k ∙ ap (λ l. counted_folders current l top) e) second.1;
    is = f ∙ ap (λ l. file_at l at) (k ∙ ap (λ l. counted_folders current l top) e);
  },
)

-- ---- full paths as they are shown

pub begins_within : (front name : Name) (v : Bool) → v ≡ begins front name → v ≡ true → length front ≤ length name
begins_within front name v e t =
    let long : length name ≡ length (front ++ drop (length front) name) = ap length ((starts_is Decides-eqb name front (begins front name) refl).0 (sym e ∙ t)) in
    omega (arith, long, length-append front (drop (length front) name))

-- ---- the governor

pub path_failed : (files : Files) (folder slice path name : Name) → slice ≡ path → Tells (files.path folder) path → IsAskedIn slice name → IsAsked files folder name
path_failed files folder slice path name e t h = inr (path, t, h.0, subst (λ l. Contains (ups l) h.0) e h.1, h.2)

pub stuck_unknown : {E : Type 0} (files : Files) (current folder : Name) (P : Name → Type 0) (was is : Faults) (why : Stuck) (r : Result Governor E) → ((n : Name) → P n → IsAsked files folder n) → StuckBy P was is why → IfOk r (IsUnknownBy why)
    → IfOk r (IsGovernor files current folder was is)
stuck_unknown files current folder P was is why (Err e) h s u = tt
stuck_unknown files current folder P was is stuck.OutOfMemory (Ok g) h s u = absurd u
stuck_unknown files current folder P was is (stuck.Failed f) (Ok governor.Free) h s u = absurd u
stuck_unknown files current folder P was is (stuck.Failed f) (Ok (governor.File n)) h s u = absurd u
stuck_unknown files current folder P was is (stuck.Failed f) (Ok (governor.Unknown g)) h s u = subst (λ (x : Found). IsAsked files folder x.name.items × FailsAt was is x) (sym u) (h f.name.items s.0, s.1)

-- ---- up to the top of a repository

when : {A : Type 0} (v : Bool) (a b : A) → v ≡ true → (if v then a else b) ≡ a
when true a b e = refl
when false a b e = absurd (cc)

pub counted_top : (current : Name) (folders kept : List (Bor (List ℕ))) (top n : ℕ) → n ≡ length folders → top < n → kept ≡ take (top + 1) folders
    → map (λ (f : Bor (List ℕ)). f.now) kept ≡ counted_folders current (map (λ (f : Bor (List ℕ)). f.now) folders) top
counted_top current folders kept top n e lt is =
    let within : top < length (map (λ (f : Bor (List ℕ)). f.now) folders) = omega (arith, e, lt, length-map folders (λ (f : Bor (List ℕ)). f.now)) in
    ap (map (λ (f : Bor (List ℕ)). f.now)) is ∙ sym (take-map (λ (f : Bor (List ℕ)). f.now) (top + 1) folders) ∙ sym (when (nat_lt top (length (map (λ (f : Bor (List ℕ)). f.now) folders))) _ _ (lt-ltb _ _ within))

-- ---- full paths, by their beginnings

shown_if : (v : Bool) (rest path : Name) → v ≡ true → rest ≡ (if v then rest else path)
shown_if true rest path e = refl
shown_if false rest path e = absurd (cc)

shown_else : (v : Bool) (rest path : Name) → v ≡ false → path ≡ (if v then rest else path)
shown_else false rest path e = refl
shown_else true rest path e = absurd (cc)

pub shown_whole : (from : Start) (current : Vec ℕ Global) (path front : Name) (v : Bool) → from ≡ start.At current → front ≡ current.items → v ≡ begins front path → v ≡ false → path ≡ shown_from from path
shown_whole from current path front v s f e none =
    shown_else (begins current.items path) (drop (length current.items) path) path (ap (λ l. begins l path) (sym f) ∙ sym e ∙ none) ∙ sym (ap (λ x. shown_from x path) s)

pub shown_rest : (from : Start) (current : Vec ℕ Global) (path front : Name) (n : ℕ) (v : Bool) → from ≡ start.At current → front ≡ current.items → n ≡ length current.items → v ≡ begins front path → v ≡ true
    → take (length path - n) (drop n path) ≡ shown_from from path
shown_rest from current path front n v s f len e whole =
    take_all (length path - n) (drop n path) (omega (arith, length-drop n path))
    ∙ ap (λ m. drop m path) len
    ∙ shown_if (begins current.items path) (drop (length current.items) path) path (ap (λ l. begins l path) (sym f) ∙ sym e ∙ whole) ∙ sym (ap (λ x. shown_from x path) s)
