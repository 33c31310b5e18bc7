-- The answers of the device's calls, step by step.
use Rattle.std.proofs.Common.{◌≡◌, ◌≢◌, ◌∙◌, ◌<◌, ◌+◌, ◌⊎◌, ◌++◌, ◌∷◌, [], ℕ, Bool, Bor, true, false, List, Option, Some, None, Result, Ok, Err, OnOk, Contains, ap, append_assoc, append-nil, arith, get_or, inl, inr, length, map, refl, subst, sym, take}
use Rattle.std.proofs.lemmas.List.{map-append, map_more}
use Rattle.file_tree.specs.Below.{IsOther, maybe}
use Rattle.file_tree.specs.Choices.{Chosen, is_excluded, is_wanted}
use Rattle.file_tree.specs.Files.{Faults, Files, Name, Tells, with_fault}
use Rattle.file_tree.specs.Finds.{AreReal, Failure, IsOtherIn, with_failures}
use Rattle.file_tree.specs.FolderFiles.{AreHeard}
use Rattle.file_tree.specs.Inner.Walking.{Adds, Enters, Hears, HearsGiven, Reached, TakesIf, TakesLinked, TakesSpecial, failures_in, failures_of}
use Rattle.file_tree.specs.Ordered.{Orders}
use Rattle.file_tree.specs.Paths.{tidy_path}
use Rattle.file_tree.specs.declared.fault.TreeFault.{TreeFault}
use Rattle.file_tree.specs.declared.fault.TreeFault.TheVariants.{OtherKind}
use Rattle.file_tree.specs.declared.kind.Identity.{Identity}
use Rattle.file_tree.specs.declared.kind.Kind.{Kind}
use Rattle.file_tree.specs.declared.kind.Kind.TheVariants.{File, Folder, Link, Other}
use Rattle.file_tree.specs.declared.walk.Found.{Found}
use Rattle.file_tree.specs.declared.walk.FoundFile.{FoundFile}
use Rattle.std.proofs.lemmas.List.Elements.{Contains-append_cases, Contains-append_left, Contains-append_right}
use Rattle.file_tree.proofs.FileLemmas.{none_noted}
use Rattle.file_tree.proofs.OrderLemmas.{cons_cases, none_in}

-- ---- lists of calls that failed

-- a name reported with this fault
abbrev pub failure : Name → TreeFault → Failure
failure name fault = record { name = name; fault = fault }

abbrev why : Failure → TreeFault
why f = f.fault

failures_append : (front back : List Found) → failures_in (front ++ back) ≡ failures_in front ++ failures_in back
failures_append [] back = refl
failures_append (f ∷ front) back =
    ap (λ l. failures_of f.name.items f.fault ++ l) (failures_append front back) ∙ sym (append_assoc (failures_of f.name.items f.fault) (failures_in front) (failures_in back))

more_failures : (faults : Faults) (one more : List Failure) → with_failures (with_failures faults one) more ≡ with_failures faults (one ++ more)
more_failures None one more = refl
more_failures (Some all) one more = ap (λ l. Some l) (append_assoc all (map why one) (map why more) ∙ ap (λ l. all ++ l) (sym (map-append why one more)))

one_failure : (faults : Faults) (name : Name) (fault : Option TreeFault) → with_fault faults fault ≡ with_failures faults (failures_of name fault ++ [])
one_failure faults name None = none_noted faults
one_failure faults name (Some fault) = refl

alone : (name : Name) (fault : TreeFault) (o : Option TreeFault) → o ≡ Some fault → Contains (failures_of name o) (failure name fault)
alone name fault o e = subst (λ (p : Option TreeFault). Contains (failures_of name p) (failure name fault)) (sym e) (0, omega arith, refl)

abbrev Has : Found → TreeFault → List Failure → Type 0
Has f fault failures = Contains failures (failure f.name.items fault)

first_or_later : (g : Found) (found : List Found) (f : Found) (fault : TreeFault) → f.fault ≡ Some fault → (g ≡ f) ⊎ Contains found f → (Contains found f → Has f fault (failures_in found))
    → Has f fault (failures_of g.name.items g.fault ++ failures_in found)
first_or_later g found f fault e (inl same) later =
    Contains-append_left (failures_of g.name.items g.fault) (failures_in found) (failure f.name.items fault)
    (subst (λ (h : Found). Has f fault (failures_of h.name.items h.fault)) (sym same) (alone f.name.items fault f.fault e))
first_or_later g found f fault e (inr within) later = Contains-append_right (failures_of g.name.items g.fault) (failures_in found) (failure f.name.items fault) (later within)

reported_in : (found : List Found) (f : Found) (fault : TreeFault) → Contains found f → f.fault ≡ Some fault → Has f fault (failures_in found)
reported_in [] f fault c e = absurd (none_in f c)
reported_in (g ∷ found) f fault c e = first_or_later g found f fault e (cons_cases g f found c) (λ within. reported_in found f fault within e)

-- ---- steps

pub hears_none : (old new : List Found) (before after : Faults) → new ≡ old → after ≡ before → Hears old new before after
hears_none old new before after same still = record { more = []; found = same ∙ sym (append-nil old); heard = still ∙ none_noted before }

pub hears_then : (old between new : List Found) (before mid after : Faults) → Hears old between before mid → Hears between new mid after → Hears old new before after
hears_then old between new before mid after one two = record {
  more = one.more ++ two.more;
  found = two.found ∙ ap (λ l. l ++ two.more) one.found ∙ append_assoc old one.more two.more;
  heard = two.heard ∙ ap (λ f. with_failures f (failures_in two.more)) one.heard ∙ more_failures before (failures_in one.more) (failures_in two.more) ∙ ap (with_failures before) (sym (failures_append one.more two.more));
}

hears_adds : (name : Name) (fault : Option TreeFault) (file : Option FoundFile) (old new : Reached) (before after : Faults) → Adds name fault file old new → after ≡ with_fault before fault → Hears old.found new.found before after
hears_adds name fault file old new before after adds noted = record {
  more = adds.f ∷ [];
  found = adds.found;
  heard = noted ∙ one_failure before adds.f.name.items fault ∙ ap (λ o. with_failures before (failures_of adds.f.name.items o ++ [])) (sym adds.fault_is);
}

hears_if : (taken : Bool) (path : Name) (identity : Identity) (old new : Reached) (before after : Faults) → TakesIf taken path identity old new → after ≡ before → Hears old.found new.found before after
hears_if true path identity old new before after adds still = hears_adds path None _ old new before after adds still
hears_if false path identity old new before after same still = hears_none old.found new.found before after (ap (λ (r : Reached). r.found) same) still

hears_special : (specials : Bool) (path : Name) (old new : Reached) (before after : Faults) → TakesSpecial specials path old new → after ≡ before → Hears old.found new.found before after
hears_special true path old new before after adds still = hears_adds path None None old new before after adds still
hears_special false path old new before after same still = hears_none old.found new.found before after (ap (λ (r : Reached). r.found) same) still

hears_linked : (specials : Bool) (kind : Kind) (path : Name) (old new : Reached) (before after : Faults) → TakesLinked specials kind path old new → after ≡ before → Hears old.found new.found before after
hears_linked specials Folder path old new before after same still = hears_none old.found new.found before after (ap (λ (r : Reached). r.found) same) still
hears_linked specials (File identity) path old new before after adds still = hears_adds path None _ old new before after adds still
hears_linked specials Link path old new before after same still = hears_none old.found new.found before after (ap (λ (r : Reached). r.found) same) still
hears_linked specials Other path old new before after takes still = hears_special specials path old new before after takes still

-- ---- given names

-- the reports are real
hears_real : (files : Files) (chosen : Chosen) (path : Name) (old new : List Found) (before after : Faults) → Hears old new before after → HearsGiven files chosen path old new before after
hears_real files chosen path old new before after h = record {
  more = h.more;
  found = h.found;
  real = record { noted = failures_in h.more; is = h.heard; real = λ f fault c e. inl (reported_in h.more f fault c e) };
}

-- a file was told for its name
hears_other : (files : Files) (chosen : Chosen) (path : Name) (old new : Reached) (before after : Faults) → IsOther maybe files chosen path → Adds (tidy_path path) (Some OtherKind) None old new → after ≡ before
    → HearsGiven files chosen path old.found new.found before after
hears_other files chosen path old new before after other adds still = record {
  more = adds.f ∷ [];
  found = adds.found;
  real = record { noted = []; is = still ∙ none_noted before; real = λ f fault c e. inr (path, (0, omega arith, refl), (other, name f (cons_cases adds.f f [] c), kind f fault e (cons_cases adds.f f [] c))) };
}
  where
    name : (f : Found) → (adds.f ≡ f) ⊎ Contains [] f → f.name.items ≡ tidy_path path
    name f (inl e) = ap (λ (g : Found). g.name.items) (sym e) ∙ adds.name_is
    name f (inr c) = absurd (none_in f c)

    some_same : (x y : TreeFault) → Some x ≡ Some y → x ≡ y
    some_same x y e = cc

    kind : (f : Found) (fault : TreeFault) → f.fault ≡ Some fault → (adds.f ≡ f) ⊎ Contains [] f → fault ≡ OtherKind
    kind f fault e (inl same) = some_same fault OtherKind (sym e ∙ ap (λ (g : Found). g.fault) (sym same) ∙ adds.fault_is)
    kind f fault e (inr c) = absurd (none_in f c)

-- ---- in the code's terms

pub heard_special : {X E : Type 0} (r : Result X E) (specials : Bool) (path : Name) (old new : Reached) (before after : Faults) → OnOk r (TakesSpecial specials path old new) → after ≡ before
    → OnOk r (Hears old.found new.found before after)
heard_special (Ok x) specials path old new before after takes still = hears_special specials path old new before after takes still
heard_special (Err e) specials path old new before after takes still = tt

pub heard_linked : {X E : Type 0} (r : Result X E) (specials : Bool) (kind : Kind) (path : Name) (old new : Reached) (before after : Faults) → OnOk r (TakesLinked specials kind path old new) → after ≡ before
    → OnOk r (Hears old.found new.found before after)
heard_linked (Ok x) specials kind path old new before after takes still = hears_linked specials kind path old new before after takes still
heard_linked (Err e) specials kind path old new before after takes still = tt

pub heard_if : {X E : Type 0} (r : Result X E) (taken : Bool) (path : Name) (identity : Identity) (old new : Reached) (before after : Faults) → OnOk r (TakesIf taken path identity old new) → after ≡ before
    → OnOk r (Hears old.found new.found before after)
heard_if (Ok x) taken path identity old new before after takes still = hears_if taken path identity old new before after takes still
heard_if (Err e) taken path identity old new before after takes still = tt

pub heard_enters : {X E : Type 0} (r : Result X E) (folder : Name) (old new : Reached) (before after : Faults) → OnOk r (Enters folder old new) → after ≡ before
    → OnOk r (Hears old.found new.found before after)
heard_enters (Ok x) folder old new before after enters still = hears_none old.found new.found before after enters.found still
heard_enters (Err e) folder old new before after enters still = tt

pub real_enters : {X E : Type 0} (r : Result X E) (files : Files) (chosen : Chosen) (path folder : Name) (old new : Reached) (before after : Faults) → OnOk r (Enters folder old new) → after ≡ before
    → OnOk r (HearsGiven files chosen path old.found new.found before after)
real_enters (Ok x) files chosen path folder old new before after enters still = hears_real files chosen path old.found new.found before after (hears_none old.found new.found before after enters.found still)
real_enters (Err e) files chosen path folder old new before after enters still = tt

pub real_heard : {X E : Type 0} (r : Result X E) (files : Files) (chosen : Chosen) (path : Name) (old new : List Found) (before after : Faults) → OnOk r (Hears old new before after)
    → OnOk r (HearsGiven files chosen path old new before after)
real_heard (Ok x) files chosen path old new before after h = hears_real files chosen path old new before after h
real_heard (Err e) files chosen path old new before after h = tt

pub real_other : {X E : Type 0} (r : Result X E) (files : Files) (chosen : Chosen) (kind : Kind) (path name : Name) (old new : Reached) (before after : Faults) → Tells (files.kind path) kind → kind ≢ Folder
    → is_excluded chosen (tidy_path path) ≡ false → is_wanted chosen (tidy_path path) ≡ false → name ≡ tidy_path path → OnOk r (Adds name (Some OtherKind) None old new) → after ≡ before
    → OnOk r (HearsGiven files chosen path old.found new.found before after)
real_other (Ok x) files chosen kind path name old new before after tells ne allowed is same adds still =
    hears_other files chosen path old new before after ((kind, tells, ne), is, allowed) (subst (λ n. Adds n (Some OtherKind) None old new) same adds) still
real_other (Err e) files chosen kind path name old new before after tells ne allowed is same adds still = tt

pub real_after : {X E : Type 0} (r : Result X E) (files : Files) (chosen : Chosen) (path : Name) (old new : List Found) (before mid after : Faults) → mid ≡ before → OnOk r (HearsGiven files chosen path old new mid after)
    → OnOk r (HearsGiven files chosen path old new before after)
real_after r files chosen path old new before mid after same h = subst (λ f. OnOk r (HearsGiven files chosen path old new f after)) same h

pub real_fault : {X E : Type 0} (r : Result X E) (files : Files) (chosen : Chosen) (path name : Name) (fault : TreeFault) (old new : Reached) (before after : Faults) → OnOk r (Adds name (Some fault) None old new)
    → after ≡ with_fault before (Some fault) → OnOk r (HearsGiven files chosen path old.found new.found before after)
real_fault (Ok x) files chosen path name fault old new before after adds noted = hears_real files chosen path old.found new.found before after (hears_adds name (Some fault) _ old new before after adds noted)
real_fault (Err e) files chosen path name fault old new before after adds noted = tt

pub real_none : (files : Files) (chosen : Chosen) (path : Name) (old new : List Found) (before after : Faults) → new ≡ old → after ≡ before → HearsGiven files chosen path old new before after
real_none files chosen path old new before after same still = hears_real files chosen path old new before after (hears_none old new before after same still)

pub heard_fault : {X E : Type 0} (r : Result X E) (name : Name) (fault : TreeFault) (old new : Reached) (before after : Faults) → OnOk r (Adds name (Some fault) None old new) → after ≡ with_fault before (Some fault)
    → OnOk r (Hears old.found new.found before after)
heard_fault (Ok x) name fault old new before after adds noted = hears_adds name (Some fault) _ old new before after adds noted
heard_fault (Err e) name fault old new before after adds noted = tt

pub heard_after : {X E : Type 0} (r : Result X E) (old new : List Found) (before mid after : Faults) → mid ≡ before → OnOk r (Hears old new mid after) → OnOk r (Hears old new before after)
heard_after (Ok x) old new before mid after same h = subst (λ f. Hears old new f after) same h
heard_after (Err e) old new before mid after same h = tt

-- ---- the whole walk

other_more : (files : Files) (chosen : Chosen) (paths more : List Name) (name : Name) (fault : TreeFault) → IsOtherIn files chosen paths name fault → IsOtherIn files chosen (paths ++ more) name fault
other_more files chosen paths more name fault h = (h.0, Contains-append_left paths more h.0 h.1, h.2)

other_last : (files : Files) (chosen : Chosen) (paths : List Name) (path name : Name) (fault : TreeFault) → IsOtherIn files chosen (path ∷ []) name fault → IsOtherIn files chosen (paths ++ path ∷ []) name fault
other_last files chosen paths path name fault h = (h.0, Contains-append_right paths (path ∷ []) h.0 h.1, h.2)

-- another path was taken
pub real_more : (files : Files) (chosen : Chosen) (paths : List Name) (path : Name) (old new : List Found) (before mid after : Faults) → AreReal files chosen paths before mid old → HearsGiven files chosen path old new mid after
    → AreReal files chosen (paths ++ path ∷ []) before after new
real_more files chosen paths path old new before mid after one two = record {
  noted = one.noted ++ two.real.noted;
  is = two.real.is ∙ ap (λ f. with_failures f two.real.noted) one.is ∙ more_failures before one.noted two.real.noted;
  real = λ f fault c e. by f fault e (Contains-append_cases old two.more f (subst (λ l. Contains l f) two.found c));
}
  where
    before_it : (f : Found) (fault : TreeFault) → Has f fault one.noted ⊎ IsOtherIn files chosen paths f.name.items fault
        → Has f fault (one.noted ++ two.real.noted) ⊎ IsOtherIn files chosen (paths ++ path ∷ []) f.name.items fault
    before_it f fault (inl d) = inl (Contains-append_left one.noted two.real.noted (failure f.name.items fault) d)
    before_it f fault (inr d) = inr (other_more files chosen paths (path ∷ []) f.name.items fault d)

    with_it : (f : Found) (fault : TreeFault) → Has f fault two.real.noted ⊎ IsOtherIn files chosen (path ∷ []) f.name.items fault
        → Has f fault (one.noted ++ two.real.noted) ⊎ IsOtherIn files chosen (paths ++ path ∷ []) f.name.items fault
    with_it f fault (inl d) = inl (Contains-append_right one.noted two.real.noted (failure f.name.items fault) d)
    with_it f fault (inr d) = inr (other_last files chosen paths path f.name.items fault d)

    by : (f : Found) (fault : TreeFault) → f.fault ≡ Some fault → Contains old f ⊎ Contains two.more f
        → Has f fault (one.noted ++ two.real.noted) ⊎ IsOtherIn files chosen (paths ++ path ∷ []) f.name.items fault
    by f fault e (inl d) = before_it f fault (one.real f fault d e)
    by f fault e (inr d) = with_it f fault (two.real.real f fault d e)

pub real_taken : (files later : Files) (chosen : Chosen) (paths : List (Bor (List ℕ))) (i : ℕ) (d : Bor (List ℕ)) (old new : List Found) (before mid after : Faults) → later ≡ files → i < length paths
    → AreReal files chosen (map (λ path. path.now) (take i paths)) before mid old → HearsGiven later chosen (get_or paths i d).now old new mid after
    → AreReal files chosen (map (λ path. path.now) (take (i + 1) paths)) before after new
real_taken files later chosen paths i d old new before mid after same within so one =
    subst (λ l. AreReal files chosen l before after new) (sym (map_more (λ (path : Bor (List ℕ)). path.now) paths i d within))
    (real_more files chosen (map (λ path. path.now) (take i paths)) (get_or paths i d).now old new before mid after so
    (subst (λ f. HearsGiven f chosen (get_or paths i d).now old new mid after) same one))

pub real_at_first : (files : Files) (chosen : Chosen) (found : List Found) (before after : Faults) → found ≡ [] → after ≡ before → AreReal files chosen [] before after found
real_at_first files chosen found before after none still = record {
  noted = [];
  is = still ∙ none_noted before;
  real = λ f fault c e. absurd (none_in f (subst (λ l. Contains l f) none c));
}

pub heard_real : (files : Files) (chosen : Chosen) (paths : List Name) (first found some : List Found) (before mid after : Faults) → AreReal files chosen paths before mid first → Hears first found mid after → ((f : Found) → Contains some f → Contains found f)
    → AreReal files chosen paths before after some
heard_real files chosen paths first found some before mid after one two only = record {
  noted = one.noted ++ failures_in two.more;
  is = two.heard ∙ ap (λ f. with_failures f (failures_in two.more)) one.is ∙ more_failures before one.noted (failures_in two.more);
  real = λ f fault c e. by f fault e (Contains-append_cases first two.more f (subst (λ l. Contains l f) two.found (only f c)));
}
  where
    first_of : (f : Found) (fault : TreeFault) → Has f fault one.noted ⊎ IsOtherIn files chosen paths f.name.items fault
        → Has f fault (one.noted ++ failures_in two.more) ⊎ IsOtherIn files chosen paths f.name.items fault
    first_of f fault (inl d) = inl (Contains-append_left one.noted (failures_in two.more) (failure f.name.items fault) d)
    first_of f fault (inr d) = inr d

    by : (f : Found) (fault : TreeFault) → f.fault ≡ Some fault → Contains first f ⊎ Contains two.more f
        → Has f fault (one.noted ++ failures_in two.more) ⊎ IsOtherIn files chosen paths f.name.items fault
    by f fault e (inl d) = first_of f fault (one.real f fault d e)
    by f fault e (inr d) = inl (Contains-append_right one.noted (failures_in two.more) (failure f.name.items fault) (reported_in two.more f fault d e))

-- for any judge with this choice
pub real_chosen : (files : Files) (told chosen : Chosen) (paths : List Name) (first found ordered : List Found) (before mid after : Faults) → told ≡ chosen → AreReal files told paths before mid first
    → Hears first found mid after → Orders found ordered → AreReal files chosen paths before after ordered
real_chosen files told chosen paths first found ordered before mid after is one two o =
    subst (λ (c : Chosen). AreReal files c paths before after ordered) is (heard_real files told paths first found ordered before mid after one two o.only)

-- ---- one folder

pub folder_heard : (old found ordered : List Found) (before after : Faults) → old ≡ [] → Hears old found before after → Orders found ordered → AreHeard before after ordered
folder_heard old found ordered before after none h o = record {
  noted = failures_in h.more;
  is = h.heard;
  real = λ f fault c e. reported_in h.more f fault (subst (λ l. Contains l f) (h.found ∙ ap (λ l. l ++ h.more) none) (o.only f c)) e;
}
