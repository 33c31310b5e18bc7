-- Folders and modules, in turn.
use Rattle.std.proofs.Common.{Option, flat_map, ◌≡◌, ◌∙◌, ◌<◌, ◌+◌, ◌⊎◌, ◌++◌, ◌∷◌, [], ℕ, Bool, true, false, Global, List, None, String, Contains, ap, append-nil, append_assoc, get_or, inl, inr, length, map, refl, subst, string_bytes, sym, take, true≢false}
use Rattle.std.specs.String.{string_vec}
use Rattle.std.specs.Prelude.{◌&&◌, Some, is_some, not, slice_get, Result, Ok, Err, IfOk, OnOk, if◌then◌else◌}
use Rattle.std.specs.Str.{IsUtf8, is_utf8}
use Rattle.std.proofs.lemmas.Grind.{flat_map-append}
use Rattle.std.proofs.lemmas.List.{map-append, take_more}
use Rattle.std.specs.List.{list_all}
use Rattle.std.proofs.lemmas.List.Folds.{list_all-append}
use Rattle.std.proofs.lemmas.List.Elements.{Contains-append_left, Contains-push, Contains-push_cases}
use Rattle.std.proofs.lemmas.Option.{get_or_from_slice_get, slice_get_within}
use Rattle.std.proofs.lemmas.Str.{IsUtf8-from_is_utf8, IsUtf8-string_bytes, is_utf8-from_IsUtf8}
use Rattle.file_tree.specs.Files.{Faults, Files, Name}
use Rattle.file_tree.specs.Ordered.{HasName, Orders}
use Rattle.file_tree.specs.Seen.{all_found}
use Rattle.file_tree.specs.declared.fault.TreeFault.{TreeFault}
use Rattle.file_tree.specs.declared.fault.TreeFault.TheVariants.{NotUtf8}
use Rattle.file_tree.specs.declared.walk.Found.{Found}
use Rattle.file_tree.specs.declared.walk.FoundFile.{FoundFile}
use Rattle.file_tree.specs.declared.walk.ListedFolder.{ListedFolder}
use Rattle.file_tree.proofs.OrderLemmas.{none_in}
use Rattle.module_find.specs.Inner.Adding.{AddsFolder, AddsModule, TakesFound, told_by}
use Rattle.module_find.specs.Modules.{AreAlone, AreFolders, AreFoldersOf, AreModules, IsModule, IsModuleOf, StandsIn, breaks_by, fault_by, file_in, folder_of, is_file_by, is_lost, is_module_file, is_of_module, is_sound, lost_in, name_fault, stands, told_as, told_in}
use Rattle.module_find.specs.declared.module.Module.{Module}
use Rattle.module_find.specs.declared.modules.Modules.{Modules}
use Rattle.module_find.specs.declared.modules.Sorted.{Sorted}

pub not_utf8 : (word : List ℕ) → (IsUtf8 word → ⊥) → is_utf8 word ≡ false
not_utf8 word isnt = by (is_utf8 word) refl
  where
    by : (v : Bool) → is_utf8 word ≡ v → is_utf8 word ≡ false
    by true e = absurd (isnt (IsUtf8-from_is_utf8 word e))
    by false e = e

-- the name of a file isn't UTF-8
pub not_named : (f : Found) (name : Name) → name ≡ f.name.items → f.fault ≡ None → is_module_file f.name.items ≡ true → is_some f.file ≡ true → (IsUtf8 f.name.items → ⊥) → fault_by f.fault f.file name ≡ Some NotUtf8
not_named f name same good named is isnt =
    subst (λ n. fault_by f.fault f.file n ≡ Some NotUtf8) (sym same)
    (subst (λ o. fault_by o f.file f.name.items ≡ Some NotUtf8) (sym good) (by f.file is))
  where
    by : (file : Option FoundFile) → is_some file ≡ true → name_fault file f.name.items ≡ Some NotUtf8
    by None e = absurd (true≢false (sym e))
    by (Some file) e = λ i. if named i && not (not_utf8 f.name.items isnt i) then Some NotUtf8 else None

-- ---- folders

pub no_folders : AreFoldersOf [] []
no_folders = record {
  good = λ d c. absurd (none_in d c);
  real = λ d c. absurd (none_in d c);
  all = λ f c s. absurd (none_in f c);
}

folders_by : (v : Bool) (found : List Found) (f : Found) (old new : List Found) → v ≡ stands f → AddsFolder v f old new → AreFoldersOf found old → AreFoldersOf (found ++ f ∷ []) new
folders_by false found f old new e h before = record {
  good = λ d c. before.good d (subst (λ l. Contains l d) h c);
  real = λ d c.
      let r = before.real d (subst (λ l. Contains l d) h c) in
      (r.0, Contains-append_left found (f ∷ []) r.0 r.1, r.2, r.3);
  all = λ g c s. turn g s (Contains-push_cases found f g c);
}
  where
    turn : (g : Found) → stands g ≡ true → Contains found g ⊎ (f ≡ g) → (d : Found) × Contains new d × (d.name.items ≡ folder_of g.name.items)
    turn g s (inl c) = let w = before.all g c s in (w.0, subst (λ l. Contains l w.0) (sym h) w.1, w.2)
    turn g s (inr q) = absurd (true≢false (sym s ∙ ap stands (sym q) ∙ sym e))
folders_by true found f old new e (inr h) before = record {
  good = λ d c. before.good d (subst (λ l. Contains l d) h.0 c);
  real = λ d c.
      let r = before.real d (subst (λ l. Contains l d) h.0 c) in
      (r.0, Contains-append_left found (f ∷ []) r.0 r.1, r.2, r.3);
  all = λ g c s. turn g s (Contains-push_cases found f g c);
}
  where
    turn : (g : Found) → stands g ≡ true → Contains found g ⊎ (f ≡ g) → (d : Found) × Contains new d × (d.name.items ≡ folder_of g.name.items)
    turn g s (inl c) = let w = before.all g c s in (w.0, subst (λ l. Contains l w.0) (sym h.0) w.1, w.2)
    turn g s (inr q) = (h.1.0, subst (λ l. Contains l h.1.0) (sym h.0) h.1.1, h.1.2 ∙ ap (λ (x : Found). folder_of x.name.items) q)
folders_by true found f old new e (inl h) before = record {
  good = λ d c. is_good d (Contains-push_cases old h.0 d (subst (λ l. Contains l d) h.3 c));
  real = λ d c. is_real d (Contains-push_cases old h.0 d (subst (λ l. Contains l d) h.3 c));
  all = λ g c s. turn g s (Contains-push_cases found f g c);
}
  where
    is_good : (d : Found) → Contains old d ⊎ (h.0 ≡ d) → d.fault ≡ None
    is_good d (inl c) = before.good d c
    is_good d (inr q) = subst (λ (x : Found). x.fault ≡ None) q h.2

    is_real : (d : Found) → Contains old d ⊎ (h.0 ≡ d) → (g : Found) × Contains (found ++ f ∷ []) g × (stands g ≡ true) × (d.name.items ≡ folder_of g.name.items)
    is_real d (inl c) = let r = before.real d c in (r.0, Contains-append_left found (f ∷ []) r.0 r.1, r.2, r.3)
    is_real d (inr q) = (f, Contains-push found f, sym e, subst (λ (x : Found). x.name.items ≡ folder_of f.name.items) q h.1)

    turn : (g : Found) → stands g ≡ true → Contains found g ⊎ (f ≡ g) → (d : Found) × Contains new d × (d.name.items ≡ folder_of g.name.items)
    turn g s (inl c) = let w = before.all g c s in (w.0, subst (λ l. Contains l w.0) (sym h.3) (Contains-append_left old (h.0 ∷ []) w.0 w.1), w.2)
    turn g s (inr q) = (h.0, subst (λ l. Contains l h.0) (sym h.3) (Contains-push old h.0), subst (λ (x : Found). h.0.name.items ≡ folder_of x.name.items) q h.1)

-- one more, after others
pub folders_more : (before found : List Found) (i : ℕ) (f : Found) (old new : List Found) → i < length found → f ≡ get_or found i f → AreFoldersOf (before ++ take i found) old → AddsFolder (stands f) f old new
    → AreFoldersOf (before ++ take (i + 1) found) new
folders_more before found i f old new within is so h =
    subst (λ l. AreFoldersOf l new) (append_assoc before (take i found) (f ∷ []) ∙ ap (λ l. before ++ l) (sym (take_more found i f within ∙ ap (λ x. take i found ++ x ∷ []) (sym is))))
    (folders_by (stands f) (before ++ take i found) f old new refl h so)

-- ---- folder by folder

pub looked_more : (named : List Found) (looked : List ListedFolder) (i : ℕ) (l : ListedFolder) → i < length looked → l ≡ get_or looked i l → all_found named (take i looked) ++ l.found.items ≡ all_found named (take (i + 1) looked)
looked_more named looked i l within is =
    append_assoc named (flat_map (λ (l : ListedFolder). l.found.items) (take i looked)) l.found.items
    ∙ ap (λ x. named ++ x)
    (sym (ap (flat_map (λ (l : ListedFolder). l.found.items)) (take_more looked i l within ∙ ap (λ x. take i looked ++ x ∷ []) (sym is))
    ∙ flat_map-append (λ (l : ListedFolder). l.found.items) (take i looked) (l ∷ []) ∙ ap (λ x. flat_map (λ (l : ListedFolder). l.found.items) (take i looked) ++ x) (append-nil l.found.items)))

pub got : {A : Type 0} (xs : List A) (i : ℕ) (x : A) → slice_get xs i ≡ Some x → Contains xs x
got xs i x e = (i, slice_get_within xs i x e, get_or_from_slice_get xs i x x e)

pub folders_ordered : (found all ordered : List Found) → AreFoldersOf found all → Orders all ordered → AreFolders found ordered
folders_ordered found all ordered are o = (
  o.rises,
  record {
    good = λ d c. are.good d (o.only d c);
    real = λ d c. are.real d (o.only d c);
    all = λ f c s. let w = are.all f c s in let n = o.named w.0.name.items (w.0, w.1, refl) in (n.0, n.1, n.2 ∙ w.2);
  },
)

pub folder_added : (v : Bool) (f d : Found) (old new : List Found) → v ≡ true → d.name.items ≡ folder_of f.name.items → d.fault ≡ None → new ≡ old ++ d ∷ [] → AddsFolder v f old new
folder_added true f d old new e named good h = inl (d, named, good, h)
folder_added false f d old new e named good h = absurd (true≢false (sym e))

-- it was added last
pub folder_passed : (v : Bool) (f : Found) (old : List Found) → v ≡ true → HasName old (folder_of f.name.items) → AddsFolder v f old old
folder_passed true f old e has = inr (refl, has)
folder_passed false f old e has = absurd (true≢false (sym e))

-- ---- reported names, by names and faults

told_both : (v : Bool) (f : Found) → map told_as (if v then f ∷ [] else []) ≡ (if v then told_as f ∷ [] else [])
told_both true f = refl
told_both false f = refl

told_of_lost : (f : Found) → map told_as (lost_in f) ≡ told_by (told_as f)
told_of_lost f = told_both (is_lost f) f

-- one more
pub told_more : (tells : Found → List Found) (found : List Found) (i : ℕ) (f : Found) (first old new : List Found) → i < length found → f ≡ get_or found i f
    → map told_as old ≡ map told_as first ++ map told_as (flat_map tells (take i found)) → map told_as new ≡ map told_as old ++ map told_as (tells f)
    → map told_as new ≡ map told_as first ++ map told_as (flat_map tells (take (i + 1) found))
told_more tells found i f first old new within is so h =
    h ∙ ap (λ l. l ++ map told_as (tells f)) so ∙ append_assoc (map told_as first) (map told_as (flat_map tells (take i found))) (map told_as (tells f))
    ∙ ap (λ l. map told_as first ++ l)
    (sym (map-append told_as (flat_map tells (take i found)) (tells f))
    ∙ ap (map told_as) (sym (ap (flat_map tells) (take_more found i f within ∙ ap (λ x. take i found ++ x ∷ []) (sym is)) ∙ flat_map-append tells (take i found) (f ∷ []) ∙ ap (λ l. flat_map tells (take i found) ++ l) (append-nil (tells f)))))

and_true : (b : Bool) → (b && true) ≡ b
and_true true = refl
and_true false = refl

-- it is a file of the module
pub file_taken : (f : Found) (text : String Global) (old new : Sorted) → f.fault ≡ None → is_module_file f.name.items ≡ true → is_some f.file ≡ true → string_vec text ≡ f.name
    → new.module.is_whole ≡ old.module.is_whole → new.module.folder ≡ old.module.folder → new.faults ≡ old.faults → map string_bytes new.module.files.items ≡ map string_bytes old.module.files.items ++ string_bytes text ∷ [] → TakesFound f old new
file_taken f text old new good named is same whole folder told files = record {
  folder = folder;
  files = subst (λ o. map string_bytes new.module.files.items ≡ map string_bytes old.module.files.items ++ (if is_file_by o f.name.items then f.name.items ∷ [] else [])) (sym none)
      (files ∙ ap (λ l. map string_bytes old.module.files.items ++ l) (ap (λ v. v.items ∷ []) same ∙ (λ i. if sym named i then f.name.items ∷ [] else [])));
  whole = subst (λ o. new.module.is_whole ≡ (old.module.is_whole && not (breaks_by o f.name.items))) (sym none) (whole ∙ sym (and_true old.module.is_whole));
  faults = subst (λ o. map told_as new.faults.items ≡ map told_as old.faults.items ++ map told_as (lost_in (record f { fault = o }))) (sym none)
      (ap (λ v. map told_as v.items) told ∙ sym (append-nil (map told_as old.faults.items)));
}
  where
    utf8 : is_utf8 f.name.items ≡ true
    utf8 = subst (λ v. is_utf8 v.items ≡ true) same (is_utf8-from_IsUtf8 (string_bytes text) (IsUtf8-string_bytes text))

    by : (file : Option FoundFile) → is_some file ≡ true → name_fault file f.name.items ≡ None
    by None e = absurd (true≢false (sym e))
    by (Some file) e = λ i. if named i && not (utf8 i) then Some NotUtf8 else None

    none : fault_by f.fault f.file f.name.items ≡ None
    none = subst (λ o. fault_by o f.file f.name.items ≡ None) (sym good) (by f.file is)

-- the name that is reported for this reason
pub fault_taken : (f : Found) (fault : TreeFault) (old new : Sorted) (sound : Bool) → fault_by f.fault f.file f.name.items ≡ Some fault → new.module ≡ record old.module { is_whole = old.module.is_whole && sound } → sound ≡ not (is_of_module f.name.items)
    → map told_as new.faults.items ≡ map told_as old.faults.items ++ told_by (f.name.items, Some fault) → TakesFound f old new
fault_taken f fault old new sound why is so told = record {
  folder = ap (λ (m : Module). m.folder) is;
  files = subst (λ o. map string_bytes new.module.files.items ≡ map string_bytes old.module.files.items ++ (if is_file_by o f.name.items then f.name.items ∷ [] else [])) (sym why)
      (ap (λ (m : Module). map string_bytes m.files.items) is ∙ sym (append-nil (map string_bytes old.module.files.items)));
  whole = subst (λ o. new.module.is_whole ≡ (old.module.is_whole && not (breaks_by o f.name.items))) (sym why) (ap (λ (m : Module). m.is_whole) is ∙ ap (λ b. old.module.is_whole && b) so);
  faults = subst (λ o. map told_as new.faults.items ≡ map told_as old.faults.items ++ map told_as (lost_in (record f { fault = o }))) (sym why)
      (told ∙ ap (λ l. map told_as old.faults.items ++ l) (sym (told_of_lost (record f { fault = Some fault }))));
}

-- more, after others
told_then : (tells : Found → List Found) (before more : List Found) (old new : List Found) → map told_as old ≡ map told_as (flat_map tells before) → map told_as new ≡ map told_as old ++ map told_as (flat_map tells more)
    → map told_as new ≡ map told_as (flat_map tells (before ++ more))
told_then tells before more old new so h = h ∙ ap (λ l. l ++ map told_as (flat_map tells more)) so ∙ sym (map-append told_as (flat_map tells before) (flat_map tells more)) ∙ ap (map told_as) (sym (flat_map-append tells before more))

-- ---- one module

more_of : {A B : Type 0} (f : A → List B) (xs : List A) (x : A) (old new : List B) → old ≡ flat_map f xs → new ≡ old ++ f x → new ≡ flat_map f (xs ++ x ∷ [])
more_of f xs x old new e h = h ∙ ap (λ l. l ++ f x) e ∙ sym (flat_map-append f xs (x ∷ []) ∙ ap (λ l. flat_map f xs ++ l) (append-nil (f x)))

pub module_more : (name : Name) (found : List Found) (f : Found) (old new : Sorted) → IsModuleOf name found old.module old.faults.items → TakesFound f old new → IsModuleOf name (found ++ f ∷ []) new.module new.faults.items
module_more name found f old new before h = record {
  folder = ap (λ v. v.items) h.folder ∙ before.folder;
  files = more_of file_in found f _ _ before.files h.files;
  whole = h.whole ∙ ap (λ w. w && is_sound f) before.whole ∙ sym (list_all-append is_sound found (f ∷ []) ∙ ap (λ v. list_all is_sound found && v) (and_true (is_sound f)));
  lost = told_then told_in found (f ∷ []) old.faults.items new.faults.items before.lost (h.faults ∙ ap (λ l. map told_as old.faults.items ++ map told_as l) (sym (append-nil (told_in f))));
}

-- ---- all modules

modules_then : (files : Files) (looked : List ListedFolder) (folders : List Found) (d : Found) (modules : List Module) (m : Module) (beside here : List Found) (was between is : Faults) → AreModules files looked folders modules beside was between → IsModule files looked d.name.items m here between is
    → AreModules files looked (folders ++ d ∷ []) (modules ++ m ∷ []) (beside ++ here) was is
modules_then files looked [] d [] m beside here was between is a h = (
  here,
  [],
  is,
  ap (λ l. l ++ here) a.0 ∙ sym (append-nil here),
  subst (λ (w : Faults). IsModule files looked d.name.items m here w is) a.1 h,
  (refl, refl),
)
modules_then files looked [] d (x ∷ modules) m beside here was between is a h = absurd a
modules_then files looked (x ∷ folders) d [] m beside here was between is a h = absurd a
modules_then files looked (x ∷ folders) d (y ∷ modules) m beside here was between is a h =
    let first = a.0 in let rest = a.1 in (
      first,
      rest ++ here,
      a.2,
      ap (λ l. l ++ here) a.3 ∙ append_assoc first rest here,
      a.4,
      modules_then files looked folders d modules m rest here a.2 between is a.5 h,
    )

-- in whatever order the listed folders are
module_any : (files : Files) (sorted looked : List ListedFolder) (name : Name) (m : Module) (here : List Found) (was is : Faults) → ((l : ListedFolder) → Contains sorted l → Contains looked l) → IsModule files sorted name m here was is → IsModule files looked name m here was is
module_any files sorted looked name m here was is within h = (h.0, by h.1, h.2)
  where
    by : StandsIn files sorted name h.0 was is → StandsIn files looked name h.0 was is
    by (inl s) = inl (s.0, (s.1.0, within s.1.0 s.1.1, s.1.2, s.1.3))
    by (inr s) = inr s

pub modules_more : (files later : Files) (sorted looked : List ListedFolder) (folders : List Found) (d : Found) (old new : Modules) (was between is : Faults) → later ≡ files → ((l : ListedFolder) → Contains sorted l → Contains looked l)
    → AreModules files looked folders old.modules.items old.faults.items was between → AddsModule later sorted d.name.items old new between is → AreModules files looked (folders ++ d ∷ []) new.modules.items new.faults.items was is
modules_more files later sorted looked folders d old new was between is same within before h =
    subst (λ l. AreModules files looked (folders ++ d ∷ []) l new.faults.items was is) (sym h.3)
    (subst (λ l. AreModules files looked (folders ++ d ∷ []) (old.modules.items ++ h.0 ∷ []) l was is) (sym h.4)
    (modules_then files looked folders d old.modules.items h.0 old.faults.items h.1 was between is before
    (module_any files sorted looked d.name.items h.0 h.1 between is within (subst (λ f. IsModule f sorted d.name.items h.0 h.1 between is) same h.2))))

-- ---- in the code's terms

pub if_ok_more : {A E : Type 0} (r : Result A E) (P Q : A → Type 0) → IfOk r P → ((a : A) → P a → Q a) → IfOk r Q
if_ok_more (Ok a) P Q h f = f a h
if_ok_more (Err e) P Q h f = tt

pub on_ok_more : {A E : Type 0} (r : Result A E) (P Q : Type 0) → OnOk r P → (P → Q) → OnOk r Q
on_ok_more (Ok a) P Q h f = f h
on_ok_more (Err e) P Q h f = tt

-- ---- the module of a folder alone

pub is_alone : (files : Files) (folder : Name) (named : Found) (before folders : List Found) (looked : List ListedFolder) (modules : List Module) (told : List Found) (was is : Faults) → named.name.items ≡ folder ++ [] → before ≡ [] → folders ≡ before ++ named ∷ [] → looked ≡ []
    → AreModules files looked folders modules told was is → AreAlone files folder modules
is_alone files folder named before folders looked modules told was is name first one none are = record {
  named = named;
  name = name ∙ append-nil folder;
  told = told;
  was = was;
  is = is;
  are = subst (λ (ls : List ListedFolder). AreModules files ls (named ∷ []) modules told was is) none (subst (λ (fs : List Found). AreModules files looked fs modules told was is) (one ∙ ap (λ (fs : List Found). fs ++ named ∷ []) first) are);
}
