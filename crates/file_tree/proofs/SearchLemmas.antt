-- A walk over folders that lists each by itself.
use Rattle.std.proofs.Common.{◌≡◌, ◌∙◌, ◌⊎◌, ◌++◌, ◌∷◌, [], ℕ, Bool, true, false, Global, List, Option, Some, None, Vec, Contains, ap, append_assoc, append-nil, flat_map, inl, inr, map, refl, subst, sym}
use Rattle.std.specs.Prelude.{◌&&◌}
use Rattle.std.proofs.lemmas.Grind.{flat_map-append}
use Rattle.std.proofs.lemmas.List.Elements.{Contains-append_cases, Contains-append_left, Contains-append_right, Contains-push, Contains-push_cases}
use Rattle.file_tree.specs.Below.{names_in_listing}
use Rattle.file_tree.specs.Choices.{Chosen, any, whole_tree}
use Rattle.file_tree.specs.Files.{Faults, Files, Name}
use Rattle.file_tree.specs.Finds.{AreReal, Finds}
use Rattle.file_tree.specs.FolderFiles.{FindsIn}
use Rattle.file_tree.specs.Names.{is_taken}
use Rattle.file_tree.specs.Paths.{place}
use Rattle.file_tree.specs.Inner.Searching.{AreLooks, AreOrdered, IsLook, Keeps, LooksInto, Searches, SeesAll, nothing, search_view}
use Rattle.file_tree.specs.Inner.Walking.{Adds, Enters, Hears, Reached, TakesAll, TakesEntry, TakesFolder, TakesIf, TakesKind, TakesLink, TakesLinked, TakesSpecial, Walked, walk_view}
use Rattle.file_tree.specs.Ordered.{IsFound, Orders}
use Rattle.file_tree.specs.Seen.{Sees, all_found}
use Rattle.file_tree.specs.declared.fault.TreeFault.{TreeFault}
use Rattle.file_tree.specs.declared.kind.Identity.{Identity}
use Rattle.file_tree.specs.declared.kind.Kind.{Kind}
use Rattle.file_tree.specs.declared.kind.Kind.TheVariants.{File, Folder, Link, Other}
use Rattle.file_tree.specs.declared.walk.Found.{Found}
use Rattle.file_tree.specs.declared.walk.FoundFile.{FoundFile}
use Rattle.file_tree.specs.declared.walk.ListedFolder.{ListedFolder}
use Rattle.file_tree.specs.declared.walk.Search.{Search}
use Rattle.file_tree.specs.declared.walk.Walk.{Walk}
use Rattle.file_tree.proofs.FolderLemmas.{finds_in}
use Rattle.file_tree.proofs.HearLemmas.{heard_real, hears_none, hears_then}
use Rattle.file_tree.proofs.OrderLemmas.{cons_cases, none_in}
use Rattle.file_tree.proofs.TreeWalkLemmas.{finds_from, walked_popped}

-- ---- a folder's entries are appended to those found before

module _ (found : List Found) (folders : List Name) where
  abbrev after : Reached → Reached
  after r = record { found = found ++ r.found; folders = folders ++ r.folders }

  after_adds : (name : Name) (fault : Option TreeFault) (file : Option FoundFile) (old new : Reached) → Adds name fault file old new → Adds name fault file (after old) (after new)
  after_adds name fault file old new h = record {
    f = h.f;
    name_is = h.name_is;
    fault_is = h.fault_is;
    file_is = h.file_is;
    found = ap (λ l. found ++ l) h.found ∙ sym (append_assoc found old.found (h.f ∷ []));
    folders = ap (λ l. folders ++ l) h.folders;
  }

  after_enters : (folder : Name) (old new : Reached) → Enters folder old new → Enters folder (after old) (after new)
  after_enters folder old new h = record {
    found = ap (λ l. found ++ l) h.found;
    folders = ap (λ l. folders ++ l) h.folders ∙ sym (append_assoc folders old.folders (folder ∷ []));
  }

  after_if : (v : Bool) (path : Name) (identity : Identity) (old new : Reached) → TakesIf v path identity old new → TakesIf v path identity (after old) (after new)
  after_if true path identity old new h = after_adds path None _ old new h
  after_if false path identity old new h = ap after h

  after_special : (v : Bool) (path : Name) (old new : Reached) → TakesSpecial v path old new → TakesSpecial v path (after old) (after new)
  after_special true path old new h = after_adds path None None old new h
  after_special false path old new h = ap after h

  after_linked : (specials : Bool) (kind : Kind) (path : Name) (old new : Reached) → TakesLinked specials kind path old new → TakesLinked specials kind path (after old) (after new)
  after_linked specials Folder path old new h = ap after h
  after_linked specials (File identity) path old new h = after_adds path None _ old new h
  after_linked specials Link path old new h = ap after h
  after_linked specials Other path old new h = after_special specials path old new h

  after_link : (v specials : Bool) (files : Files) (path : Name) (old new : Reached) → TakesLink v specials files path old new → TakesLink v specials files path (after old) (after new)
  after_link true specials files path old new (inl h) = inl (h.0, after_adds path (Some h.0) None old new h.1)
  after_link true specials files path old new (inr h) = inr (h.0, h.1, after_linked specials h.0 path old new h.2)
  after_link false specials files path old new h = ap after h

  after_kind : (specials : Bool) (kind : Kind) (files : Files) (path name : Name) (old new : Reached) → TakesKind specials kind files path name old new → TakesKind specials kind files path name (after old) (after new)
  after_kind specials Folder files path name old new h = after_enters _ old new h
  after_kind specials (File identity) files path name old new h = after_if (is_taken name) path identity old new h
  after_kind specials Link files path name old new h = after_link (is_taken name) specials files path old new h
  after_kind specials Other files path name old new h = after_special (specials && is_taken name) path old new h

  after_entry : (files : Files) (chosen : Chosen) (folder name : Name) (old new : Reached) → TakesEntry files chosen folder name old new → TakesEntry files chosen folder name (after old) (after new)
  after_entry files chosen folder name old new (inl h) = inl (h.0, ap after h.1)
  after_entry files chosen folder name old new (inr (met, inl h)) = inr (met, inl (h.0, after_adds (folder ++ name) (Some h.0) None old new h.1))
  after_entry files chosen folder name old new (inr (met, inr h)) = inr (met, inr (h.0, h.1, after_kind chosen.specials h.0 files (folder ++ name) name old new h.2))

  after_all : (files : Files) (chosen : Chosen) (folder : Name) (names : List Name) (old new : Reached) → TakesAll files chosen folder names old new → TakesAll files chosen folder names (after old) (after new)
  after_all files chosen folder [] old new h = ap after h
  after_all files chosen folder (name ∷ names) old new h = (after h.0, after_entry files chosen folder name old h.0 h.1, after_all files chosen folder names h.0 new h.2)

  after_folder : (files : Files) (chosen : Chosen) (folder : Name) (old new : Reached) → TakesFolder files chosen folder old new → TakesFolder files chosen folder (after old) (after new)
  after_folder files chosen folder old new (inl h) = inl (h.0, after_adds (place folder) (Some h.0) None old new h.1)
  after_folder files chosen folder old new (inr h) = inr (h.0, h.1, after_all files chosen folder (names_in_listing h.0) old new h.2)

-- ---- another folder

module _ (folder : Name) (here : Reached) (old new : Search) (k : Keeps folder here old new) where
  found_more : (search_view new).found ≡ (search_view old).found ++ here.found
  found_more =
      (λ i. all_found (k.named i).items (k.looked i))
      ∙ ap (λ l. old.walk.found.items ++ l) (flat_map-append (λ (l : ListedFolder). l.found.items) old.looked.items (k.l ∷ []) ∙ ap (λ l. flat_map (λ (l : ListedFolder). l.found.items) old.looked.items ++ l) (append-nil k.l.found.items ∙ k.found_is))
      ∙ sym (append_assoc old.walk.found.items (flat_map (λ (l : ListedFolder). l.found.items) old.looked.items) here.found)

  all_after : after (search_view old).found (search_view old).folders here ≡ search_view new
  all_after = λ i. record { found = sym found_more i; folders = sym k.folders i }

  none_after : after (search_view old).found (search_view old).folders nothing ≡ search_view old
  none_after = λ i. record { found = append-nil (search_view old).found i; folders = append-nil (search_view old).folders i }

pub looks_takes : (files : Files) (chosen : Chosen) (folder : Name) (was is : Faults) (old new : Search) → LooksInto files chosen folder was is old new → TakesFolder files chosen folder (search_view old) (search_view new)
looks_takes files chosen folder was is old new h =
    subst (λ (r : Reached). TakesFolder files chosen folder r (search_view new)) (none_after folder h.here old new h.keeps)
    (subst (λ (r : Reached). TakesFolder files chosen folder (after (search_view old).found (search_view old).folders nothing) r) (all_after folder h.here old new h.keeps)
    (after_folder (search_view old).found (search_view old).folders files chosen folder nothing h.here h.takes))

looks_hears : (files : Files) (chosen : Chosen) (folder : Name) (was is : Faults) (old new : Search) → LooksInto files chosen folder was is old new → Hears (search_view old).found (search_view new).found was is
looks_hears files chosen folder was is old new h = record {
  more = h.hears.more;
  found = found_more folder h.here old new h.keeps ∙ ap (λ l. (search_view old).found ++ l) h.hears.found;
  heard = h.hears.heard;
}

looks_more : (files : Files) (chosen : Chosen) (folder : Name) (was is : Faults) (old new : Search) → LooksInto files chosen folder was is old new → AreLooks files chosen old.looked.items → AreLooks files chosen new.looked.items
looks_more files chosen folder was is old new h before = λ l c. by l (Contains-push_cases old.looked.items h.keeps.l l (subst (λ ls. Contains ls l) h.keeps.looked c))
  where
    by : (l : ListedFolder) → Contains old.looked.items l ⊎ (h.keeps.l ≡ l) → IsLook files chosen l
    by l (inl c) = before l c
    by l (inr e) = subst (λ (l : ListedFolder). IsLook files chosen l) e (h.here, subst (λ d. TakesFolder files chosen d nothing h.here) (sym h.keeps.folder_is) h.takes, h.keeps.found_is)

-- ---- folders in turn

pub searches_none : (files : Files) (chosen : Chosen) (was is : Faults) (s : Search) → is ≡ was → Searches files chosen was is s s
searches_none files chosen was is s still = record { walked = λ paths w. w; hears = hears_none (search_view s).found (search_view s).found was is refl still; named = refl; looks = λ l. l }

-- one more, the last of those to be listed
pub searches_more : (files later : Files) (chosen : Chosen) (was mid is : Faults) (first old between new : Search) (rest : List (Vec ℕ Global)) (folder : Vec ℕ Global) → later ≡ files
    → Searches files chosen was mid first old → old.walk.folders.items ≡ rest ++ folder ∷ [] → between ≡ record { walk = record { found = old.walk.found; folders = between.walk.folders }; looked = old.looked } → between.walk.folders.items ≡ rest
    → LooksInto later chosen folder.items mid is between new → Searches files chosen was is first new
searches_more files later chosen was mid is first old between new rest folder same so all popped left looks = record {
  walked = λ paths before.
      walked_popped files later chosen paths (search_view old).found old.walk.folders.items rest folder folder.items (search_view new) same all refl (so.walked paths before)
      (subst (λ (r : Reached). TakesFolder later chosen folder.items r (search_view new)) (λ i. record { found = all_found (popped i).walk.found.items (popped i).looked.items; folders = map (λ (f : Vec ℕ Global). f.items) (left i) })
      (looks_takes later chosen folder.items mid is between new looks));
  hears = hears_then _ _ _ _ _ _ so.hears (subst (λ (s : Search). Hears (search_view s).found (search_view new).found mid is) popped (looks_hears later chosen folder.items mid is between new looks));
  named = looks.keeps.named ∙ ap (λ (s : Search). s.walk.found) popped ∙ so.named;
  looks = λ before. subst (λ f. AreLooks f chosen new.looked.items) same
      (looks_more later chosen folder.items mid is between new looks
      (subst (λ (s : Search). AreLooks later chosen s.looked.items) (sym popped) (subst (λ f. AreLooks f chosen old.looked.items) (sym same) (so.looks before))));
}

-- ---- all folders

none_looked : (files : Files) (chosen : Chosen) (looked : List ListedFolder) → looked ≡ [] → AreLooks files chosen looked
none_looked files chosen looked none = λ l c. absurd (none_in l (subst (λ ls. Contains ls l) none c))

pub sees_all : (files later : Files) (chosen : Chosen) (paths : List Name) (was mid is : Faults) (walk : Walk) (first last : Search) → later ≡ files → first.walk ≡ walk → first.looked.items ≡ [] → Walked files chosen paths (walk_view walk)
    → AreReal files chosen paths was mid (walk_view walk).found → Searches later chosen mid is first last → last.walk.folders.items ≡ [] → SeesAll files chosen paths was is last
sees_all files later chosen paths was mid is walk first last same begins none walked real search over = record {
  walked = subst (λ (r : Reached). Walked files chosen paths r) (λ i. record { found = (search_view last).found; folders = map (λ (f : Vec ℕ Global). f.items) (over i) })
      (subst (λ f. Walked f chosen paths (search_view last)) same (search.walked paths (subst (λ f. Walked f chosen paths (search_view first)) (sym same) (subst (λ (r : Reached). Walked files chosen paths r) start walked))));
  real = heard_real files chosen paths (search_view first).found (search_view last).found (search_view last).found was mid is (subst (λ l. AreReal files chosen paths was mid l) (ap (λ (r : Reached). r.found) start) real) search.hears (λ f c. c);
  looks = subst (λ f. AreLooks f chosen last.looked.items) same (search.looks (none_looked later chosen first.looked.items none));
}
  where
    start : walk_view walk ≡ search_view first
    start = λ i. record { found = (sym (append-nil walk.found.items) ∙ (λ j. all_found (sym begins j).found.items (sym none j))) i; folders = map (λ (f : Vec ℕ Global). f.items) (sym begins i).folders.items }

-- ---- in order

-- the files of a folder are the same for each choice without exclusions
whole_all : (files : Files) (folder : Name) (names : List Name) (old new : Reached) → TakesAll files any folder names old new → TakesAll files whole_tree folder names old new
whole_all files folder [] old new h = h
whole_all files folder (name ∷ names) old new h = (h.0, h.1, whole_all files folder names h.0 new h.2)

whole_folder : (files : Files) (folder : Name) (old new : Reached) → TakesFolder files any folder old new → TakesFolder files whole_tree folder old new
whole_folder files folder old new (inl h) = inl h
whole_folder files folder old new (inr h) = inr (h.0, h.1, whole_all files folder (names_in_listing h.0) old new h.2)

-- ---- each folder in order

abbrev Has : (Found → Type 0) → List Found → Type 0
Has Q found = (f : Found) × Contains found f × Q f

pub ordered_more : (ls os : List ListedFolder) (l o : ListedFolder) → AreOrdered ls os → o.folder.items ≡ l.folder.items → Orders l.found.items o.found.items → AreOrdered (ls ++ l ∷ []) (os ++ o ∷ [])
ordered_more [] [] l o so same is = (same, is, tt)
ordered_more [] (p ∷ os) l o so same is = absurd so
ordered_more (k ∷ ls) [] l o so same is = absurd so
ordered_more (k ∷ ls) (p ∷ os) l o so same is = (so.0, so.1, ordered_more ls os l o so.2 same is)

ordered_only : (ls os : List ListedFolder) → AreOrdered ls os → (f : Found) → Contains (flat_map (λ (l : ListedFolder). l.found.items) os) f → Contains (flat_map (λ (l : ListedFolder). l.found.items) ls) f
ordered_only [] [] so f c = absurd (none_in f c)
ordered_only [] (o ∷ os) so f c = absurd so
ordered_only (l ∷ ls) [] so f c = absurd so
ordered_only (l ∷ ls) (o ∷ os) so f c = by (λ d. ordered_only ls os so.2 f d) (Contains-append_cases o.found.items (flat_map (λ (l : ListedFolder). l.found.items) os) f c)
  where
    by : (Contains (flat_map (λ (l : ListedFolder). l.found.items) os) f → Contains (flat_map (λ (l : ListedFolder). l.found.items) ls) f) → Contains o.found.items f ⊎ Contains (flat_map (λ (l : ListedFolder). l.found.items) os) f → Contains (l.found.items ++ flat_map (λ (l : ListedFolder). l.found.items) ls) f
    by rest (inl d) = Contains-append_left l.found.items (flat_map (λ (l : ListedFolder). l.found.items) ls) f (so.1.only f d)
    by rest (inr d) = Contains-append_right l.found.items (flat_map (λ (l : ListedFolder). l.found.items) ls) f (rest d)

module _ (Q : Found → Type 0) (one : (found ordered : List Found) → Orders found ordered → Has Q found → Has Q ordered) where
  ordered_has : (ls os : List ListedFolder) → AreOrdered ls os → Has Q (flat_map (λ (l : ListedFolder). l.found.items) ls) → Has Q (flat_map (λ (l : ListedFolder). l.found.items) os)
  ordered_has [] [] so h = h
  ordered_has [] (o ∷ os) so h = absurd so
  ordered_has (l ∷ ls) [] so h = absurd so
  ordered_has (l ∷ ls) (o ∷ os) so h = by (λ g. ordered_has ls os so.2 g) (Contains-append_cases l.found.items (flat_map (λ (l : ListedFolder). l.found.items) ls) h.0 h.1)
    where
      here : Has Q o.found.items → Has Q (o.found.items ++ flat_map (λ (l : ListedFolder). l.found.items) os)
      here g = (g.0, Contains-append_left o.found.items (flat_map (λ (l : ListedFolder). l.found.items) os) g.0 g.1, g.2)

      later : Has Q (flat_map (λ (l : ListedFolder). l.found.items) os) → Has Q (o.found.items ++ flat_map (λ (l : ListedFolder). l.found.items) os)
      later g = (g.0, Contains-append_right o.found.items (flat_map (λ (l : ListedFolder). l.found.items) os) g.0 g.1, g.2)

      by : (Has Q (flat_map (λ (l : ListedFolder). l.found.items) ls) → Has Q (flat_map (λ (l : ListedFolder). l.found.items) os)) → Contains l.found.items h.0 ⊎ Contains (flat_map (λ (l : ListedFolder). l.found.items) ls) h.0 → Has Q (o.found.items ++ flat_map (λ (l : ListedFolder). l.found.items) os)
      by rest (inl c) = here (one l.found.items o.found.items so.1 (h.0, c, h.2))
      by rest (inr c) = later (rest (h.0, c, h.2))

  all_has : (named : List Found) (ls os : List ListedFolder) → AreOrdered ls os → Has Q (all_found named ls) → Has Q (all_found named os)
  all_has named ls os so h = by (Contains-append_cases named (flat_map (λ (l : ListedFolder). l.found.items) ls) h.0 h.1)
    where
      later : Has Q (flat_map (λ (l : ListedFolder). l.found.items) os) → Has Q (all_found named os)
      later g = (g.0, Contains-append_right named (flat_map (λ (l : ListedFolder). l.found.items) os) g.0 g.1, g.2)

      by : Contains named h.0 ⊎ Contains (flat_map (λ (l : ListedFolder). l.found.items) ls) h.0 → Has Q (all_found named os)
      by (inl c) = (h.0, Contains-append_left named (flat_map (λ (l : ListedFolder). l.found.items) os) h.0 c, h.2)
      by (inr c) = later (ordered_has ls os so (h.0, c, h.2))

all_only : (named : List Found) (ls os : List ListedFolder) → AreOrdered ls os → (f : Found) → Contains (all_found named os) f → Contains (all_found named ls) f
all_only named ls os so f c = by (Contains-append_cases named (flat_map (λ (l : ListedFolder). l.found.items) os) f c)
  where
    by : Contains named f ⊎ Contains (flat_map (λ (l : ListedFolder). l.found.items) os) f → Contains (all_found named ls) f
    by (inl d) = Contains-append_left named (flat_map (λ (l : ListedFolder). l.found.items) ls) f d
    by (inr d) = Contains-append_right named (flat_map (λ (l : ListedFolder). l.found.items) ls) f (ordered_only ls os so f d)

abbrev Good : Name → Found → Type 0
Good name f = (f.name.items ≡ name) × (f.fault ≡ None)

found_from : (name : Name) (found : List Found) → Has (Good name) found → IsFound found name
found_from name found h = (h.0, h.1, h.2.0, h.2.1)

from_found : (name : Name) (found : List Found) → IsFound found name → Has (Good name) found
from_found name found h = (h.0, h.1, (h.2, h.3))

orders_all : (named : List Found) (ls os : List ListedFolder) (ordered : List Found) → AreOrdered ls os → Orders (all_found named os) ordered → Orders (all_found named ls) ordered
orders_all named ls os ordered so o = record {
  rises = o.rises;
  only = λ f c. all_only named ls os so f (o.only f c);
  kept = λ name h. o.kept name (found_from name (all_found named os) (all_has (Good name) (λ found ordered p g. from_found name ordered (p.kept name (found_from name found g))) named ls os so (from_found name (all_found named ls) h)));
  named = λ name h. o.named name (all_has (λ f. f.name.items ≡ name) (λ found ordered p g. p.named name g) named ls os so h);
}

ordered_each : (files : Files) (ls os : List ListedFolder) → AreOrdered ls os → AreLooks files any ls → (o : ListedFolder) → Contains os o → FindsIn files o.folder.items o.found.items
ordered_each files [] [] so looks o c = absurd (none_in o c)
ordered_each files [] (p ∷ os) so looks o c = absurd so
ordered_each files (l ∷ ls) [] so looks o c = absurd so
ordered_each files (l ∷ ls) (p ∷ os) so looks o c = by (λ d. ordered_each files ls os so.2 later o d) (cons_cases p o os c)
  where
    later : AreLooks files any ls
    later k d = looks k (Contains-append_right (l ∷ []) ls k d)

    here : FindsIn files p.folder.items p.found.items
    here =
        let look = looks l (Contains-append_left (l ∷ []) ls l (Contains-push [] l)) in
        subst (λ d. FindsIn files d p.found.items) (sym so.0)
        (finds_in files l.folder.items nothing look.0 p.found.items (whole_folder files l.folder.items nothing look.0 look.1) refl (subst (λ found. Orders found p.found.items) look.2 so.1))

    by : (Contains os o → FindsIn files o.folder.items o.found.items) → (p ≡ o) ⊎ Contains os o → FindsIn files o.folder.items o.found.items
    by rest (inl e) = subst (λ (x : ListedFolder). FindsIn files x.folder.items x.found.items) e here
    by rest (inr d) = rest d

pub sees_any : (files : Files) (told : Chosen) (paths : List Name) (was is : Faults) (s : Search) (ordered : List ListedFolder) → told ≡ any → SeesAll files told paths was is s → AreOrdered s.looked.items ordered → Sees files paths was is s.walk.found.items ordered
sees_any files told paths was is s ordered same sees so = record {
  finds = λ found o. subst (λ (c : Chosen). Finds files c paths found) same (finds_from files told paths (search_view s).found found sees.walked (orders_all s.walk.found.items s.looked.items ordered found so o));
  real = subst (λ (c : Chosen). AreReal files c paths was is (all_found s.walk.found.items ordered)) same
      (record { noted = sees.real.noted; is = sees.real.is; real = λ f fault c e. sees.real.real f fault (all_only s.walk.found.items s.looked.items ordered so f c) e });
  each = ordered_each files s.looked.items ordered so (subst (λ (x : Chosen). AreLooks files x s.looked.items) same sees.looks);
}
