-- A walk, step by step.
use Rattle.std.proofs.Common.{◌≡◌, ◌≢◌, ◌∙◌, ◌<◌, ◌+◌, ◌⊎◌, ◌++◌, ◌∷◌, [], ℕ, suc, Bool, true, false, Bor, Global, List, Vec, Option, Some, None, Result, Ok, Err, OnOk, Contains, ap, append_assoc, append-nil, arith, get_or, inl, inr, length, map, refl, subst, sym, take, true≢false}
use Rattle.std.specs.Prelude.{◌&&◌, IfOk}
use Rattle.std.proofs.lemmas.List.{map-append, map_more}
use Rattle.std.proofs.lemmas.List.Elements.{Contains-append_left, Contains-push, Contains-push_cases}
use Rattle.file_tree.specs.Below.{Certainty, HasFile, HasFolder, IsBelow, IsEntry, IsFileFor, IsNamed, IsOther, IsSpecial, Leads, Says, is_met, maybe, names_in_listing, surely}
use Rattle.file_tree.specs.Choices.{Chosen, is_excluded, is_wanted}
use Rattle.file_tree.specs.Files.{Files, Name, identity_of, is_link}
use Rattle.hcl_source.specs.Devices.{Tells}
use Rattle.file_tree.specs.Finds.{Accounts, Finds, IsEntryBy, IsFolderOf, IsOf, IsOfBy}
use Rattle.file_tree.specs.Names.{is_taken}
use Rattle.file_tree.specs.Paths.{inside, place, report_name, tidy_path, top, within}
use Rattle.file_tree.specs.Inner.Walking.{Adds, Covers, Enters, IsFault, Reached, TakesAll, TakesAsked, TakesEntry, TakesFolder, TakesGiven, TakesIf, TakesKind, TakesKindGiven, TakesLink, TakesLinked, TakesNamed, TakesNamedFile, TakesSpecial, TakesWanted, Walked, file_by}
use Rattle.file_tree.specs.Ordered.{HasName, IsFound, Orders}
use Rattle.file_tree.specs.declared.fault.TreeFault.{TreeFault}
use Rattle.file_tree.specs.declared.fault.TreeFault.TheVariants.{OtherKind}
use Rattle.file_tree.specs.declared.kind.Identity.{Identity}
use Rattle.file_tree.specs.declared.kind.Kind.{Kind}
use Rattle.file_tree.specs.declared.kind.Kind.TheVariants.{File, Folder, Link, Other}
use Rattle.file_tree.specs.declared.walk.Found.{Found}
use Rattle.file_tree.specs.declared.walk.FoundFile.{FoundFile}
use Rattle.file_tree.proofs.OrderLemmas.{cons_cases, none_in}

-- ---- nothing is removed

abbrev Grows : Reached → Reached → Type 0
Grows old new = (found : List Found) × (folders : List Name) × (new.found ≡ old.found ++ found) × (new.folders ≡ old.folders ++ folders)

grows_same : (old new : Reached) → new ≡ old → Grows old new
grows_same old new e = ([], [], ap (λ (r : Reached). r.found) e ∙ sym (append-nil old.found), ap (λ (r : Reached). r.folders) e ∙ sym (append-nil old.folders))

grows_then : (a b c : Reached) → Grows a b → Grows b c → Grows a c
grows_then a b c p q = (
  p.0 ++ q.0,
  p.1 ++ q.1,
  q.2 ∙ ap (λ l. l ++ q.0) p.2 ∙ append_assoc a.found p.0 q.0,
  q.3 ∙ ap (λ l. l ++ q.1) p.3 ∙ append_assoc a.folders p.1 q.1,
)

grows_adds : (name : Name) (fault : Option TreeFault) (file : Option FoundFile) (old new : Reached) → Adds name fault file old new → Grows old new
grows_adds name fault file old new h = (h.f ∷ [], [], h.found, h.folders ∙ sym (append-nil old.folders))

grows_enters : (folder : Name) (old new : Reached) → Enters folder old new → Grows old new
grows_enters folder old new h = ([], folder ∷ [], h.found ∙ sym (append-nil old.found), h.folders)

grows_if : (v : Bool) (path : Name) (identity : Identity) (old new : Reached) → TakesIf v path identity old new → Grows old new
grows_if true path identity old new h = grows_adds path None _ old new h
grows_if false path identity old new h = grows_same old new h

grows_special : (v : Bool) (path : Name) (old new : Reached) → TakesSpecial v path old new → Grows old new
grows_special true path old new h = grows_adds path None None old new h
grows_special false path old new h = grows_same old new h

grows_linked : (specials : Bool) (kind : Kind) (path : Name) (old new : Reached) → TakesLinked specials kind path old new → Grows old new
grows_linked specials Folder path old new h = grows_same old new h
grows_linked specials (File identity) path old new h = grows_adds path None _ old new h
grows_linked specials Link path old new h = grows_same old new h
grows_linked specials Other path old new h = grows_special specials path old new h

grows_link : (v specials : Bool) (files : Files) (path : Name) (old new : Reached) → TakesLink v specials files path old new → Grows old new
grows_link true specials files path old new (inl h) = grows_adds path (Some h.0) _ old new h.1
grows_link true specials files path old new (inr h) = grows_linked specials h.0 path old new h.2
grows_link false specials files path old new h = grows_same old new h

grows_kind : (specials : Bool) (kind : Kind) (files : Files) (path name : Name) (old new : Reached) → TakesKind specials kind files path name old new → Grows old new
grows_kind specials Folder files path name old new h = grows_enters _ old new h
grows_kind specials (File identity) files path name old new h = grows_if (is_taken name) path identity old new h
grows_kind specials Link files path name old new h = grows_link (is_taken name) specials files path old new h
grows_kind specials Other files path name old new h = grows_special (specials && is_taken name) path old new h

grows_entry : (files : Files) (chosen : Chosen) (folder name : Name) (old new : Reached) → TakesEntry files chosen folder name old new → Grows old new
grows_entry files chosen folder name old new (inl h) = grows_same old new h.1
grows_entry files chosen folder name old new (inr (met, inl h)) = grows_adds (folder ++ name) (Some h.0) _ old new h.1
grows_entry files chosen folder name old new (inr (met, inr h)) = grows_kind chosen.specials h.0 files (folder ++ name) name old new h.2

grows_all : (files : Files) (chosen : Chosen) (folder : Name) (names : List Name) (old new : Reached) → TakesAll files chosen folder names old new → Grows old new
grows_all files chosen folder [] old new h = grows_same old new h
grows_all files chosen folder (name ∷ names) old new h = grows_then old h.0 new (grows_entry files chosen folder name old h.0 h.1) (grows_all files chosen folder names h.0 new h.2)

grows_folder : (files : Files) (chosen : Chosen) (folder : Name) (old new : Reached) → TakesFolder files chosen folder old new → Grows old new
grows_folder files chosen folder old new (inl h) = grows_adds (place folder) (Some h.0) _ old new h.1
grows_folder files chosen folder old new (inr h) = grows_all files chosen folder (names_in_listing h.0) old new h.2

grows_file : (files : Files) (identity : Identity) (path : Name) (old new : Reached) → TakesNamedFile files identity path old new → Grows old new
grows_file files identity path old new (inl h) = grows_adds (report_name path) (Some h.0) None old new h.1
grows_file files identity path old new (inr h) = grows_adds (tidy_path path) None _ old new h.2

grows_wanted : (kind : Kind) (files : Files) (path : Name) (old new : Reached) → TakesWanted kind files path old new → Grows old new
grows_wanted Folder files path old new h = grows_adds (tidy_path path) None None old new h
grows_wanted (File identity) files path old new h = grows_file files identity path old new h
grows_wanted Link files path old new h = grows_adds (tidy_path path) None None old new h
grows_wanted Other files path old new h = grows_adds (tidy_path path) None None old new h

grows_named : (v : Bool) (kind : Kind) (files : Files) (path : Name) (old new : Reached) → TakesNamed v kind files path old new → Grows old new
grows_named true kind files path old new h = grows_wanted kind files path old new h
grows_named false kind files path old new h = grows_adds (tidy_path path) (Some OtherKind) None old new h

grows_kind_given : (files : Files) (chosen : Chosen) (kind : Kind) (path : Name) (old new : Reached) → TakesKindGiven files chosen kind path old new → Grows old new
grows_kind_given files chosen Folder path old new h = grows_enters (top path) old new h
grows_kind_given files chosen (File identity) path old new h = grows_named (is_wanted chosen (tidy_path path)) (File identity) files path old new h
grows_kind_given files chosen Link path old new h = grows_named (is_wanted chosen (tidy_path path)) Link files path old new h
grows_kind_given files chosen Other path old new h = grows_named (is_wanted chosen (tidy_path path)) Other files path old new h

grows_given : (files : Files) (chosen : Chosen) (path : Name) (old new : Reached) → TakesGiven files chosen path old new → Grows old new
grows_given files chosen path old new (inl h) = grows_same old new h.1
grows_given files chosen path old new (inr (_, inl h)) = grows_adds (report_name path) (Some h.0) _ old new h.1
grows_given files chosen path old new (inr (_, inr h)) = grows_kind_given files chosen h.0 path old new h.2

module _ (old new : Reached) (grows : Grows old new) where
  stays : (f : Found) → Contains old.found f → Contains new.found f
  stays f c = subst (λ l. Contains l f) (sym grows.2) (Contains-append_left old.found grows.0 f c)

  folder_stays : (folder : Name) → Contains old.folders folder → Contains new.folders folder
  folder_stays folder c = subst (λ l. Contains l folder) (sym grows.3) (Contains-append_left old.folders grows.1 folder c)

  found_stays : (name : Name) → IsFound old.found name → IsFound new.found name
  found_stays name h = (h.0, stays h.0 h.1, h.2, h.3)

  fault_stays : (name : Name) → IsFault old.found name → IsFault new.found name
  fault_stays name h = (h.0, stays h.0 h.1, h.2, h.3)

covers_stays : (old new : Reached) → Grows old new → (folder : Name) (parts : List Name) (last : Name) → Covers old folder parts last → Covers new folder parts last
covers_stays old new grows folder [] last (inl c) = inl (folder_stays old new grows folder c)
covers_stays old new grows folder [] last (inr (inl h)) = inr (inl (fault_stays old new grows (place folder) h))
covers_stays old new grows folder [] last (inr (inr (inl h))) = inr (inr (inl (fault_stays old new grows (folder ++ last) h)))
covers_stays old new grows folder [] last (inr (inr (inr h))) = inr (inr (inr (found_stays old new grows (folder ++ last) h)))
covers_stays old new grows folder (part ∷ parts) last (inl c) = inl (folder_stays old new grows folder c)
covers_stays old new grows folder (part ∷ parts) last (inr (inl h)) = inr (inl (fault_stays old new grows (place folder) h))
covers_stays old new grows folder (part ∷ parts) last (inr (inr (inl h))) = inr (inr (inl (fault_stays old new grows (folder ++ part) h)))
covers_stays old new grows folder (part ∷ parts) last (inr (inr (inr h))) = inr (inr (inr (covers_stays old new grows (inside folder part) parts last h)))

covers_at : (r : Reached) (folder : Name) (parts : List Name) (last : Name) → Contains r.folders folder → Covers r folder parts last
covers_at r folder [] last c = inl c
covers_at r folder (part ∷ parts) last c = inl c

-- ---- the effect of a step

fault_added : (name : Name) (fault : TreeFault) (old new : Reached) → Adds name (Some fault) None old new → IsFault new.found name
fault_added name fault old new h = (h.f, subst (λ l. Contains l h.f) (sym h.found) (Contains-push old.found h.f), h.name_is, λ none. some_none (sym h.fault_is ∙ none))
  where
    some_none : Some fault ≡ None → ⊥
    some_none e = cc

found_added : (name : Name) (file : Option FoundFile) (old new : Reached) → Adds name None file old new → IsFound new.found name
found_added name file old new h = (h.f, subst (λ l. Contains l h.f) (sym h.found) (Contains-push old.found h.f), h.name_is, h.fault_is)

folder_added : (folder : Name) (old new : Reached) → Enters folder old new → Contains new.folders folder
folder_added folder old new h = subst (λ l. Contains l folder) (sym h.folders) (Contains-push old.folders folder)

-- what the device tells of a name
told_some : {X : Type 0} (told : Option X) (x y : X) → told ≡ Some x → Tells told y → x ≡ y
told_some told x y e h = subst (λ o. Tells o y) e h

-- ---- an entry of a folder is not passed over

met_folder : (files : Files) (chosen : Chosen) (folder name : Name) (old new : Reached) → TakesEntry files chosen folder name old new → is_met chosen folder name ≡ true → files.entry (folder ++ name) ≡ Some Folder
    → Contains new.folders (inside folder name) ⊎ IsFault new.found (folder ++ name)
met_folder files chosen folder name old new (inl h) met is = absurd (true≢false (sym met ∙ h.0))
met_folder files chosen folder name old new (inr (_, inl h)) met is = inr (fault_added (folder ++ name) h.0 old new h.1)
met_folder files chosen folder name old new (inr (_, inr h)) met is =
    inl (folder_added (inside folder name) old new (subst (λ kind. TakesKind chosen.specials kind files (folder ++ name) name old new) (sym (told_some (files.entry (folder ++ name)) Folder h.0 is h.1)) h.2))

taken_if : (v : Bool) (path : Name) (identity : Identity) (old new : Reached) → v ≡ true → TakesIf v path identity old new → IsFound new.found path
taken_if v path identity old new e h = found_added path _ old new (subst (λ w. TakesIf w path identity old new) e h)

link_met : (files : Files) (v specials : Bool) (path : Name) (identity : Identity) (old new : Reached) → v ≡ true → files.kind path ≡ Some (File identity) → TakesLink v specials files path old new → IsFault new.found path ⊎ IsFound new.found path
link_met files true specials path identity old new e is (inl h) = inl (fault_added path h.0 old new h.1)
link_met files true specials path identity old new e is (inr h) =
    inr (found_added path _ old new (subst (λ kind. TakesLinked specials kind path old new) (sym (told_some (files.kind path) (File identity) h.0 is h.1)) h.2))
link_met files false specials path identity old new e is h = absurd (true≢false (sym e))

special_met : (v : Bool) (path : Name) (old new : Reached) → v ≡ true → TakesSpecial v path old new → IsFound new.found path
special_met true path old new e h = found_added path None old new h
special_met false path old new e h = absurd (true≢false (sym e))

linked_met : (files : Files) (v specials : Bool) (path : Name) (old new : Reached) → v ≡ true → specials ≡ true → files.kind path ≡ Some Other → TakesLink v specials files path old new → IsFault new.found path ⊎ IsFound new.found path
linked_met files true specials path old new e all is (inl h) = inl (fault_added path h.0 old new h.1)
linked_met files true specials path old new e all is (inr h) =
    inr (special_met specials path old new all (subst (λ kind. TakesLinked specials kind path old new) (sym (told_some (files.kind path) Other h.0 is h.1)) h.2))
linked_met files false specials path old new e all is h = absurd (true≢false (sym e))

both : (a b : Bool) → a ≡ true → b ≡ true → (a && b) ≡ true
both true b e f = f
both false b e f = e

met_file : (files : Files) (chosen : Chosen) (folder name : Name) (old new : Reached) → TakesEntry files chosen folder name old new → is_met chosen folder name ≡ true → IsFileFor surely files chosen (folder ++ name) → is_taken name ≡ true
    → IsFault new.found (folder ++ name) ⊎ IsFound new.found (folder ++ name)
met_file files chosen folder name old new (inl h) met is taken = absurd (true≢false (sym met ∙ h.0))
met_file files chosen folder name old new (inr (_, inl h)) met is taken = inl (fault_added (folder ++ name) h.0 old new h.1)
met_file files chosen folder name old new (inr (_, inr h)) met (inl (inl (identity, is))) taken =
    inr (taken_if (is_taken name) (folder ++ name) identity old new taken
    (subst (λ kind. TakesKind chosen.specials kind files (folder ++ name) name old new) (sym (told_some (files.entry (folder ++ name)) (File identity) h.0 is h.1)) h.2))
met_file files chosen folder name old new (inr (_, inr h)) met (inr (all, inl is)) taken =
    inr (special_met (chosen.specials && is_taken name) (folder ++ name) old new (both chosen.specials (is_taken name) all taken)
    (subst (λ kind. TakesKind chosen.specials kind files (folder ++ name) name old new) (sym (told_some (files.entry (folder ++ name)) Other h.0 is h.1)) h.2))
met_file files chosen folder name old new (inr (_, inr h)) met (inr (all, inr (is, leads))) taken =
    linked_met files (is_taken name) chosen.specials (folder ++ name) old new taken all leads
    (subst (λ kind. TakesKind chosen.specials kind files (folder ++ name) name old new) (sym (told_some (files.entry (folder ++ name)) Link h.0 is h.1)) h.2)
met_file files chosen folder name old new (inr (_, inr h)) met (inl (inr (is, leads))) taken =
    link_met files (is_taken name) chosen.specials (folder ++ name) leads.0 old new taken leads.1
    (subst (λ kind. TakesKind chosen.specials kind files (folder ++ name) name old new) (sym (told_some (files.entry (folder ++ name)) Link h.0 is h.1)) h.2)

-- ---- nor is any of several

either : {A B C D : Type 0} → (A → C) → (B → D) → A ⊎ B → C ⊎ D
either f g (inl a) = inl (f a)
either f g (inr b) = inr (g b)

all_folder : (files : Files) (chosen : Chosen) (folder : Name) (names : List Name) (name : Name) (old new : Reached) → TakesAll files chosen folder names old new → Contains names name → is_met chosen folder name ≡ true
    → files.entry (folder ++ name) ≡ Some Folder → Contains new.folders (inside folder name) ⊎ IsFault new.found (folder ++ name)
all_folder files chosen folder [] name old new h c met is = absurd (none_in name c)
all_folder files chosen folder (first ∷ names) name old new h c met is =
    here (cons_cases first name names c) (λ d. all_folder files chosen folder names name h.0 new h.2 d met is)
  where
    here : (first ≡ name) ⊎ Contains names name → (Contains names name → Contains new.folders (inside folder name) ⊎ IsFault new.found (folder ++ name))
        → Contains new.folders (inside folder name) ⊎ IsFault new.found (folder ++ name)
    here (inl e) later =
        let grows = grows_all files chosen folder names h.0 new h.2 in
        either (folder_stays h.0 new grows (inside folder name)) (fault_stays h.0 new grows (folder ++ name))
        (met_folder files chosen folder name old h.0 (subst (λ n. TakesEntry files chosen folder n old h.0) e h.1) met is)
    here (inr d) later = later d

all_file : (files : Files) (chosen : Chosen) (folder : Name) (names : List Name) (name : Name) (old new : Reached) → TakesAll files chosen folder names old new → Contains names name → is_met chosen folder name ≡ true
    → IsFileFor surely files chosen (folder ++ name) → is_taken name ≡ true
    → IsFault new.found (folder ++ name) ⊎ IsFound new.found (folder ++ name)
all_file files chosen folder [] name old new h c met is taken = absurd (none_in name c)
all_file files chosen folder (first ∷ names) name old new h c met is taken =
    here (cons_cases first name names c) (λ d. all_file files chosen folder names name h.0 new h.2 d met is taken)
  where
    here : (first ≡ name) ⊎ Contains names name → (Contains names name → IsFault new.found (folder ++ name) ⊎ IsFound new.found (folder ++ name))
        → IsFault new.found (folder ++ name) ⊎ IsFound new.found (folder ++ name)
    here (inl e) later =
        let grows = grows_all files chosen folder names h.0 new h.2 in
        either (fault_stays h.0 new grows (folder ++ name)) (found_stays h.0 new grows (folder ++ name))
        (met_file files chosen folder name old h.0 (subst (λ n. TakesEntry files chosen folder n old h.0) e h.1) met is taken)
    here (inr d) later = later d

-- ---- a folder is popped and listed

abbrev and_folder : Reached → Name → Reached
and_folder r folder = record { found = r.found; folders = r.folders ++ folder ∷ [] }

pub file_looked : (files : Files) (chosen : Chosen) (folder last : Name) (old new : Reached) → TakesFolder files chosen folder old new → HasFile surely files chosen folder last
    → IsFault new.found (place folder) ⊎ (IsFault new.found (folder ++ last) ⊎ IsFound new.found (folder ++ last))
file_looked files chosen folder last old new (inl h) has = inl (fault_added (place folder) h.0 old new h.1)
file_looked files chosen folder last old new (inr h) has =
    let same : has.0.0 ≡ h.0 = told_some (files.listing (place folder)) has.0.0 h.0 has.0.1 h.1 in
    let within : Contains (names_in_listing h.0) last = subst (λ l. Contains (names_in_listing l) last) same has.0.2 in
    inr (all_file files chosen folder (names_in_listing h.0) last old new h.2 within has.0.3 has.1 has.2)

file_met : (files : Files) (chosen : Chosen) (folder last : Name) (old new : Reached) → TakesFolder files chosen folder old new → HasFile surely files chosen folder last → Covers new folder [] last
file_met files chosen folder last old new takes has = inr (file_looked files chosen folder last old new takes has)

folder_met : (files : Files) (chosen : Chosen) (folder part : Name) (parts : List Name) (last : Name) (old new : Reached) → TakesFolder files chosen folder old new → HasFolder surely files chosen folder part
    → Covers new folder (part ∷ parts) last
folder_met files chosen folder part parts last old new (inl h) has = inr (inl (fault_added (place folder) h.0 old new h.1))
folder_met files chosen folder part parts last old new (inr h) has =
    let same : has.0.0 ≡ h.0 = told_some (files.listing (place folder)) has.0.0 h.0 has.0.1 h.1 in
    let within : Contains (names_in_listing h.0) part = subst (λ l. Contains (names_in_listing l) part) same has.0.2 in
    turn (all_folder files chosen folder (names_in_listing h.0) part old new h.2 within has.0.3 has.1)
  where
    turn : Contains new.folders (inside folder part) ⊎ IsFault new.found (folder ++ part) → Covers new folder (part ∷ parts) last
    turn (inl c) = inr (inr (inr (covers_at new (inside folder part) parts last c)))
    turn (inr f) = inr (inr (inl f))

covers_step : (files : Files) (chosen : Chosen) (taken : Name) (old new : Reached) → TakesFolder files chosen taken old new → (folder : Name) (parts : List Name) (last : Name)
    → Leads surely files chosen folder parts → HasFile surely files chosen (within folder parts) last → Covers (and_folder old taken) folder parts last → Covers new folder parts last
covers_step files chosen taken old new takes folder [] last leads has (inl c) = here (Contains-push_cases old.folders taken folder c)
  where
    here : Contains old.folders folder ⊎ (taken ≡ folder) → Covers new folder [] last
    here (inl d) = inl (folder_stays old new (grows_folder files chosen taken old new takes) folder d)
    here (inr e) = file_met files chosen folder last old new (subst (λ d. TakesFolder files chosen d old new) e takes) has
covers_step files chosen taken old new takes folder [] last leads has (inr (inl h)) = inr (inl (fault_stays old new (grows_folder files chosen taken old new takes) (place folder) h))
covers_step files chosen taken old new takes folder [] last leads has (inr (inr (inl h))) = inr (inr (inl (fault_stays old new (grows_folder files chosen taken old new takes) (folder ++ last) h)))
covers_step files chosen taken old new takes folder [] last leads has (inr (inr (inr h))) = inr (inr (inr (found_stays old new (grows_folder files chosen taken old new takes) (folder ++ last) h)))
covers_step files chosen taken old new takes folder (part ∷ parts) last leads has (inl c) = here (Contains-push_cases old.folders taken folder c)
  where
    here : Contains old.folders folder ⊎ (taken ≡ folder) → Covers new folder (part ∷ parts) last
    here (inl d) = inl (folder_stays old new (grows_folder files chosen taken old new takes) folder d)
    here (inr e) = folder_met files chosen folder part parts last old new (subst (λ d. TakesFolder files chosen d old new) e takes) leads.0
covers_step files chosen taken old new takes folder (part ∷ parts) last leads has (inr (inl h)) = inr (inl (fault_stays old new (grows_folder files chosen taken old new takes) (place folder) h))
covers_step files chosen taken old new takes folder (part ∷ parts) last leads has (inr (inr (inl h))) = inr (inr (inl (fault_stays old new (grows_folder files chosen taken old new takes) (folder ++ part) h)))
covers_step files chosen taken old new takes folder (part ∷ parts) last leads has (inr (inr (inr h))) =
    inr (inr (inr (covers_step files chosen taken old new takes (inside folder part) parts last leads.1 has h)))

-- ---- nothing else is taken

abbrev Deep : Files → Chosen → List Name → Name → Type 0
Deep files chosen paths folder = (path : Name) × Contains paths path × IsFolderOf files chosen path folder

abbrev Sound : Files → Chosen → List Name → Reached → Type 0
Sound files chosen paths r = ((f : Found) → Contains r.found f → IsOf files chosen paths f) × ((folder : Name) → Contains r.folders folder → Deep files chosen paths folder)

sound_same : (files : Files) (chosen : Chosen) (paths : List Name) (old new : Reached) → new ≡ old → Sound files chosen paths old → Sound files chosen paths new
sound_same files chosen paths old new e h = subst (λ (r : Reached). Sound files chosen paths r) (sym e) h

sound_adds : (files : Files) (chosen : Chosen) (paths : List Name) (path name : Name) (fault : Option TreeFault) (file : Option FoundFile) (old new : Reached) → Adds name fault file old new → Contains paths path → IsOfBy files chosen path name fault file
    → Sound files chosen paths old → Sound files chosen paths new
sound_adds files chosen paths path name fault file old new h c of' sound = (
  λ f d. here f (Contains-push_cases old.found h.f f (subst (λ l. Contains l f) h.found d)),
  λ folder d. sound.1 folder (subst (λ l. Contains l folder) h.folders d),
)
  where
    here : (f : Found) → Contains old.found f ⊎ (h.f ≡ f) → IsOf files chosen paths f
    here f (inl d) = sound.0 f d
    here f (inr e) = subst (λ (x : Found). IsOf files chosen paths x) e
        (path, c, subst (λ n. IsOfBy files chosen path n h.f.fault h.f.file) (sym h.name_is) (subst (λ o. IsOfBy files chosen path name o h.f.file) (sym h.fault_is) (subst (λ o. IsOfBy files chosen path name fault o) (sym h.file_is) of')))

sound_enters : (files : Files) (chosen : Chosen) (paths : List Name) (folder : Name) (old new : Reached) → Enters folder old new → Deep files chosen paths folder → Sound files chosen paths old → Sound files chosen paths new
sound_enters files chosen paths folder old new h deep sound = (
  λ f d. sound.0 f (subst (λ l. Contains l f) h.found d),
  λ x d. here x (Contains-push_cases old.folders folder x (subst (λ l. Contains l x) h.folders d)),
)
  where
    here : (x : Name) → Contains old.folders x ⊎ (folder ≡ x) → Deep files chosen paths x
    here x (inl d) = sound.1 x d
    here x (inr e) = subst (λ n. Deep files chosen paths n) e deep

within_more : (folder : Name) (parts : List Name) (name : Name) → within folder (parts ++ name ∷ []) ≡ inside (within folder parts) name
within_more folder [] name = refl
within_more folder (part ∷ parts) name = within_more (inside folder part) parts name

leads_more : (sure : Certainty) (files : Files) (chosen : Chosen) (folder : Name) (parts : List Name) (name : Name) → Leads sure files chosen folder parts → HasFolder sure files chosen (within folder parts) name
    → Leads sure files chosen folder (parts ++ name ∷ [])
leads_more sure files chosen folder [] name leads has = (has, tt)
leads_more sure files chosen folder (part ∷ parts) name leads has = (leads.0, leads_more sure files chosen (inside folder part) parts name leads.1 has)

taken_both : (a b : Bool) → true ≡ b → a ≡ (a && b)
taken_both true b e = e
taken_both false b e = refl

-- an entry of a given folder, or of one below
module _ (files : Files) (chosen : Chosen) (paths : List Name) (path : Name) (c : Contains paths path) (allowed : is_excluded chosen (tidy_path path) ≡ false) (parts : List Name) (is : Says maybe (files.kind path) Folder) (leads : Leads maybe files chosen (top path) parts) where
  sound_found : (name : Name) (file : Option FoundFile) (old new : Reached) → true ≡ is_taken name → IsEntry maybe files chosen (within (top path) parts) name
      → IsFileFor maybe files chosen (within (top path) parts ++ name) → IsEntryBy files chosen (within (top path) parts ++ name) file
      → Adds (within (top path) parts ++ name) None file old new → Sound files chosen paths old → Sound files chosen paths new
  sound_found name file old new e entry kind known h sound =
      sound_adds files chosen paths path (within (top path) parts ++ name) None file old new h c (inr (parts, name, (is, leads, (entry, kind, sym e), allowed), refl, known)) sound

  sound_if : (name : Name) (v : Bool) (identity : Identity) (old new : Reached) → v ≡ is_taken name → IsEntry maybe files chosen (within (top path) parts) name
      → Says maybe (files.entry (within (top path) parts ++ name)) (File identity)
      → TakesIf v (within (top path) parts ++ name) identity old new → Sound files chosen paths old → Sound files chosen paths new
  sound_if name true identity old new e entry tells h sound = sound_found name (Some (file_by false identity)) old new e entry (inl (inl (identity, tells))) tells h sound
  sound_if name false identity old new e entry tells h sound = sound_same files chosen paths old new h sound

  sound_special : (name : Name) (v specials : Bool) (old new : Reached) → specials ≡ chosen.specials → v ≡ (specials && is_taken name) → IsEntry maybe files chosen (within (top path) parts) name
      → IsSpecial maybe files (within (top path) parts ++ name) → TakesSpecial v (within (top path) parts ++ name) old new → Sound files chosen paths old → Sound files chosen paths new
  sound_special name true true old new all e entry is h sound = sound_found name None old new e entry (inr (sym all, is)) (sym all, is) h sound
  sound_special name true false old new all e entry is h sound = absurd (true≢false e)
  sound_special name false specials old new all e entry is h sound = sound_same files chosen paths old new h sound

  -- the device tells the kind of a link, and that of its target
  sound_linked : (kind : Kind) (name : Name) (old new : Reached) → true ≡ is_taken name → IsEntry maybe files chosen (within (top path) parts) name
      → Says maybe (files.entry (within (top path) parts ++ name)) Link → Says maybe (files.kind (within (top path) parts ++ name)) kind
      → TakesLinked chosen.specials kind (within (top path) parts ++ name) old new → Sound files chosen paths old → Sound files chosen paths new
  sound_linked Folder name old new e entry link leads h sound = sound_same files chosen paths old new h sound
  sound_linked (File identity) name old new e entry link leads h sound = sound_found name (Some (file_by true identity)) old new e entry (inl (inr (link, (identity, leads)))) (link, leads) h sound
  sound_linked Link name old new e entry link leads h sound = sound_same files chosen paths old new h sound
  sound_linked Other name old new e entry link leads h sound = sound_special name chosen.specials chosen.specials old new refl (taken_both chosen.specials (is_taken name) e) entry (inr (link, leads)) h sound

  sound_report : (name : Name) (fault : TreeFault) (old new : Reached) → IsEntry maybe files chosen (within (top path) parts) name → Adds (within (top path) parts ++ name) (Some fault) None old new
      → Sound files chosen paths old → Sound files chosen paths new
  sound_report name fault old new entry h sound =
      sound_adds files chosen paths path (within (top path) parts ++ name) (Some fault) None old new h c (inl (inr (within (top path) parts, (parts, is, leads, refl, allowed), inr (name, entry, refl))), refl) sound

  sound_link : (name : Name) (v : Bool) (old new : Reached) → v ≡ is_taken name → IsEntry maybe files chosen (within (top path) parts) name
      → Says maybe (files.entry (within (top path) parts ++ name)) Link
      → TakesLink v chosen.specials files (within (top path) parts ++ name) old new → Sound files chosen paths old → Sound files chosen paths new
  sound_link name true old new e entry tells (inl h) sound = sound_report name h.0 old new entry h.1 sound
  sound_link name true old new e entry tells (inr h) sound = sound_linked h.0 name old new e entry tells h.1 h.2 sound
  sound_link name false old new e entry tells h sound = sound_same files chosen paths old new h sound

  sound_kind : (kind : Kind) (name : Name) (old new : Reached) → IsEntry maybe files chosen (within (top path) parts) name → Tells (files.entry (within (top path) parts ++ name)) kind
      → TakesKind chosen.specials kind files (within (top path) parts ++ name) name old new → Sound files chosen paths old → Sound files chosen paths new
  sound_kind Folder name old new entry tells h sound =
      sound_enters files chosen paths (inside (within (top path) parts) name) old new h
      (path, c, (parts ++ name ∷ [], is, leads_more maybe files chosen (top path) parts name leads (entry, tells), sym (within_more (top path) parts name), allowed)) sound
  sound_kind (File identity) name old new entry tells h sound = sound_if name (is_taken name) identity old new refl entry tells h sound
  sound_kind Link name old new entry tells h sound = sound_link name (is_taken name) old new refl entry tells h sound
  sound_kind Other name old new entry tells h sound = sound_special name (chosen.specials && is_taken name) chosen.specials old new refl refl entry (inl tells) h sound

  sound_entry : (listing : List ℕ) (name : Name) (old new : Reached) → Tells (files.listing (place (within (top path) parts))) listing → Contains (names_in_listing listing) name
      → TakesEntry files chosen (within (top path) parts) name old new → Sound files chosen paths old → Sound files chosen paths new
  sound_entry listing name old new tells d (inl h) sound = sound_same files chosen paths old new h.1 sound
  sound_entry listing name old new tells d (inr (met, inl h)) sound = sound_report name h.0 old new (listing, tells, d, met) h.1 sound
  sound_entry listing name old new tells d (inr (met, inr h)) sound = sound_kind h.0 name old new (listing, tells, d, met) h.1 h.2 sound

  sound_all : (listing : List ℕ) (names : List Name) (old new : Reached) → Tells (files.listing (place (within (top path) parts))) listing
      → ((name : Name) → Contains names name → Contains (names_in_listing listing) name) → TakesAll files chosen (within (top path) parts) names old new → Sound files chosen paths old → Sound files chosen paths new
  sound_all listing [] old new tells some h sound = sound_same files chosen paths old new h sound
  sound_all listing (name ∷ names) old new tells some h sound =
      sound_all listing names h.0 new tells (λ n d. some n (later n d)) h.2
      (sound_entry listing name old h.0 tells (some name (0, omega arith, refl)) h.1 sound)
    where
      later : (n : Name) → Contains names n → Contains (name ∷ names) n
      later n d = (suc d.0, omega (arith, d.1), d.2)

  sound_within : (old new : Reached) → TakesFolder files chosen (within (top path) parts) old new → Sound files chosen paths old → Sound files chosen paths new
  sound_within old new (inl h) sound =
      sound_adds files chosen paths path (place (within (top path) parts)) (Some h.0) None old new h.1 c (inl (inr (within (top path) parts, (parts, is, leads, refl, allowed), inl refl)), refl) sound
  sound_within old new (inr h) sound = sound_all h.0 (names_in_listing h.0) old new h.1 (λ n d. d) h.2 sound

sound_folder : (files : Files) (chosen : Chosen) (paths : List Name) (folder : Name) (old new : Reached) → Deep files chosen paths folder → TakesFolder files chosen folder old new → Sound files chosen paths old → Sound files chosen paths new
sound_folder files chosen paths folder old new deep takes sound =
    sound_within files chosen paths deep.0 deep.1 deep.2.4 deep.2.0 deep.2.1 deep.2.2 old new (subst (λ d. TakesFolder files chosen d old new) deep.2.3 takes) sound

-- ---- another entry

pub takes_more : (files : Files) (chosen : Chosen) (folder : Name) (names : List Name) (name : Name) (old between new : Reached) → TakesAll files chosen folder names old between → TakesEntry files chosen folder name between new
    → TakesAll files chosen folder (names ++ name ∷ []) old new
takes_more files chosen folder [] name old between new h one = (new, subst (λ (r : Reached). TakesEntry files chosen folder name r new) h one, refl)
takes_more files chosen folder (first ∷ names) name old between new h one = (h.0, h.1, takes_more files chosen folder names name h.0 between new h.2 one)

-- ---- the walk so far

pub walked_folder : (files : Files) (chosen : Chosen) (paths : List Name) (folder : Name) (old new : Reached) → Walked files chosen paths (and_folder old folder) → TakesFolder files chosen folder old new → Walked files chosen paths new
walked_folder files chosen paths folder old new walked takes = record {
  real = sound.0;
  deeper = sound.1;
  given = λ path c is. either (found_stays old new grows (tidy_path path)) (fault_stays old new grows (report_name path)) (walked.given path c is);
  other = λ path c is. either (fault_stays old new grows (tidy_path path)) (fault_stays old new grows (report_name path)) (walked.other path c is);
  below = λ path parts last c is.
      either (fault_stays old new grows (report_name path)) (covers_step files chosen folder old new takes (top path) parts last is.1 is.2) (walked.below path parts last c is);
}
  where
    grows : Grows old new
    grows = grows_folder files chosen folder old new takes

    before : Sound files chosen paths old
    before = (walked.real, λ d c. walked.deeper d (Contains-append_left old.folders (folder ∷ []) d c))

    sound : Sound files chosen paths new
    sound = sound_folder files chosen paths folder old new (walked.deeper folder (Contains-push old.folders folder)) takes before

-- ---- another given path

deep_more : (files : Files) (chosen : Chosen) (paths : List Name) (path folder : Name) → Deep files chosen paths folder → Deep files chosen (paths ++ path ∷ []) folder
deep_more files chosen paths path folder h = (h.0, Contains-append_left paths (path ∷ []) h.0 h.1, h.2)

of_more : (files : Files) (chosen : Chosen) (paths : List Name) (path : Name) (f : Found) → IsOf files chosen paths f → IsOf files chosen (paths ++ path ∷ []) f
of_more files chosen paths path f h = (h.0, Contains-append_left paths (path ∷ []) h.0 h.1, h.2)

-- a named file that is taken
module _ (files : Files) (chosen : Chosen) (paths : List Name) (path : Name) (c : Contains paths path) (allowed : is_excluded chosen (tidy_path path) ≡ false) where
  sound_file : (identity : Identity) (old new : Reached) → Says maybe (files.kind path) (File identity) → is_wanted chosen (tidy_path path) ≡ true → TakesNamedFile files identity path old new
      → Sound files chosen paths old → Sound files chosen paths new
  sound_file identity old new tells is (inl h) sound = sound_adds files chosen paths path (report_name path) (Some h.0) None old new h.1 c (inl (inl (refl, allowed)), refl) sound
  sound_file identity old new tells is (inr h) sound =
      sound_adds files chosen paths path (tidy_path path) None (Some (file_by (is_link h.0) identity)) old new h.2 c
      (inl (((File identity, tells, λ e. cc), is, allowed), refl, (tells, (h.0, h.1, refl)))) sound

  sound_no_file : (kind : Kind) (old new : Reached) → Says maybe (files.kind path) kind → kind ≢ Folder → identity_of kind ≡ None → is_wanted chosen (tidy_path path) ≡ true → Adds (tidy_path path) None None old new
      → Sound files chosen paths old → Sound files chosen paths new
  sound_no_file kind old new tells ne none is h sound = sound_adds files chosen paths path (tidy_path path) None None old new h c (inl (((kind, tells, ne), is, allowed), refl, (kind, tells, none))) sound

  sound_wanted : (kind : Kind) (old new : Reached) → Says maybe (files.kind path) kind → kind ≢ Folder → is_wanted chosen (tidy_path path) ≡ true → TakesWanted kind files path old new
      → Sound files chosen paths old → Sound files chosen paths new
  sound_wanted Folder old new tells ne is h sound = absurd (ne refl)
  sound_wanted (File identity) old new tells ne is h sound = sound_file identity old new tells is h sound
  sound_wanted Link old new tells ne is h sound = sound_no_file Link old new tells ne refl is h sound
  sound_wanted Other old new tells ne is h sound = sound_no_file Other old new tells ne refl is h sound

  sound_named : (kind : Kind) (v : Bool) (old new : Reached) → Says maybe (files.kind path) kind → kind ≢ Folder → is_wanted chosen (tidy_path path) ≡ v → TakesNamed v kind files path old new
      → Sound files chosen paths old → Sound files chosen paths new
  sound_named kind true old new tells ne is h sound = sound_wanted kind old new tells ne is h sound
  sound_named kind false old new tells ne is h sound = sound_adds files chosen paths path (tidy_path path) (Some OtherKind) None old new h c (inr (((kind, tells, ne), is, allowed), refl, refl), refl) sound

  sound_kind_given : (kind : Kind) (old new : Reached) → Tells (files.kind path) kind → TakesKindGiven files chosen kind path old new → Sound files chosen paths old → Sound files chosen paths new
  sound_kind_given Folder old new tells h sound = sound_enters files chosen paths (top path) old new h (path, c, ([], tells, tt, refl, allowed)) sound
  sound_kind_given (File identity) old new tells h sound = sound_named (File identity) _ old new tells (λ e. cc) refl h sound
  sound_kind_given Link old new tells h sound = sound_named Link _ old new tells (λ e. cc) refl h sound
  sound_kind_given Other old new tells h sound = sound_named Other _ old new tells (λ e. cc) refl h sound

sound_given : (files : Files) (chosen : Chosen) (paths : List Name) (path : Name) (c : Contains paths path) (old new : Reached) → TakesGiven files chosen path old new → Sound files chosen paths old → Sound files chosen paths new
sound_given files chosen paths path c old new (inl h) sound = sound_same files chosen paths old new h.1 sound
sound_given files chosen paths path c old new (inr (allowed, inl h)) sound = sound_adds files chosen paths path (report_name path) (Some h.0) None old new h.1 c (inl (inl (refl, allowed)), refl) sound
sound_given files chosen paths path c old new (inr (allowed, inr h)) sound = sound_kind_given files chosen paths path c allowed h.0 old new h.1 h.2 sound

-- the effect of a path that isn't excluded
asked_given : (files : Files) (chosen : Chosen) (path : Name) (old new : Reached) → TakesGiven files chosen path old new → is_excluded chosen (tidy_path path) ≡ false → TakesAsked files chosen path old new
asked_given files chosen path old new (inl h) allowed = absurd (true≢false (sym h.0 ∙ allowed))
asked_given files chosen path old new (inr h) allowed = h.1

file_told : (files : Files) (identity : Identity) (path : Name) (old new : Reached) → TakesNamedFile files identity path old new → IsFound new.found (tidy_path path) ⊎ IsFault new.found (report_name path)
file_told files identity path old new (inl h) = inr (fault_added (report_name path) h.0 old new h.1)
file_told files identity path old new (inr h) = inl (found_added (tidy_path path) _ old new h.2)

wanted_told : (kind : Kind) (files : Files) (path : Name) (old new : Reached) → TakesWanted kind files path old new → IsFound new.found (tidy_path path) ⊎ IsFault new.found (report_name path)
wanted_told Folder files path old new h = inl (found_added (tidy_path path) None old new h)
wanted_told (File identity) files path old new h = file_told files identity path old new h
wanted_told Link files path old new h = inl (found_added (tidy_path path) None old new h)
wanted_told Other files path old new h = inl (found_added (tidy_path path) None old new h)

named_found : (v : Bool) (kind : Kind) (files : Files) (path : Name) (old new : Reached) → v ≡ true → TakesNamed v kind files path old new → IsFound new.found (tidy_path path) ⊎ IsFault new.found (report_name path)
named_found true kind files path old new e h = wanted_told kind files path old new h
named_found false kind files path old new e h = absurd (true≢false (sym e))

named_told : (v : Bool) (kind : Kind) (files : Files) (path : Name) (old new : Reached) → v ≡ false → TakesNamed v kind files path old new → IsFault new.found (tidy_path path)
named_told true kind files path old new e h = absurd (true≢false e)
named_told false kind files path old new e h = fault_added (tidy_path path) OtherKind old new h

named_kind : (files : Files) (chosen : Chosen) (kind : Kind) (path : Name) (old new : Reached) → kind ≢ Folder → TakesKindGiven files chosen kind path old new → TakesNamed (is_wanted chosen (tidy_path path)) kind files path old new
named_kind files chosen Folder path old new ne h = absurd (ne refl)
named_kind files chosen (File identity) path old new ne h = h
named_kind files chosen Link path old new ne h = h
named_kind files chosen Other path old new ne h = h

given_itself : (files : Files) (chosen : Chosen) (path : Name) (old new : Reached) → TakesAsked files chosen path old new → IsNamed surely files chosen path → IsFound new.found (tidy_path path) ⊎ IsFault new.found (report_name path)
given_itself files chosen path old new (inl h) is = inr (fault_added (report_name path) h.0 old new h.1)
given_itself files chosen path old new (inr h) is =
    named_found _ h.0 files path old new is.1
    (named_kind files chosen h.0 path old new (subst (λ k. k ≢ Folder) (told_some (files.kind path) is.0.0 h.0 is.0.1 h.1) is.0.2) h.2)

given_other : (files : Files) (chosen : Chosen) (path : Name) (old new : Reached) → TakesAsked files chosen path old new → IsOther surely files chosen path → IsFault new.found (tidy_path path) ⊎ IsFault new.found (report_name path)
given_other files chosen path old new (inl h) is = inr (fault_added (report_name path) h.0 old new h.1)
given_other files chosen path old new (inr h) is =
    inl (named_told _ h.0 files path old new is.1
    (named_kind files chosen h.0 path old new (subst (λ k. k ≢ Folder) (told_some (files.kind path) is.0.0 h.0 is.0.1 h.1) is.0.2) h.2))

given_folder : (files : Files) (chosen : Chosen) (path : Name) (old new : Reached) → TakesAsked files chosen path old new → files.kind path ≡ Some Folder → IsFault new.found (report_name path) ⊎ Contains new.folders (top path)
given_folder files chosen path old new (inl h) is = inl (fault_added (report_name path) h.0 old new h.1)
given_folder files chosen path old new (inr h) is =
    inr (folder_added (top path) old new (subst (λ k. TakesKindGiven files chosen k path old new) (sym (told_some (files.kind path) Folder h.0 is h.1)) h.2))

pub walked_given : (files : Files) (chosen : Chosen) (paths : List Name) (path : Name) (old new : Reached) → Walked files chosen paths old → TakesGiven files chosen path old new → Walked files chosen (paths ++ path ∷ []) new
walked_given files chosen paths path old new walked takes = record {
  real = sound.0;
  deeper = sound.1;
  given = λ other c is. itself other is (Contains-push_cases paths path other c);
  other = λ other c is. told other is (Contains-push_cases paths path other c);
  below = λ other parts last c is. down other parts last is (Contains-push_cases paths path other c);
}
  where
    grows : Grows old new
    grows = grows_given files chosen path old new takes

    before : Sound files chosen (paths ++ path ∷ []) old
    before = (λ f c. of_more files chosen paths path f (walked.real f c), λ d c. deep_more files chosen paths path d (walked.deeper d c))

    sound : Sound files chosen (paths ++ path ∷ []) new
    sound = sound_given files chosen (paths ++ path ∷ []) path (Contains-push paths path) old new takes before

    taken : (other : Name) → path ≡ other → is_excluded chosen (tidy_path other) ≡ false → TakesAsked files chosen other old new
    taken other e allowed = asked_given files chosen other old new (subst (λ p. TakesGiven files chosen p old new) e takes) allowed

    itself : (other : Name) → IsNamed surely files chosen other → Contains paths other ⊎ (path ≡ other) → IsFound new.found (tidy_path other) ⊎ IsFault new.found (report_name other)
    itself other is (inl c) = either (found_stays old new grows (tidy_path other)) (fault_stays old new grows (report_name other)) (walked.given other c is)
    itself other is (inr e) = given_itself files chosen other old new (taken other e is.2) is

    told : (other : Name) → IsOther surely files chosen other → Contains paths other ⊎ (path ≡ other) → IsFault new.found (tidy_path other) ⊎ IsFault new.found (report_name other)
    told other is (inl c) = either (fault_stays old new grows (tidy_path other)) (fault_stays old new grows (report_name other)) (walked.other other c is)
    told other is (inr e) = given_other files chosen other old new (taken other e is.2) is

    down : (other : Name) (parts : List Name) (last : Name) → IsBelow surely files chosen other parts last → Contains paths other ⊎ (path ≡ other)
        → IsFault new.found (report_name other) ⊎ Covers new (top other) parts last
    down other parts last is (inl c) =
        either (fault_stays old new grows (report_name other)) (covers_stays old new grows (top other) parts last) (walked.below other parts last c is)
    down other parts last is (inr e) =
        either (λ f. f) (covers_at new (top other) parts last) (given_folder files chosen other old new (taken other e is.3) is.0)

pub walked_none : (files : Files) (chosen : Chosen) (r : Reached) → r.found ≡ [] → r.folders ≡ [] → Walked files chosen [] r
walked_none files chosen r none nor = record {
  real = λ f c. absurd (none_in f (subst (λ l. Contains l f) none c));
  deeper = λ d c. absurd (none_in d (subst (λ l. Contains l d) nor c));
  given = λ path c is. absurd (none_in path c);
  other = λ path c is. absurd (none_in path c);
  below = λ path parts last c is. absurd (none_in path c);
}

-- ---- its end

module _ (files : Files) (chosen : Chosen) (paths : List Name) (found ordered : List Found) (walked : Walked files chosen paths (record { found = found; folders = [] })) (o : Orders found ordered) where
  told_fault : (name : Name) → IsFault found name → HasName ordered name
  told_fault name h = o.named name (h.0, h.1, h.2)

  accounts_from : (folder : Name) (parts : List Name) (last : Name) → Covers (record { found = found; folders = [] }) folder parts last → Accounts (HasName ordered) folder parts last
  accounts_from folder [] last (inl c) = absurd (none_in folder c)
  accounts_from folder [] last (inr (inl h)) = inl (told_fault (place folder) h)
  accounts_from folder [] last (inr (inr (inl h))) = inr (told_fault (folder ++ last) h)
  accounts_from folder [] last (inr (inr (inr h))) = inr (o.named (folder ++ last) (h.0, h.1, h.2))
  accounts_from folder (part ∷ parts) last (inl c) = absurd (none_in folder c)
  accounts_from folder (part ∷ parts) last (inr (inl h)) = inl (told_fault (place folder) h)
  accounts_from folder (part ∷ parts) last (inr (inr (inl h))) = inr (inl (told_fault (folder ++ part) h))
  accounts_from folder (part ∷ parts) last (inr (inr (inr h))) = inr (inr (accounts_from (inside folder part) parts last h))

  pub finds_from : Finds files chosen paths ordered
  finds_from = record {
    rises = o.rises;
    real = λ f c. walked.real f (o.only f c);
    given = λ path c is. either (o.kept (tidy_path path)) (told_fault (report_name path)) (walked.given path c is);
    other = λ path c is. either (told_fault (tidy_path path)) (told_fault (report_name path)) (walked.other path c is);
    below = λ path parts last c is. either (told_fault (report_name path)) (accounts_from (top path) parts last) (walked.below path parts last c is);
  }

-- ---- in the code's terms

pub on_ok_more : {A E : Type 0} (r : Result A E) (P Q : Type 0) → OnOk r P → (P → Q) → OnOk r Q
on_ok_more (Ok a) P Q h f = f h
on_ok_more (Err e) P Q h f = tt

-- the effect of a given path that is no folder, depending on whether it is to be looked at
pub named_given : {X E : Type 0} (r : Result X E) (v : Bool) (files : Files) (chosen : Chosen) (kind : Kind) (path : Name) (old new : Reached) → (kind ≡ Folder → ⊥) → is_wanted chosen (tidy_path path) ≡ v
    → OnOk r (TakesNamed v kind files path old new) → OnOk r (TakesKindGiven files chosen kind path old new)
named_given (Err e) v files chosen kind path old new other is h = tt
named_given (Ok x) v files chosen Folder path old new other is h = absurd (other refl)
named_given (Ok x) v files chosen (File identity) path old new other is h = subst (λ w. TakesNamed w (File identity) files path old new) (sym is) h
named_given (Ok x) v files chosen Link path old new other is h = subst (λ w. TakesNamed w Link files path old new) (sym is) h
named_given (Ok x) v files chosen Other path old new other is h = subst (λ w. TakesNamed w Other files path old new) (sym is) h

-- that effect, for the names of the code
pub wanted_as : {X E : Type 0} (r : Result X E) (kind : Kind) (path name : Name) (old new : Reached) → OnOk r (Adds name None None old new) → name ≡ tidy_path path → OnOk r (Adds (tidy_path path) None None old new)
wanted_as r kind path name old new h same = subst (λ n. OnOk r (Adds n None None old new)) same h

pub if_ok_more : {A E : Type 0} (r : Result A E) (P Q : A → Type 0) → IfOk r P → ((a : A) → P a → Q a) → IfOk r Q
if_ok_more (Ok a) P Q h f = f a h
if_ok_more (Err e) P Q h f = tt

pub took_more : (files later : Files) (chosen : Chosen) (folder : Name) (names : List (Bor (List ℕ))) (i : ℕ) (d : Bor (List ℕ)) (old between new : Reached) → later ≡ files → i < length names
    → TakesAll files chosen folder (map (λ name. name.now) (take i names)) old between → TakesEntry later chosen folder (get_or names i d).now between new
    → TakesAll files chosen folder (map (λ name. name.now) (take (i + 1) names)) old new
took_more files later chosen folder names i d old between new same within so one =
    subst (λ l. TakesAll files chosen folder l old new) (sym (map_more (λ (name : Bor (List ℕ)). name.now) names i d within))
    (takes_more files chosen folder (map (λ name. name.now) (take i names)) (get_or names i d).now old between new so
    (subst (λ f. TakesEntry f chosen folder (get_or names i d).now between new) same one))

pub walked_more : (files later : Files) (chosen : Chosen) (paths : List (Bor (List ℕ))) (i : ℕ) (d : Bor (List ℕ)) (old new : Reached) → later ≡ files → i < length paths
    → Walked files chosen (map (λ path. path.now) (take i paths)) old → TakesGiven later chosen (get_or paths i d).now old new
    → Walked files chosen (map (λ path. path.now) (take (i + 1) paths)) new
walked_more files later chosen paths i d old new same within so one =
    subst (λ l. Walked files chosen l new) (sym (map_more (λ (path : Bor (List ℕ)). path.now) paths i d within))
    (walked_given files chosen (map (λ path. path.now) (take i paths)) (get_or paths i d).now old new so (subst (λ f. TakesGiven f chosen (get_or paths i d).now old new) same one))

pub walked_popped : (files later : Files) (chosen : Chosen) (paths : List Name) (found : List Found) (all rest : List (Vec ℕ Global)) (folder : Vec ℕ Global) (name : Name) (new : Reached) → later ≡ files
    → all ≡ rest ++ folder ∷ [] → name ≡ folder.items → Walked files chosen paths (record { found = found; folders = map (λ f. f.items) all })
    → TakesFolder later chosen name (record { found = found; folders = map (λ f. f.items) rest }) new → Walked files chosen paths new
walked_popped files later chosen paths found all rest folder name new same is named so takes =
    walked_folder files chosen paths name (record { found = found; folders = map (λ f. f.items) rest }) new
    (subst (λ l. Walked files chosen paths (record { found = found; folders = l }))
    (ap (λ l. map (λ (f : Vec ℕ Global). f.items) l) is ∙ map-append (λ (f : Vec ℕ Global). f.items) rest (folder ∷ []) ∙ ap (λ n. map (λ (f : Vec ℕ Global). f.items) rest ++ n ∷ []) (sym named)) so)
    (subst (λ f. TakesFolder f chosen name (record { found = found; folders = map (λ f. f.items) rest }) new) same takes)

pub finds_found : (files later : Files) (chosen : Chosen) (paths : List Name) (r : Reached) (found ordered : List Found) → later ≡ files → Walked files chosen paths r
    → ((given : List Name) → Walked later chosen given r → Walked later chosen given (record { found = found; folders = [] })) → Orders found ordered → Finds files chosen paths ordered
finds_found files later chosen paths r found ordered same before all o =
    finds_from files chosen paths found ordered
    (subst (λ f. Walked f chosen paths (record { found = found; folders = [] })) same (all paths (subst (λ f. Walked f chosen paths r) (sym same) before))) o

-- for any judge with this choice
pub finds_chosen : (files later : Files) (told chosen : Chosen) (paths : List Name) (r : Reached) (found ordered : List Found) → later ≡ files → told ≡ chosen → Walked files told paths r
    → ((given : List Name) → Walked later told given r → Walked later told given (record { found = found; folders = [] })) → Orders found ordered → Finds files chosen paths ordered
finds_chosen files later told chosen paths r found ordered same is before all o =
    subst (λ (c : Chosen). Finds files c paths ordered) is (finds_found files later told paths r found ordered same before all o)
