-- The files of one folder.
use Rattle.std.proofs.Common.{◌≡◌, ◌⊎◌, ◌++◌, ◌∷◌, [], ℕ, suc, Bool, true, false, List, Option, Some, None, Contains, arith, inl, inr, refl, subst, sym}
use Rattle.std.proofs.lemmas.List.Elements.{Contains-push_cases}
use Rattle.file_tree.specs.Below.{IsEntry, IsFileFor, IsSpecial, Says, maybe, names_in_listing}
use Rattle.file_tree.specs.Choices.{Chosen, whole_tree}
use Rattle.file_tree.specs.Files.{Files, Name}
use Rattle.file_tree.specs.Finds.{IsEntryBy}
use Rattle.file_tree.specs.FolderFiles.{FindsIn, IsInBy}
use Rattle.hcl_source.specs.Devices.{Tells}
use Rattle.file_tree.specs.Names.{is_taken}
use Rattle.file_tree.specs.Paths.{place}
use Rattle.file_tree.specs.Inner.Walking.{Adds, IsFault, Reached, TakesAll, TakesEntry, TakesFolder, TakesIf, TakesKind, TakesLink, TakesLinked, TakesSpecial, file_by}
use Rattle.file_tree.specs.Ordered.{HasName, IsFound, Orders}
use Rattle.file_tree.specs.declared.fault.TreeFault.{TreeFault}
use Rattle.file_tree.specs.declared.kind.Identity.{Identity}
use Rattle.file_tree.specs.declared.kind.Kind.{Kind}
use Rattle.file_tree.specs.declared.kind.Kind.TheVariants.{File, Folder, Link, Other}
use Rattle.file_tree.specs.declared.walk.Found.{Found}
use Rattle.file_tree.specs.declared.walk.FoundFile.{FoundFile}
use Rattle.file_tree.proofs.OrderLemmas.{none_in}
use Rattle.file_tree.proofs.TreeWalkLemmas.{file_looked}

module _ (files : Files) (folder : Name) where
  -- nothing else was found
  abbrev In : Reached → Type 0
  In r = (f : Found) → Contains r.found f → IsInBy files folder f.name.items f.fault f.file

  in_same : (old new : Reached) → new ≡ old → In old → In new
  in_same old new e h = subst (λ (r : Reached). In r) (sym e) h

  in_adds : (name : Name) (fault : Option TreeFault) (file : Option FoundFile) (old new : Reached) → Adds name fault file old new → IsInBy files folder name fault file → In old → In new
  in_adds name fault file old new h of' before = λ f d. here f (Contains-push_cases old.found h.f f (subst (λ l. Contains l f) h.found d))
    where
      here : (f : Found) → Contains old.found f ⊎ (h.f ≡ f) → IsInBy files folder f.name.items f.fault f.file
      here f (inl d) = before f d
      here f (inr e) =
          subst (λ (x : Found). IsInBy files folder x.name.items x.fault x.file) e
          (subst (λ n. IsInBy files folder n h.f.fault h.f.file) (sym h.name_is) (subst (λ o. IsInBy files folder name o h.f.file) (sym h.fault_is) (subst (λ o. IsInBy files folder name fault o) (sym h.file_is) of')))

  in_report : (name : Name) (fault : TreeFault) (old new : Reached) → IsEntry maybe files whole_tree folder name → Adds (folder ++ name) (Some fault) None old new → In old → In new
  in_report name fault old new entry h before = in_adds (folder ++ name) (Some fault) None old new h (inr (name, entry, refl)) before

  in_file : (name : Name) (file : Option FoundFile) (old new : Reached) → true ≡ is_taken name → IsEntry maybe files whole_tree folder name → IsFileFor maybe files whole_tree (folder ++ name)
      → IsEntryBy files whole_tree (folder ++ name) file → Adds (folder ++ name) None file old new → In old → In new
  in_file name file old new e entry kind known h before = in_adds (folder ++ name) None file old new h (name, (entry, kind, sym e), refl, known) before

  in_if : (name : Name) (v : Bool) (identity : Identity) (old new : Reached) → v ≡ is_taken name → IsEntry maybe files whole_tree folder name → Says maybe (files.entry (folder ++ name)) (File identity)
      → TakesIf v (folder ++ name) identity old new → In old → In new
  in_if name true identity old new e entry tells h before = in_file name (Some (file_by false identity)) old new e entry (inl (inl (identity, tells))) tells h before
  in_if name false identity old new e entry tells h before = in_same old new h before

  in_special : (name : Name) (v : Bool) (old new : Reached) → (v ≡ true → true ≡ is_taken name) → IsEntry maybe files whole_tree folder name → IsSpecial maybe files (folder ++ name)
      → TakesSpecial v (folder ++ name) old new → In old → In new
  in_special name true old new e entry is h before = in_file name None old new (e refl) entry (inr (refl, is)) (refl, is) h before
  in_special name false old new e entry is h before = in_same old new h before

  in_linked : (kind : Kind) (name : Name) (old new : Reached) → true ≡ is_taken name → IsEntry maybe files whole_tree folder name → Says maybe (files.entry (folder ++ name)) Link
      → Says maybe (files.kind (folder ++ name)) kind → TakesLinked true kind (folder ++ name) old new → In old → In new
  in_linked Folder name old new e entry link leads h before = in_same old new h before
  in_linked (File identity) name old new e entry link leads h before = in_file name (Some (file_by true identity)) old new e entry (inl (inr (link, (identity, leads)))) (link, leads) h before
  in_linked Link name old new e entry link leads h before = in_same old new h before
  in_linked Other name old new e entry link leads h before = in_special name true old new (λ _. e) entry (inr (link, leads)) h before

  in_link : (name : Name) (v : Bool) (old new : Reached) → v ≡ is_taken name → IsEntry maybe files whole_tree folder name → Says maybe (files.entry (folder ++ name)) Link
      → TakesLink v true files (folder ++ name) old new → In old → In new
  in_link name true old new e entry tells (inl h) before = in_report name h.0 old new entry h.1 before
  in_link name true old new e entry tells (inr h) before = in_linked h.0 name old new e entry tells h.1 h.2 before
  in_link name false old new e entry tells h before = in_same old new h before

  in_kind : (kind : Kind) (name : Name) (old new : Reached) → IsEntry maybe files whole_tree folder name → Tells (files.entry (folder ++ name)) kind
      → TakesKind true kind files (folder ++ name) name old new → In old → In new
  in_kind Folder name old new entry tells h before = λ f d. before f (subst (λ l. Contains l f) h.found d)
  in_kind (File identity) name old new entry tells h before = in_if name (is_taken name) identity old new refl entry tells h before
  in_kind Link name old new entry tells h before = in_link name (is_taken name) old new refl entry tells h before
  in_kind Other name old new entry tells h before = in_special name (is_taken name) old new sym entry (inl tells) h before

  in_entry : (listing : List ℕ) (name : Name) (old new : Reached) → Tells (files.listing (place folder)) listing → Contains (names_in_listing listing) name → TakesEntry files whole_tree folder name old new → In old → In new
  in_entry listing name old new tells d (inl h) before = in_same old new h.1 before
  in_entry listing name old new tells d (inr (met, inl h)) before = in_report name h.0 old new (listing, tells, d, met) h.1 before
  in_entry listing name old new tells d (inr (met, inr h)) before = in_kind h.0 name old new (listing, tells, d, met) h.1 h.2 before

  in_all : (listing : List ℕ) (names : List Name) (old new : Reached) → Tells (files.listing (place folder)) listing → ((name : Name) → Contains names name → Contains (names_in_listing listing) name)
      → TakesAll files whole_tree folder names old new → In old → In new
  in_all listing [] old new tells some h before = in_same old new h before
  in_all listing (name ∷ names) old new tells some h before =
      in_all listing names h.0 new tells (λ n d. some n (later n d)) h.2 (in_entry listing name old h.0 tells (some name (0, omega arith, refl)) h.1 before)
    where
      later : (n : Name) → Contains names n → Contains (name ∷ names) n
      later n d = (suc d.0, omega (arith, d.1), d.2)

  in_folder : (old new : Reached) → TakesFolder files whole_tree folder old new → In old → In new
  in_folder old new (inl h) before = in_adds (place folder) (Some h.0) None old new h.1 (inl refl) before
  in_folder old new (inr h) before = in_all h.0 (names_in_listing h.0) old new h.1 (λ n d. d) h.2 before

  -- none is passed over
  pub finds_in : (old new : Reached) (ordered : List Found) → TakesFolder files whole_tree folder old new → old.found ≡ [] → Orders new.found ordered → FindsIn files folder ordered
  finds_in old new ordered takes nothing o = record {
    rises = o.rises;
    real = λ f c. in_folder old new takes (λ g d. absurd (none_in g (subst (λ l. Contains l g) nothing d))) f (o.only f c);
    all = λ last has. turn last (file_looked files whole_tree folder last old new takes has);
  }
    where
      turn : (last : Name) → IsFault new.found (place folder) ⊎ (IsFault new.found (folder ++ last) ⊎ IsFound new.found (folder ++ last))
          → HasName ordered (place folder) ⊎ HasName ordered (folder ++ last)
      turn last (inl h) = inl (o.named (place folder) (h.0, h.1, h.2))
      turn last (inr (inl h)) = inr (o.named (folder ++ last) (h.0, h.1, h.2))
      turn last (inr (inr h)) = inr (o.named (folder ++ last) (h.0, h.1, h.2))

-- for any judge with this choice
pub finds_whole : (files : Files) (told : Chosen) (folder : Name) (old new : Reached) (ordered : List Found) → told ≡ whole_tree → TakesFolder files told folder old new → old.found ≡ [] → Orders new.found ordered
    → FindsIn files folder ordered
finds_whole files told folder old new ordered is takes nothing o = finds_in files folder old new ordered (subst (λ (c : Chosen). TakesFolder files c folder old new) is takes) nothing o
