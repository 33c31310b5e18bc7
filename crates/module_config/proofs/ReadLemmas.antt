-- Files that are read in turn.
use Rattle.std.proofs.Common.{◌≡◌, ◌∙◌, ◌++◌, ◌∷◌, [], ℕ, Bool, List, Option, ap, refl, subst, sym}
use Rattle.std.specs.Prelude.{Result, Ok, Err, IfOk, OnOk}
use Rattle.std.specs.Io.KnownBytes.{Consumes}
use Rattle.file_tree.specs.Files.{Faults, Files, Name, Tells, fault_of_reader, with_fault}
use Rattle.file_tree.specs.declared.walk.Found.{Found}
use Rattle.hcl_source.specs.Load.{IsLoadFault, IsText, Loads, is_failed_load}
use Rattle.hcl_source.specs.declared.fault.LoadError.{LoadError}
use Rattle.hcl_source.specs.declared.fault.LoadError.TheVariants as error
use Rattle.module_find.specs.declared.module.Module.{Module}
use Rattle.tfrules_command.proofs.GatherLemmas.{fault_of_whole, tells_all}
use Rattle.module_find.specs.Modules.{bytes_of_name}
use Rattle.module_config.specs.Configs.{AreRead, IsRead}
use Rattle.module_config.specs.Governors.{ArePlaced, IsPlaced, wants}
use Rattle.module_config.specs.Inner.Reading.{AddsFile, AddsPlaced, IsTextOf}
use Rattle.module_config.specs.declared.config_file.ConfigFile.{ConfigFile}
use Rattle.module_config.specs.declared.config_file.ConfigText.{ConfigText}
use Rattle.module_config.specs.declared.config_file.ConfigText.TheVariants.{Says, Refused, Unread}
use Rattle.module_config.specs.declared.governor.Placed.{Placed}
use Rattle.module_config.specs.declared.start.Start.{Start}

pub text_read : (files : Files) (name : Name) (left left' : Option (List ℕ)) (bytes : List ℕ) (was is : Faults) (failed : Bool) (loaded : Result (List ℕ) LoadError) → is ≡ with_fault was (fault_of_reader failed) → failed ≡ is_failed_load loaded
    → left ≡ bytes_of_name files name → Consumes left left' bytes → Loads bytes left' loaded → (text : ConfigText) → IsTextOf loaded text → IsRead files name was is text
text_read files name left left' bytes was is failed loaded e f here taken loads = by loaded (e ∙ ap (λ v. with_fault was (fault_of_reader v)) f) loads
  where
    by : (l : Result (List ℕ) LoadError) → is ≡ with_fault was (fault_of_reader (is_failed_load l)) → Loads bytes left' l → (text : ConfigText) → IsTextOf l text → IsRead files name was is text
    by (Ok source) e l (Says config) t = (e, (source, subst (λ told. Tells told source) here (subst (Tells left) (sym l.0) (tells_all left left' bytes taken l.2)), subst IsText (sym l.0) l.1, t))
    by (Ok source) e l (Refused fault) t = absurd t
    by (Ok source) e l (Unread fault) t = absurd t
    by (Err (error.Fault fault)) e l (Says config) t = absurd t
    by (Err (error.Fault fault)) e l (Refused refused) t =
        (e, subst (λ x. (all : List ℕ) × Tells (bytes_of_name files name) all × IsLoadFault all x) (sym t) (subst (λ told. (all : List ℕ) × Tells told all × IsLoadFault all fault) here (fault_of_whole left left' bytes fault taken l.1 l.0)))
    by (Err (error.Fault fault)) e l (Unread why) t = absurd t
    by (Err error.ReadFailed) e l (Says config) t = absurd t
    by (Err error.ReadFailed) e l (Refused fault) t = absurd t
    by (Err error.ReadFailed) e l (Unread fault) t = e ∙ ap (λ x. with_fault was (Option.Some x)) (sym t)
    by (Err error.OutOfMemory) e l (Says config) t = absurd t
    by (Err error.OutOfMemory) e l (Refused fault) t = absurd t
    by (Err error.OutOfMemory) e l (Unread fault) t = absurd t

files_then : (files : Files) (fs : List Found) (cs : List ConfigFile) (f : Found) (c : ConfigFile) (was between is : Faults) → AreRead files fs cs was between → c.name.items ≡ f.name.items → IsRead files c.name.items between is c.text
    → AreRead files (fs ++ f ∷ []) (cs ++ c ∷ []) was is
files_then files [] [] f c was between is a e h = (is, e, subst (λ (w : Faults). IsRead files c.name.items w is c.text) a h, refl)
files_then files [] (d ∷ cs) f c was between is a e h = absurd a
files_then files (x ∷ fs) [] f c was between is a e h = absurd a
files_then files (x ∷ fs) (d ∷ cs) f c was between is a e h = (a.0, a.1, a.2, files_then files fs cs f c a.0 between is a.3 e h)

pub files_more : (files later : Files) (fs : List Found) (f : Found) (old new : List ConfigFile) (was between is : Faults) → later ≡ files → AreRead files fs old was between → AddsFile later f.name.items between is old new → AreRead files (fs ++ f ∷ []) new was is
files_more files later fs f old new was between is same a h =
    subst (λ l. AreRead files (fs ++ f ∷ []) l was is) (sym h.3) (files_then files fs old f h.0 was between is a h.1 (subst (λ x. IsRead x h.0.name.items between is h.0.text) same h.2))

placed_then : (files : Files) (start : Start) (ms : List Module) (ps : List Placed) (m : Module) (p : Placed) (was between is : Faults) → ArePlaced files start ms ps was between → p.module ≡ m → IsPlaced (wants m) files start m.folder.items between is p.governor
    → ArePlaced files start (ms ++ m ∷ []) (ps ++ p ∷ []) was is
placed_then files start [] [] m p was between is a e h = (is, e, subst (λ (w : Faults). IsPlaced (wants m) files start m.folder.items w is p.governor) a h, refl)
placed_then files start [] (q ∷ ps) m p was between is a e h = absurd a
placed_then files start (x ∷ ms) [] m p was between is a e h = absurd a
placed_then files start (x ∷ ms) (q ∷ ps) m p was between is a e h = (a.0, a.1, a.2, placed_then files start ms ps m p a.0 between is a.3 e h)

pub placed_more : (files later : Files) (start : Start) (ms : List Module) (m : Module) (old new : List Placed) (was between is : Faults) → later ≡ files → ArePlaced files start ms old was between → AddsPlaced later start m between is old new
    → ArePlaced files start (ms ++ m ∷ []) new was is
placed_more files later start ms m old new was between is same a h =
    subst (λ l. ArePlaced files start (ms ++ m ∷ []) l was is) (sym h.3) (placed_then files start ms old m h.0 was between is a h.1 (subst (λ x. IsPlaced (wants m) x start m.folder.items between is h.0.governor) same h.2))

-- ---- in the code's terms

pub if_ok_more : {A E : Type 0} (r : Result A E) (P Q : A → Type 0) → IfOk r P → ((a : A) → P a → Q a) → IfOk r Q
if_ok_more (Ok a) P Q h f = f a h
if_ok_more (Err e) P Q h f = tt

pub on_ok_more : {A E : Type 0} (r : Result A E) (P Q : Type 0) → OnOk r P → (P → Q) → OnOk r Q
on_ok_more (Ok a) P Q h f = f h
on_ok_more (Err e) P Q h f = tt
