-- The files of a module, searched in turn.
use Rattle.std.proofs.Common.{◌≡◌, ◌∙◌, ◌<◌, ◌+◌, ◌++◌, ◌∷◌, [], ℕ, Bool, List, String, Global, Option, true, false, ap, append_assoc, append-nil, arith, get_or, length, map, refl, subst, suc, sym, take, zero}
use Rattle.std.proofs.lemmas.List.{take_more}
use Rattle.std.specs.Prelude.{◌&&◌, ◌||◌, Err, IfOk, Ok, Result, string_bytes}
use Rattle.std.specs.List.{list_all, list_any}
use Rattle.std.specs.declared.alloc.AllocError.{AllocError}
use Rattle.std.specs.Io.KnownBytes.{Consumes}
use Rattle.file_tree.specs.Files.{Files, Name}
use Rattle.hcl_source.specs.Devices.{Tells}
use Rattle.hcl_source.specs.Load.{IsLoadFault, Loads}
use Rattle.hcl_source.specs.declared.fault.Fault.{Fault}
use Rattle.hcl_source.specs.declared.fault.LoadError.{LoadError}
use Rattle.hcl_source.specs.declared.fault.LoadError.TheVariants as error
use Rattle.tfrules_command.proofs.GatherLemmas.{fault_of_whole}
use Rattle.module_find.specs.Modules.{AreAlone, AreModules, bytes_of_name, names_in}
use Rattle.module_find.specs.declared.module.Module.{Module}
use Rattle.open_files.specs.OpenTexts.{OpenText, file_uri, version_open, with_open}
use Rattle.editor_messages.specs.Views.{document_ranges_seen}
use Rattle.editor_messages.specs.declared.range.DocumentRanges.{DocumentRanges as DocumentRangesOf}
use Rattle.editor_names.specs.Modules.{AreFileRanges, AreModuleRanges, IsFileRanges, IsTextRanges, document_of, documents_of, file_declares, is_read}
use Rattle.editor_names.specs.Names.{Query}
use Rattle.editor_names.specs.Inner.Searching.{HaveRanges}
use Rattle.editor_names.specs.declared.file.FileRanges.{FileRanges}
use Rattle.editor_names.specs.declared.file.FileRanges.TheVariants.{Spelled, Refused, Unread}
use Rattle.editor_names.specs.declared.search.NameRanges.{NameRanges}

ranges_more : (q : Query) (told : Name → Option (List ℕ)) (names : List Name) (files : List FileRanges) (name : Name) (file : FileRanges) → AreFileRanges q told names files → IsFileRanges q (told name) file
    → AreFileRanges q told (names ++ name ∷ []) (files ++ file ∷ [])
ranges_more q told [] [] name file h s = (s, tt)
ranges_more q told [] (x ∷ xs) name file h s = absurd h
ranges_more q told (n ∷ ns) [] name file h s = absurd h
ranges_more q told (n ∷ ns) (x ∷ xs) name file h s = (h.0, ranges_more q told ns xs name file h.1 s)

documents_more : (documents : List OpenText) (q : Query) (told : Name → Option (List ℕ)) (names : List Name) (files : List FileRanges) (name : Name) (file : FileRanges) → AreFileRanges q told names files
    → documents_of documents (names ++ name ∷ []) (files ++ file ∷ []) ≡ documents_of documents names files ++ document_of (file_uri documents name) (version_open documents name) file
documents_more documents q told [] [] name file h = append-nil (document_of (file_uri documents name) (version_open documents name) file)
documents_more documents q told [] (x ∷ xs) name file h = absurd h
documents_more documents q told (n ∷ ns) [] name file h = absurd h
documents_more documents q told (n ∷ ns) (x ∷ xs) name file h =
    ap (λ ds. document_of (file_uri documents n) (version_open documents n) x ++ ds) (documents_more documents q told ns xs name file h.1)
    ∙ sym (append_assoc (document_of (file_uri documents n) (version_open documents n) x) (documents_of documents ns xs) (document_of (file_uri documents name) (version_open documents name) file))

all_more : (files : List FileRanges) (one : FileRanges) → list_all is_read (files ++ one ∷ []) ≡ (list_all is_read files && is_read one)
all_more [] one = last (is_read one)
  where
    last : (b : Bool) → (b && true) ≡ b
    last true = refl
    last false = refl
all_more (x ∷ xs) one = by (is_read x) (all_more xs one)
  where
    by : (b : Bool) → list_all is_read (xs ++ one ∷ []) ≡ (list_all is_read xs && is_read one) → (b && list_all is_read (xs ++ one ∷ [])) ≡ ((b && list_all is_read xs) && is_read one)
    by true rest = rest
    by false rest = refl

any_more : (files : List FileRanges) (one : FileRanges) → list_any file_declares (files ++ one ∷ []) ≡ (list_any file_declares files || file_declares one)
any_more [] one = last (file_declares one)
  where
    last : (b : Bool) → (b || false) ≡ b
    last true = refl
    last false = refl
any_more (x ∷ xs) one = by (file_declares x) (any_more xs one)
  where
    by : (b : Bool) → list_any file_declares (xs ++ one ∷ []) ≡ (list_any file_declares xs || file_declares one) → (b || list_any file_declares (xs ++ one ∷ [])) ≡ ((b || list_any file_declares xs) || file_declares one)
    by true rest = refl
    by false rest = rest

-- what was found in the files so far
pub record HaveFound (q : Query) (documents : List OpenText) (told : Name → Option (List ℕ)) (names : List Name) (found : List DocumentRangesOf) (declared whole : Bool) : Type 0 where
  pub files : List FileRanges
  pub are : AreFileRanges q told names files
  pub documents_are : map document_ranges_seen found ≡ documents_of documents names files
  pub declared_is : declared ≡ list_any file_declares files
  pub whole_is : whole ≡ list_all is_read files

pub found_none : (q : Query) (documents : List OpenText) (told : Name → Option (List ℕ)) (found : List DocumentRangesOf) → found ≡ [] → HaveFound q documents told [] found false true
found_none q documents told found none = record { files = []; are = tt; documents_are = ap (map document_ranges_seen) none; declared_is = refl; whole_is = refl }

pub found_more : (q : Query) (documents : List OpenText) (told : Name → Option (List ℕ)) (names : List Name) (i : ℕ) (name : Name) (here : Option (List ℕ)) (found after : List DocumentRangesOf) (declared either whole both : Bool) (file : FileRanges)
    → i < length names → name ≡ get_or names i [] → here ≡ told name → IsFileRanges q here file
    → map document_ranges_seen after ≡ map document_ranges_seen found ++ document_of (file_uri documents name) (version_open documents name) file
    → either ≡ (declared || file_declares file) → both ≡ (whole && is_read file)
    → HaveFound q documents told (take i names) found declared whole → HaveFound q documents told (take (i + 1) names) after either both
found_more q documents told names i name here found after declared either whole both file lt named same is grown either_is both_is h =
    let front : take i names ++ name ∷ [] ≡ take (i + 1) names = ap (λ (n : Name). take i names ++ n ∷ []) named ∙ sym (take_more names i [] lt) in
    let told_is = subst (λ t. IsFileRanges q t file) same is in
    record {
      files = h.files ++ file ∷ [];
      are = subst (λ ns. AreFileRanges q told ns (h.files ++ file ∷ [])) front (ranges_more q told (take i names) h.files name file h.are told_is);
      documents_are = grown ∙ ap (λ ds. ds ++ document_of (file_uri documents name) (version_open documents name) file) h.documents_are
          ∙ sym (documents_more documents q told (take i names) h.files name file h.are)
          ∙ ap (λ ns. documents_of documents ns (h.files ++ file ∷ [])) front;
      declared_is = either_is ∙ ap (λ d. d || file_declares file) h.declared_is ∙ sym (any_more h.files file);
      whole_is = both_is ∙ ap (λ w. w && is_read file) h.whole_is ∙ sym (all_more h.files file);
    }

pub name_here : (names : List (String Global)) (i : ℕ) (item : String Global) (name : Name) → i < length names → item ≡ get_or names i item → name ≡ string_bytes item → name ≡ get_or (map string_bytes names) i []
name_here [] i item name lt is e = absurd (omega (arith, lt))
name_here (x ∷ names) zero item name lt is e = e ∙ ap string_bytes is
name_here (x ∷ names) (suc i) item name lt is e = name_here names i item name (omega (arith, lt)) is e

-- ---- the module of a folder

-- it is the only one
pub only : (files : Files) (folder : Name) (modules left : List Module) (one : Module) → AreAlone files folder modules → modules ≡ left ++ one ∷ [] → AreAlone files folder (one ∷ [])
only files folder [] left one a e = absurd a.are
only files folder (m ∷ []) [] one a e =
    let same : m ≡ one = cc in
    subst (λ (n : Module). AreAlone files folder (n ∷ [])) same a
only files folder (m ∷ []) (x ∷ xs) one a e = absurd (none xs cc)
  where
    none : (ys : List Module) → [] ≡ ys ++ one ∷ [] → ⊥
    none [] h = absurd (cc)
    none (y ∷ ys) h = absurd (cc)
only files folder (m ∷ n ∷ ms) left one a e = absurd (no a.are)
  where
    no : AreModules files [] (a.named ∷ []) (m ∷ n ∷ ms) a.told a.was a.is → ⊥
    no h = h.5

pub module_searched : (q : Query) (documents : List OpenText) (disk : Files) (folder : Name) (files later : Files) (modules left : List Module) (one : Module) (names : List (String Global)) (found : NameRanges) (whole : Bool)
    → files ≡ with_open documents disk → later ≡ files → modules ≡ left ++ one ∷ [] → AreAlone files folder modules → names ≡ one.files.items
    → HaveRanges q documents (λ name. later.told (later.real name)) (map string_bytes names) found → whole ≡ (one.is_whole && found.is_whole)
    → AreModuleRanges q documents disk folder (record { documents = map document_ranges_seen found.documents.items; is_declared = found.is_declared; is_whole = whole })
module_searched q documents disk folder files later modules left one names found whole laid kept popped alone named have both = record {
  candidate = one;
  alone = subst (λ (all : Files). AreAlone all folder (one ∷ [])) laid (only files folder modules left one alone popped);
  files = have.files;
  are = subst (λ (all : Files). AreFileRanges q (bytes_of_name all) (names_in one) have.files) (kept ∙ laid)
      (subst (λ (ns : List (String Global)). AreFileRanges q (λ name. later.told (later.real name)) (map string_bytes ns) have.files) named have.are);
  documents_are = have.documents_are ∙ ap (λ (ns : List (String Global)). documents_of documents (map string_bytes ns) have.files) named;
  declared = have.declared;
  whole = both ∙ ap (λ w. one.is_whole && w) have.whole;
}

-- ---- a file that is loaded

-- where its text spells the name, the file does
pub file_of_text : (q : Query) (told : Option (List ℕ)) (text : List ℕ) (searched : Result FileRanges AllocError) → Tells told text → IfOk searched (IsTextRanges q text) → IfOk searched (IsFileRanges q told)
file_of_text q told text (Err e) is h = h
file_of_text q told text (Ok (Spelled spelling)) is h = (text, is, h)
file_of_text q told text (Ok Refused) is h = (text, is, h)
file_of_text q told text (Ok Unread) is h = absurd h

-- the device tells the bytes that have the fault
pub fault_told : (told read left' left : Option (List ℕ)) (bytes : List ℕ) (loaded : Result (List ℕ) LoadError) (fault : Fault) → loaded ≡ Err (error.Fault fault) → left ≡ read → read ≡ told → Consumes left left' bytes → Loads bytes left' loaded
    → (all : List ℕ) × Tells told all × IsLoadFault all fault
fault_told told read left' left bytes loaded fault is here same taken l =
    let m = subst (Loads bytes left') is l in
    subst (λ t. (all : List ℕ) × Tells t all × IsLoadFault all fault) (here ∙ same) (fault_of_whole left left' bytes fault taken m.1 m.0)
