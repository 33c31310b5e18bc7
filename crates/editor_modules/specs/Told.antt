-- WHAT AN EDITOR IS TOLD of a module: the diagnostics of each of its files, whether open or not; and of documents alone.
use Rattle.std.specs.Prelude.{◌≡◌, ◌&&◌, ◌+◌, not, nat_lt, ℕ, Bool, true, false, List, [], ◌∷◌, Option, Some, None, length, if◌then◌else◌}
use Rattle.file_tree.specs.Files.{Files, Name}
use Rattle.file_tree.specs.Names.{is_passed_over}
use Rattle.hcl_source.specs.FaultTexts.{fault_text}
use Rattle.module_check.specs.Checks.{IsChecked}
use Rattle.module_check.specs.declared.check.Checked.{Checked}
use Rattle.module_check.specs.declared.state.FileState.{FileState}
use Rattle.module_find.specs.Modules.{bytes_of_name, folder_of, is_module_file, names_in}
use Rattle.module_find.specs.declared.module.Module.{Module}
use Rattle.open_files.specs.OpenTexts.{OpenText, file_uri, rest_after, text_of, with_open}
use Rattle.module_check.specs.Faults.{HasFault}
use Rattle.module_check.specs.declared.fault.MarkedFault.{MarkedFault}
use Rattle.text_places.specs.declared.place.Units.{Units}
use Rattle.tf_rules.specs.declared.issue.Issue.{Issue}
use Rattle.tfrules_command.specs.Line.{max_files}
use Rattle.module_find.specs.declared.policy.Governed.{Governed}
use Rattle.editor_messages.specs.Diagnostics.{Diagnostic}
use Rattle.editor_modules.specs.FileDiagnostics.{file_diagnostics, refusal}
use Rattle.editor_modules.specs.Modules.{HasModule}

-- a document, and its diagnostics
pub record ToldDocument : Type 0 where
  pub uri : List ℕ
  pub diagnostics : List Diagnostic

abbrev pub told_document : List ℕ → List Diagnostic → ToldDocument
told_document uri ds = record { uri = uri; diagnostics = ds }

-- what was told of a document counts no more
abbrev pub withdrawn : List ℕ → ToldDocument
withdrawn uri = told_document uri []

-- ---- documents alone

-- the fault because of which a text is no file of the language, or none
abbrev pub diagnostics_of : Option MarkedFault → List Diagnostic
diagnostics_of None = []
diagnostics_of (Some fault) = refusal fault.range (fault_text fault.kind)

-- a document that has this text, or one that isn't open
abbrev pub IsToldByText : Units → List ℕ → Option (List ℕ) → ToldDocument → Type 0
IsToldByText units uri None told = told ≡ withdrawn uri
IsToldByText units uri (Some text) told = (fault : Option MarkedFault) × HasFault units text fault
    × (told ≡ told_document uri (diagnostics_of fault))

-- THE TOLD DOCUMENTS that have these URIs, in turn
abbrev pub AreToldByTexts : Units → List OpenText → List (List ℕ) → List ToldDocument → Type 0
AreToldByTexts units documents [] told = told ≡ []
AreToldByTexts units documents (uri ∷ uris) told =
    (first : ToldDocument) × (rest : List ToldDocument)
    × IsToldByText units uri (text_of documents uri) first
    × AreToldByTexts units documents uris rest × (told ≡ first ∷ rest)

-- ---- a module

-- the file of this path is one of the module of its folder
abbrev pub is_in_module : Name → Bool
is_in_module path = is_module_file path && not (is_passed_over (rest_after (folder_of path) path))

-- the folder of the module to which the file of this path belongs, if it is one of a module
abbrev pub module_folder : Option Name → Option Name
module_folder None = None
module_folder (Some path) = if is_in_module path then Some (folder_of path) else None

-- each file in order, by its number and its state
abbrev pub told_files : Units → List OpenText → List Issue → ℕ → List Name → List FileState
    → List ToldDocument
told_files units documents issues number (name ∷ names) (state ∷ states) =
    record {
      uri = file_uri documents name;
      diagnostics = file_diagnostics units issues number state;
    }
    ∷ told_files units documents issues (number + 1) names states
told_files units documents issues number _ _ = []

-- its files can be judged together
abbrev pub is_lintable : Module → Bool
is_lintable m = m.is_whole && not (nat_lt max_files (length m.files.items))

-- the module of a folder, with open documents over its files, is linted, and this is told of it
pub record IsLinted (units : Units) (documents : List OpenText) (disk : Files) (folder : Name)
    (told : List ToldDocument) : Type 0 where
  pub governed : Governed
  pub found : HasModule (with_open documents disk) folder (Some governed)
  pub lintable : is_lintable governed.module ≡ true
  pub checked : Checked
  pub check : IsChecked (bytes_of_name (with_open documents disk)) (names_in governed.module)
      governed.policy.settings checked
  pub told_of : told ≡ told_files units documents checked.issues.items 0
      (names_in governed.module) checked.files.items

-- the module's options aren't known, or its files can't be judged together
abbrev pub IsUnlinted : Option Governed → Type 0
IsUnlinted None = Unit {0}
IsUnlinted (Some governed) = is_lintable governed.module ≡ false

-- THE TOLD DOCUMENTS of the module of a folder, or none if it can't be linted
abbrev pub IsModuleTold : Units → List OpenText → Files → Name → Option (List ToldDocument)
    → Type 0
IsModuleTold units documents disk folder (Some told) = IsLinted units documents disk folder told
IsModuleTold units documents disk folder None =
    (governed : Option Governed) × HasModule (with_open documents disk) folder governed
    × IsUnlinted governed
