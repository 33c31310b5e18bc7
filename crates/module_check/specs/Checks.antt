-- THE CHECK of a module for an editor. Each file has a state by itself: unlike in a run of `tfrules`, a refused file
-- doesn't end the run, and the others are linted all the same. Our own choice.
use Rattle.std.specs.Prelude.{◌≡◌, ◌≤◌, ◌+◌, ℕ, Bool, true, false, not, List, [], ◌∷◌, Option, Ok, Err, filter, if◌then◌else◌, length}
use Rattle.std.specs.List.{list_all}
use Rattle.file_tree.specs.Files.{Name}
use Rattle.hcl_grammar.specs.Verdict.{IsTextVerdict}
use Rattle.hcl_source.specs.Devices.{Tells}
use Rattle.hcl_source.specs.Load.{IsLoadFault, IsText}
use Rattle.hcl_tokens.specs.Scanned.{Scanned}
use Rattle.rule_set.specs.Rules.{is_rule}
use Rattle.rule_set.specs.declared.rule.Rule.TheVariants.{UnusedDeclarations}
use Rattle.tf_rules.specs.Answers.{AreIssues}
use Rattle.tf_rules.specs.Issues.{Asked, File, asked_of}
use Rattle.tf_rules.specs.declared.settings.Settings.{Settings}
use Rattle.tfrules_command.specs.Files.{IsTooMuch, max_module}
use Rattle.module_check.specs.declared.check.Checked.{Checked}
use Rattle.module_check.specs.declared.state.FileState.{FileState}
use Rattle.module_check.specs.declared.state.FileState.TheVariants.{Good, Refused, NoText, TooMuch, Unread}

-- THE STATE of a file after accepted files of this many bytes, by the bytes that the device tells for its name. Nothing
-- is claimed of a file that can't be opened or read.
abbrev pub IsState : Option (List ℕ) → ℕ → FileState → Type 0
IsState told size (Good source) =
    Tells told source × IsText source × (size + length source ≤ max_module)
    × ((scanned : Scanned) × IsTextVerdict source (Ok scanned))
IsState told size (Refused source fault) =
    Tells told source × IsText source × (size + length source ≤ max_module)
    × IsTextVerdict source (Err fault)
IsState told size (NoText fault) =
    (bytes : List ℕ) × Tells told bytes × IsLoadFault bytes fault
IsState told size TooMuch = (bytes : List ℕ) × Tells told bytes × IsTooMuch size bytes
IsState told size (Unread fault) = Unit {0}

-- the bytes of the accepted files together with this one
abbrev pub size_with : ℕ → FileState → ℕ
size_with size (Good source) = size + length source
size_with size _ = size

-- each name has its state, in order
abbrev pub AreStates : (Name → Option (List ℕ)) → ℕ → List Name → List FileState → Type 0
AreStates told size [] [] = Unit {0}
AreStates told size (name ∷ names) (state ∷ states) =
    IsState (told name) size state × AreStates told (size_with size state) names states
AreStates told size _ _ = ⊥

-- the accepted files in order, each with its number and its tokens
abbrev pub AcceptedIn : ℕ → List FileState → List File → Type 0
AcceptedIn number [] files = files ≡ []
AcceptedIn number (Good source ∷ states) files =
    (file : File) × (rest : List File) × (files ≡ file ∷ rest) × (file.number ≡ number)
    × IsTextVerdict source (Ok file.source) × AcceptedIn (number + 1) states rest
AcceptedIn number (_ ∷ states) files = AcceptedIn (number + 1) states files

abbrev pub is_good_file : FileState → Bool
is_good_file (Good source) = true
is_good_file _ = false

abbrev pub without_unused : Asked → Asked
without_unused asked =
    record asked { rules = filter (λ rule. not (is_rule rule UnusedDeclarations)) asked.rules }

-- The request by which issues are told. A file that isn't one of the language may refer to any declaration, so unused
-- declarations are told only if each file is good. The other rules look at one declaration or token alone.
abbrev pub settings_told : Settings → List FileState → Asked
settings_told settings states =
    if list_all is_good_file states then asked_of settings else without_unused (asked_of settings)

-- THE ANSWER: the states of the files of these names, and the issues of those that are accepted
pub record IsChecked (told : Name → Option (List ℕ)) (names : List Name) (settings : Settings)
    (checked : Checked) : Type 0 where
  pub states : AreStates told 0 names checked.files.items
  pub files : List File
  pub accepted : AcceptedIn 0 checked.files.items files
  pub issues : AreIssues (settings_told settings checked.files.items) files checked.issues.items
