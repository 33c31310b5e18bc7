-- The module of a folder, and its files as they are told in turn.
use Rattle.std.proofs.Common.{◌≡◌, ◌∙◌, ◌+◌, ◌<◌, ◌++◌, ◌∷◌, [], ℕ, Bool, Global, List, String, ap, ap₂, append_assoc, arith, get_or, length, map, refl, subst, suc, sym, drop, true, zero}
use Rattle.std.proofs.lemmas.List.{drop_more, map-append, nil_from_length}
use Rattle.std.proofs.lemmas.List.Elements.{Contains-push}
use Rattle.std.specs.List.{Contains}
use Rattle.std.specs.Option.{option_to_list}
use Rattle.std.specs.Prelude.{MatchOption, Option, Some, None, string_bytes, vec_len}
use Rattle.file_tree.specs.Files.{Files, Name}
use Rattle.module_check.specs.Checks.{AreStates, IsChecked, size_with}
use Rattle.module_check.specs.declared.check.Checked.{Checked}
use Rattle.module_check.specs.declared.state.FileState.{FileState}
use Rattle.module_config.specs.declared.configure.Configured.{Configured}
use Rattle.open_files.specs.OpenTexts.{OpenText, file_uri, with_open}
use Rattle.text_places.specs.declared.place.Units.{Units}
use Rattle.tf_rules.specs.declared.issue.Issue.{Issue}
use Rattle.module_find.specs.Modules.{bytes_of_name, names_in}
use Rattle.module_find.specs.declared.policy.Governed.{Governed}
use Rattle.editor_modules.specs.FileDiagnostics.{file_diagnostics}
use Rattle.editor_modules.specs.Messages.{AreMessages, DocumentMessage, message_of, message_seen}
use Rattle.editor_modules.specs.Modules.{HasModule, IsGoverned}
use Rattle.editor_modules.specs.Told.{IsLinted, ToldDocument, is_lintable, told_files}
use Rattle.editor_modules.specs.declared.message.ToldMessage.{ToldMessage}

-- ---- the module of a folder

pub is_governed : (configured : Configured) (left : List Governed) (n : ℕ) (one : Option Governed) → configured.governed.items ≡ left ++ option_to_list one
    → MatchOption one ((vec_len configured.governed ≡ 0) × (n ≡ 0)) (λ _. n + 1 ≡ vec_len configured.governed) → IsGoverned configured one
is_governed configured left n None e h = nil_from_length configured.governed.items (omega (arith, configured.governed.ok.0, h.0))
is_governed configured left n (Some one) e h = subst (λ (all : List Governed). Contains all one) (sym e) (Contains-push left one)

-- ---- as many states as names

pub as_many : (told : Name → Option (List ℕ)) (size : ℕ) (names : List Name) (states : List FileState) → AreStates told size names states → length names ≡ length states
as_many told size [] [] h = refl
as_many told size [] (x ∷ xs) h = absurd h
as_many told size (n ∷ ns) [] h = absurd h
as_many told size (n ∷ ns) (x ∷ xs) h = omega (arith, as_many told (size_with size x) ns xs h.1)

-- ---- the files in turn

pub name_here : (names : List (String Global)) (i : ℕ) (item : String Global) (name : Name) → i < length names → item ≡ get_or names i item → name ≡ string_bytes item → name ≡ get_or (map string_bytes names) i []
name_here [] i item name lt is e = absurd (omega (arith, lt))
name_here (x ∷ names) zero item name lt is e = e ∙ ap string_bytes is
name_here (x ∷ names) (suc i) item name lt is e = name_here names i item name (omega (arith, lt)) is e

-- the messages so far, and those of the files that are left
abbrev pub IsLeft : Units → List OpenText → List Issue → List Name → List FileState → ℕ → List ToldMessage → Type 0
IsLeft units documents issues names states n messages =
    map message_seen messages ++ map message_of (told_files units documents issues n (drop n names) (drop n states)) ≡ map message_of (told_files units documents issues 0 names states)

pub left_next : (units : Units) (documents : List OpenText) (issues : List Issue) (names : List Name) (states : List FileState) (n : ℕ) (name : Name) (state : FileState)
    → n < length names → n < length states → name ≡ get_or names n [] → state ≡ get_or states n state
    → told_files units documents issues n (drop n names) (drop n states)
    ≡ record { uri = file_uri documents name; diagnostics = file_diagnostics units issues n state } ∷ told_files units documents issues (n + 1) (drop (n + 1) names) (drop (n + 1) states)
left_next units documents issues names states n name state ln ls en es =
    ap₂ (λ (ns : List Name) (ss : List FileState). told_files units documents issues n ns ss)
    (drop_more names n [] ln ∙ ap (λ (m : Name). m ∷ drop (n + 1) names) (sym en))
    (drop_more states n state ls ∙ ap (λ (s : FileState). s ∷ drop (n + 1) states) (sym es))

pub left_more : (units : Units) (documents : List OpenText) (issues shown : List Issue) (names : List Name) (states listed : List FileState) (n : ℕ) (name : Name) (state : FileState) (messages after : List ToldMessage) (message : ToldMessage)
    → n < length names → length names ≡ length states → shown ≡ issues → listed ≡ states → name ≡ get_or names n [] → state ≡ get_or listed n state
    → message_seen message ≡ message_of (record { uri = file_uri documents name; diagnostics = file_diagnostics units shown n state }) → after ≡ messages ++ message ∷ []
    → IsLeft units documents issues names states n messages → IsLeft units documents issues names states (n + 1) after
left_more units documents issues shown names states listed n name state messages after message within each shows lists is_name is_state told grown left =
    ap (λ (l : List ToldMessage). map message_seen l ++ map message_of rest) grown
    ∙ ap (λ (l : List DocumentMessage). l ++ map message_of rest) (map-append message_seen messages (message ∷ []))
    ∙ append_assoc (map message_seen messages) (message_seen message ∷ []) (map message_of rest)
    ∙ ap (λ (m : DocumentMessage). map message_seen messages ++ m ∷ map message_of rest) (told ∙ ap (λ (l : List Issue). message_of (record { uri = file_uri documents name; diagnostics = file_diagnostics units l n state })) shows)
    ∙ ap (λ (l : List ToldDocument). map message_seen messages ++ map message_of l)
    (sym (left_next units documents issues names states n name state within (omega (arith, within, each)) is_name (is_state ∙ ap (λ (l : List FileState). get_or l n state) lists)))
    ∙ left
  where
    rest : List ToldDocument
    rest = told_files units documents issues (n + 1) (drop (n + 1) names) (drop (n + 1) states)

pub left_none : (units : Units) (documents : List OpenText) (issues : List Issue) (names : List Name) (states : List FileState) (messages : List ToldMessage) → messages ≡ [] → IsLeft units documents issues names states 0 messages
left_none units documents issues names states messages none = ap (λ (l : List ToldMessage). map message_seen l ++ map message_of (told_files units documents issues 0 names states)) none

-- ---- the module that is linted

pub tells_linted : (units : Units) (documents : List OpenText) (disk : Files) (folder : Name) (files later : Files) (governed : Option Governed) (one : Governed) (names : List (String Global)) (lintable : Bool) (checked : Checked) (messages : List ToldMessage)
    → files ≡ with_open documents disk → later ≡ files → governed ≡ Some one → names ≡ one.module.files.items → lintable ≡ is_lintable one.module → lintable ≡ true
    → HasModule files folder governed → IsChecked (bytes_of_name later) (map string_bytes names) one.policy.settings checked
    → AreMessages (told_files units documents checked.issues.items 0 (map string_bytes names) checked.files.items) messages
    → (told : List ToldDocument) × IsLinted units documents disk folder told × AreMessages told messages
tells_linted units documents disk folder files later governed one names lintable checked messages laid kept is named judged holds has check are = (
  told_files units documents checked.issues.items 0 (map string_bytes names) checked.files.items,
  record {
    governed = one;
    found = subst (λ (all : Files). HasModule all folder (Some one)) laid (subst (HasModule files folder) is has);
    lintable = sym judged ∙ holds;
    checked = checked;
    check = subst (λ (all : Files). IsChecked (bytes_of_name all) (names_in one.module) one.policy.settings checked) (kept ∙ laid)
        (subst (λ (ns : List (String Global)). IsChecked (bytes_of_name later) (map string_bytes ns) one.policy.settings checked) named check);
    told_of = ap (λ (ns : List (String Global)). told_files units documents checked.issues.items 0 (map string_bytes ns) checked.files.items) named;
  },
  are,
)
