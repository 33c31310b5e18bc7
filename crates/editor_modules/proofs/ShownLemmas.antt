-- The documents that are told, those that aren't told again, and the modules that are listed.
use Rattle.std.proofs.Common.{◌≡◌, ◌∙◌, ◌+◌, ◌<◌, ◌++◌, ◌∷◌, [], ℕ, Bool, List, ap, cond, false, get_or, length, map, not, refl, subst, sym, take, true}
use Rattle.std.proofs.lemmas.List.{map-append, take_more}
use Rattle.std.proofs.lemmas.List.Folds.{list_any-append}
use Rattle.std.proofs.lemmas.Slice.Eq.{bytes_eq-Decides}
use Rattle.std.specs.List.{list_any}
use Rattle.std.specs.Prelude.{◌||◌, Some, filter, find, option_map, string_bytes}
use Rattle.std.specs.Str.{bytes_eq}
use Rattle.indexmap.specs.IndexSet.{insert_key}
use Rattle.file_tree.specs.Files.{Name}
use Rattle.editor_modules.specs.Messages.{message_seen}
use Rattle.editor_modules.specs.Shown.{is_told, module_seen, uris_shown, without_module}
use Rattle.editor_modules.specs.declared.message.ToldMessage.{ToldMessage}
use Rattle.editor_modules.specs.declared.shown.ModuleUris.{ModuleUris}

-- ---- the documents that are told

or_none : (b : Bool) → b ≡ (b || false)
or_none true = refl
or_none false = refl

or_true : (b : Bool) → b ≡ true → b ≡ (b || true)
or_true true e = refl
or_true false e = e

-- what a set has after a text was inserted
pub any_inserted : (ks : List (List ℕ)) (k u : List ℕ) → list_any (bytes_eq u) (insert_key bytes_eq ks k) ≡ (list_any (bytes_eq u) ks || bytes_eq u k)
any_inserted ks k u = by (list_any (bytes_eq k) ks) refl
  where
    same : list_any (bytes_eq k) ks ≡ true → (s : Bool) → bytes_eq u k ≡ s → list_any (bytes_eq u) ks ≡ (list_any (bytes_eq u) ks || s)
    same e true q = or_true (list_any (bytes_eq u) ks) (subst (λ x. list_any (bytes_eq x) ks ≡ true) (sym ((bytes_eq-Decides u k).0 q)) e)
    same e false q = or_none (list_any (bytes_eq u) ks)

    by : (b : Bool) → list_any (bytes_eq k) ks ≡ b → list_any (bytes_eq u) (cond b ks (ks ++ k ∷ [])) ≡ (list_any (bytes_eq u) ks || bytes_eq u k)
    by true e = same e (bytes_eq u k) refl
    by false e = list_any-append (bytes_eq u) ks (k ∷ []) ∙ ap (λ b. list_any (bytes_eq u) ks || b) (sym (or_none (bytes_eq u k)))

-- whether one of the messages up to the next is about a document
pub told_more : (messages : List ToldMessage) (i : ℕ) (m : ToldMessage) (uri : List ℕ) → i < length messages → m ≡ get_or messages i m
    → (is_told (map message_seen (take i messages)) uri || bytes_eq uri (string_bytes m.uri)) ≡ is_told (map message_seen (take (i + 1) messages)) uri
told_more messages i m uri within is =
    ap (λ b. is_told (map message_seen (take i messages)) uri || b) (or_none (bytes_eq uri (string_bytes m.uri)))
    ∙ sym (ap (λ l. is_told (map message_seen l) uri) (take_more messages i m within ∙ ap (λ x. take i messages ++ x ∷ []) (sym is))
    ∙ ap (λ l. is_told l uri) (map-append message_seen (take i messages) (m ∷ []))
    ∙ list_any-append (λ d. bytes_eq uri d.uri) (map message_seen (take i messages)) (message_seen m ∷ []))

-- ---- the modules that are listed

pub shown_seen : (folder : Name) (modules : List ModuleUris) → uris_shown (option_map module_seen (find (λ m. bytes_eq folder m.folder.items) modules)) ≡ uris_shown (find (λ m. bytes_eq folder m.folder) (map module_seen modules))
shown_seen folder [] = refl
shown_seen folder (m ∷ ms) = by (bytes_eq folder m.folder.items) (shown_seen folder ms)
  where
    by : (same : Bool) → uris_shown (option_map module_seen (find (λ o. bytes_eq folder o.folder.items) ms)) ≡ uris_shown (find (λ o. bytes_eq folder o.folder) (map module_seen ms))
        → uris_shown (option_map module_seen (cond same (Some m) (find (λ o. bytes_eq folder o.folder.items) ms))) ≡ uris_shown (cond same (Some (module_seen m)) (find (λ o. bytes_eq folder o.folder) (map module_seen ms)))
    by true e = refl
    by false e = e

pub without_seen : (folder : Name) (modules : List ModuleUris) → map module_seen (filter (λ m. not (bytes_eq folder m.folder.items)) modules) ≡ without_module folder (map module_seen modules)
without_seen folder [] = refl
without_seen folder (m ∷ ms) = by (not (bytes_eq folder m.folder.items)) (without_seen folder ms)
  where
    rest : List ModuleUris
    rest = filter (λ o. not (bytes_eq folder o.folder.items)) ms

    by : (stays : Bool) → map module_seen rest ≡ without_module folder (map module_seen ms) → map module_seen (cond stays (m ∷ rest) rest) ≡ cond stays (module_seen m ∷ without_module folder (map module_seen ms)) (without_module folder (map module_seen ms))
    by true e = ap (λ l. module_seen m ∷ l) e
    by false e = e
