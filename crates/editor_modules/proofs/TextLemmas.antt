-- Documents alone, in turn.
use Rattle.std.proofs.Common.{◌≡◌, ◌∙◌, ◌+◌, ◌<◌, ◌++◌, ◌∷◌, [], ℕ, Global, List, String, ap, get_or, length, map, not, refl, subst, sym, take}
use Rattle.std.proofs.lemmas.List.{map-append, take_more}
use Rattle.std.proofs.lemmas.List.Elements.{filter-append}
use Rattle.std.specs.Prelude.{string_bytes}
use Rattle.std.specs.Str.{bytes_eq}
use Rattle.open_files.specs.OpenTexts.{OpenText, text_of}
use Rattle.text_places.specs.declared.place.Units.{Units}
use Rattle.editor_modules.specs.Inner.Added.{AddTexts, TellsByText}
use Rattle.editor_modules.specs.Messages.{DocumentMessage, TellTexts, message_of, message_seen}
use Rattle.editor_modules.specs.Shown.{other_uris}
use Rattle.editor_modules.specs.Told.{AreToldByTexts, ToldDocument}
use Rattle.editor_modules.specs.declared.message.ToldMessage.{ToldMessage}

by_texts_append : (units : Units) (documents : List OpenText) (uris more : List (List ℕ)) (told later : List ToldDocument) → AreToldByTexts units documents uris told → AreToldByTexts units documents more later → AreToldByTexts units documents (uris ++ more) (told ++ later)
by_texts_append units documents [] more told later none h = subst (λ (l : List ToldDocument). AreToldByTexts units documents more (l ++ later)) (sym none) h
by_texts_append units documents (u ∷ us) more told later (first, rest, is, are, e) h = (first, rest ++ later, is, by_texts_append units documents us more rest later are h, ap (λ (l : List ToldDocument). l ++ later) e)

-- messages about documents, and then those about more
pub texts_append : (units : Units) (documents : List OpenText) (uris more : List (List ℕ)) (old new : List DocumentMessage) → TellTexts units documents uris old → AddTexts units documents more old new → TellTexts units documents (uris ++ more) new
texts_append units documents uris more old new (told, are, is) (added, (later, later_are, later_is), grown) = (
  told ++ later,
  by_texts_append units documents uris more told later are later_are,
  grown ∙ ap (λ (l : List DocumentMessage). l ++ added) is ∙ ap (λ (l : List DocumentMessage). map message_of told ++ l) later_is ∙ sym (map-append message_of told later),
)

-- the message about one document more
pub added_one : (units : Units) (documents : List OpenText) (uri : List ℕ) (old new : List ToldMessage) (message : ToldMessage) → TellsByText units uri (text_of documents uri) message → new ≡ old ++ message ∷ [] → AddTexts units documents (uri ∷ []) (map message_seen old) (map message_seen new)
added_one units documents uri old new message (told, is, tells) grown = (
  message_of told ∷ [],
  (told ∷ [], (told, [], is, refl, refl), refl),
  ap (map message_seen) grown ∙ map-append message_seen old (message ∷ []) ∙ ap (λ (m : DocumentMessage). map message_seen old ++ m ∷ []) tells,
)

-- those of the documents up to the next that have another URI
pub others_more : (uri : List ℕ) (others : List (String Global)) (i : ℕ) (item : String Global) (other : List ℕ) → i < length others → item ≡ get_or others i item → other ≡ string_bytes item
    → other_uris uri (map string_bytes (take i others)) ++ other_uris uri (other ∷ []) ≡ other_uris uri (map string_bytes (take (i + 1) others))
others_more uri others i item other within is spelled =
    ap (λ (o : List ℕ). other_uris uri (map string_bytes (take i others)) ++ other_uris uri (o ∷ [])) spelled
    ∙ sym (filter-append (λ o. not (bytes_eq uri o)) (map string_bytes (take i others)) (string_bytes item ∷ []))
    ∙ ap (other_uris uri) (sym (map-append string_bytes (take i others) (item ∷ [])))
    ∙ ap (λ (l : List (String Global)). other_uris uri (map string_bytes l)) (ap (λ (o : String Global). take i others ++ o ∷ []) is ∙ sym (take_more others i item within))
