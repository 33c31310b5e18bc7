-- The search for a line's wrong word.
use Rattle.std.proofs.Common.{◌≡◌, ◌∙◌, [], ◌∷◌, Bool, Option, Some, false, List, ap, drop, length, map, refl, sym}
use Rattle.std.specs.Prelude.{◌==◌, ◌||◌, find, not, option_and_then, option_map, slice_get}
use Rattle.std.specs.Borrow.{Bor}
use Rattle.std.specs.List.{before_first}
use Rattle.std.specs.Option.{option_map_or}
use Rattle.clap.proofs.WalkLemmas.{find-map}
use Rattle.clap.specs.Lexer.{long_of, long_of_rest, name_and_value, short_of, strip_byte}
use Rattle.clap.specs.Words.{Text}
use Rattle.tree_words.specs.Vocabularies.{foreign_of}
use Rattle.tree_words.specs.WrongWords.{Foreign, Vocabulary, is_end, is_foreign, is_letter, is_name, is_wrong}
use Rattle.tree_words.specs.declared.vocabulary.Foreign.{Foreign as ForeignOption}

-- ---- one word

not_empty : (option : Text) → (length option == 0) ≡ false → long_of_rest option ≡ Some (name_and_value option)
not_empty [] e = absurd (cc)
not_empty (x ∷ xs) e = refl

-- two dashes and an option
long_read : (word rest option : Text) → Some rest ≡ strip_byte 45 word → Some option ≡ strip_byte 45 rest → (length option == 0) ≡ false
    → long_of word ≡ Some (name_and_value option)
long_read word rest option first second some =
    ap (λ o. option_and_then long_of_rest (option_and_then (strip_byte 45) o)) (sym first) ∙ ap (option_and_then long_of_rest) (sym second) ∙ not_empty option some

pub long_wrong : (v : Vocabulary) (word rest option : Text) → Some rest ≡ strip_byte 45 word → Some option ≡ strip_byte 45 rest → (length option == 0) ≡ false
    → is_wrong v word ≡ not (is_name v (before_first (λ b. b == 61) option))
long_wrong v word rest option first second some =
    ap (λ o. option_map_or (λ option. not (is_name v option.0)) o (option_map_or (λ letters. not (option_map_or (is_letter v) (slice_get letters 0) false)) (short_of word) false))
    (long_read word rest option first second some)

-- ---- a line

abbrev now_of : Bor Text → Text
now_of word = word.now

abbrev ends : Vocabulary → Text → Bool
ends v word = is_end word || is_wrong v word

rest_of : (words : List (Bor Text)) → map now_of (drop 1 words) ≡ drop 1 (map now_of words)
rest_of [] = refl
rest_of (word ∷ rest) = refl

pub first_read : (v : Vocabulary) (words rest : List (Bor Text)) (found : Option (Bor Text)) → rest ≡ drop 1 words → found ≡ find (λ word. ends v word.now) rest
    → option_map now_of found ≡ find (ends v) (drop 1 (map now_of words))
first_read v words rest found same is =
    ap (option_map now_of) is ∙ find-map (ends v) now_of rest ∙ ap (λ r. find (ends v) (map now_of r)) same ∙ ap (find (ends v)) (rest_of words)

-- ---- options of other programs

pub hint_read : (word : Text) (foreign : List ForeignOption) (found : Option ForeignOption) → found ≡ find (λ one. is_foreign word (foreign_of one)) foreign
    → option_map_or (λ f. f.hint) (option_map foreign_of found) [] ≡ option_map_or (λ f. f.hint) (find (is_foreign word) (map foreign_of foreign)) []
hint_read word foreign found is = ap (λ o. option_map_or (λ (f : Foreign). f.hint) o []) (ap (option_map foreign_of) is ∙ find-map (is_foreign word) foreign_of foreign)
