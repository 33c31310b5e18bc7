-- The two namings, each a set of texts. A name is one or more words with one `_` between each two; a word is one or
-- more letters and digits, and the first begins with a letter. In snake_case letters are `a` to `z`, in
-- mixed_snake_case also `A` to `Z`. Our own choice.
use Rattle.std.specs.Prelude.{ℕ, ◌||◌, ◌&&◌, ◌==◌, Bool, false, not, List, [], ◌∷◌, codes, length}
use Rattle.std.specs.List.{list_all, slice_split}
use Rattle.std.specs.Char.{is_ascii_digit, is_ascii_lowercase, is_ascii_uppercase}
use Rattle.tf_rules.specs.declared.naming.Naming.{Naming}
use Rattle.tf_rules.specs.declared.naming.Naming.TheVariants.{SnakeCase, MixedSnakeCase}

abbrev pub is_letter : Naming → ℕ → Bool
is_letter SnakeCase b = is_ascii_lowercase b
is_letter MixedSnakeCase b = is_ascii_lowercase b || is_ascii_uppercase b

abbrev pub is_word_byte : Naming → ℕ → Bool
is_word_byte naming b = is_letter naming b || is_ascii_digit b

abbrev pub is_word : Naming → List ℕ → Bool
is_word naming word = not (length word == 0) && list_all (is_word_byte naming) word

abbrev pub begins_with_letter : Naming → List ℕ → Bool
begins_with_letter naming [] = false
begins_with_letter naming (b ∷ bs) = is_letter naming b

-- THE SET of texts of a naming
abbrev pub matches_naming : Naming → List ℕ → Bool
matches_naming naming name =
    begins_with_letter naming name && list_all (is_word naming) (slice_split (λ b. b == 95) name)

abbrev pub naming_text : Naming → List ℕ
naming_text SnakeCase = codes "snake_case"
naming_text MixedSnakeCase = codes "mixed_snake_case"
