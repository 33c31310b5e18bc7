-- THE FOLDS of a text (Language Server Protocol 3.17, "Folding Range Request"): for each attribute and each block, in order,
-- the lines that an editor may hide except the first. The line on which its last token begins stays in sight too, which
-- is our own choice.
use Rattle.std.specs.Prelude.{◌≡◌, ◌⊎◌, ℕ, ◌+◌, ◌-◌, List, [], ◌∷◌, flat_map, nat_lt, if◌then◌else◌}
use Rattle.hcl_grammar.specs.Items.{outline}
use Rattle.hcl_grammar.specs.Verdict.{start_of}
use Rattle.hcl_grammar.specs.declared.item.Item.{Item}
use Rattle.hcl_grammar.specs.declared.item.Item.TheVariants as item
use Rattle.hcl_tokens.specs.Scanned.{Scanned}
use Rattle.text_places.specs.Places.{place_at}
use Rattle.text_places.specs.declared.place.Units.TheVariants.{Bytes}
use Rattle.text_outline.specs.Files.{IsFile, IsRefused}
use Rattle.text_outline.specs.declared.fold.Fold.{Fold}

-- the line on which the token of this number begins, from 0; it is the same in all units
abbrev pub line_of_token : Scanned → ℕ → ℕ
line_of_token s n = (place_at Bytes s.text (start_of s.tokens n)).line

-- from one line up to before another, if a line is between
abbrev pub fold_between : ℕ → ℕ → List Fold
fold_between a b = if nat_lt (a + 1) b then record { first = a; last = b - 1 } ∷ [] else []

-- the fold of an item with these tokens: its first, and one past its last
abbrev pub fold_from : Scanned → ℕ → ℕ → List Fold
fold_from s first end = fold_between (line_of_token s first) (line_of_token s (end - 1))

abbrev pub fold_of : Scanned → Item → List Fold
fold_of s (item.Attribute level name first end) = fold_from s name end
fold_of s (item.Block level kind end) = fold_from s kind end
fold_of s (item.Label l) = []

-- the folds of a file
abbrev pub folds_of : Scanned → List Fold
folds_of s = flat_map (fold_of s) (outline s.tokens)

-- the folds of a text, or none if it is refused
abbrev pub HasFolds : List ℕ → List Fold → Type 0
HasFolds text folds =
    ((s : Scanned) × IsFile text s × (folds ≡ folds_of s)) ⊎ (IsRefused text × (folds ≡ []))
