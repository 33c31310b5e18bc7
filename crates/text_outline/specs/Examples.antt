-- A worked example of symbols and folds: a small file, by computation.
use Rattle.std.specs.Prelude.{◌≡◌, ℕ, refl, List, [], ◌∷◌, codes, false}
use Rattle.hcl_tokens.specs.Lexemes.{Lexeme}
use Rattle.hcl_tokens.specs.Scanned.{Scanned}
use Rattle.hcl_tokens.specs.declared.token.Kind.{Kind}
use Rattle.hcl_tokens.specs.declared.token.Kind.TheVariants as kind
use Rattle.text_places.specs.declared.ranges.Range.{Range}
use Rattle.text_places.specs.declared.place.Units.TheVariants.{Bytes}
use Rattle.text_outline.specs.Folds.{folds_of}
use Rattle.text_outline.specs.Symbols.{symbols_of}
use Rattle.text_outline.specs.declared.symbol.SymbolKind.TheVariants.{Attribute, Block}

abbrev token : ℕ → Kind → List ℕ → Lexeme
token start kind text = record { kind = kind; text = text; start = start; inside_heredoc = false }

-- b "x" {
--   c = 1
-- }
abbrev small : Scanned
small = record {
  text = codes "b \"x\" {\n  c = 1\n}\n";
  tokens =
      token 0 kind.Ident (codes "b") ∷ token 2 kind.QuoteOpen (codes "\"")
      ∷ token 3 kind.Lit (codes "x") ∷ token 4 kind.QuoteClose (codes "\"")
      ∷ token 6 kind.BraceOpen (codes "{") ∷ token 7 kind.Newline (codes "\n")
      ∷ token 10 kind.Ident (codes "c") ∷ token 12 kind.Assign (codes "=")
      ∷ token 14 kind.Number (codes "1") ∷ token 15 kind.Newline (codes "\n")
      ∷ token 16 kind.BraceClose (codes "}") ∷ token 17 kind.Newline (codes "\n") ∷ [];
}

abbrev range : ℕ → ℕ → ℕ → ℕ → Range
range line character end_line end_character = record {
  start = record { line = line; character = character };
  end = record { line = end_line; character = end_character };
}

symbols_small : symbols_of Bytes small ≡
    record {
      name = codes "b \"x\"";
      kind = Block;
      level = 0;
      range = range 0 0 2 1;
      selection = range 0 0 0 1;
    } ∷ record {
      name = codes "c";
      kind = Attribute;
      level = 1;
      range = range 1 2 1 7;
      selection = range 1 2 1 3;
    } ∷ []
symbols_small = refl

folds_small : folds_of small ≡ record { first = 0; last = 1 } ∷ []
folds_small = refl
