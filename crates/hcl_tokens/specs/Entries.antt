-- The tokens that entries stand for in a text. Our own types.
use Rattle.std.specs.Prelude.{◌≤◌, ℕ, List, All, length, map, slice_range}
use Rattle.std.specs.Str.{IsCharBoundary}
use Rattle.hcl_tokens.specs.Lexemes.{Lexeme}
use Rattle.hcl_tokens.specs.Scans.{Scans}
use Rattle.hcl_tokens.specs.declared.token.TokenEntry.{TokenEntry}

-- the token that an entry stands for
abbrev pub lexeme_of : List ℕ → TokenEntry → Lexeme
lexeme_of text e =
    record {
      kind = e.kind;
      text = slice_range text e.start e.end;
      start = e.start;
      inside_heredoc = e.inside_heredoc;
    }

abbrev pub lexemes_of : List ℕ → List TokenEntry → List Lexeme
lexemes_of text es = map (lexeme_of text) es

-- the entry's text is a part of the text, between characters
pub record IsEntry (text : List ℕ) (e : TokenEntry) : Type 0 where
  pub order : e.start ≤ e.end
  pub start : IsCharBoundary text e.start
  pub end : IsCharBoundary text e.end

-- the entries are the tokens of the text
pub record AreTokens (text : List ℕ) (es : List TokenEntry) : Type 0 where
  pub parts : All (IsEntry text) es
  pub within : length es ≤ length text
  pub scanned : Scans text (lexemes_of text es)
