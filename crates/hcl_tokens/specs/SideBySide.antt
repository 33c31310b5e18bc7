-- Adjacent tokens of a scan, by the kind before and the first byte, so that code which inserts blanks between them need
-- not know how a text is read. The law `side_by_side` of `hcl_scan` derives this from the scan.
use Rattle.std.specs.Prelude.{◌||◌, ◌≡◌, ℕ, ◌==◌, Bool, true, false, List, [], ◌∷◌, get_or, nat_le, codes, if◌then◌else◌, ◌⊎◌, IsUtf8}
use Rattle.std.specs.Char.{is_ascii_digit, is_ascii_alphabetic}
use Rattle.hcl_tokens.specs.Lexemes.{Lexeme}
use Rattle.hcl_tokens.specs.Kinds.{is}
use Rattle.hcl_tokens.specs.Regapped.{is_template}
use Rattle.hcl_tokens.specs.declared.token.Kind.{Kind}
use Rattle.hcl_tokens.specs.declared.token.Kind.TheVariants.{Newline, LineComment, InlineComment, HeredocOpen, QuoteOpen, SeqClose, Dot, Ellipsis, Colon, ColonColon, Assign, Arrow, Slash, Equal, Less, Greater, LessEqual, GreaterEqual, Lit, HeredocClose, Ident, Minus, Number, Star}

-- an identifier may begin with the byte; beyond ASCII the whole character decides
abbrev pub may_begin_ident : ℕ → Bool
may_begin_ident b = is_ascii_alphabetic b || (b == 95) || nat_le 128 b

-- an expression's token that begins with this byte may be of this kind; bytes that extend no token allow every kind
abbrev pub begins_as : Kind → ℕ → Bool
begins_as kind b =
    if may_begin_ident b then is Ident kind
    else if is_ascii_digit b then is Number kind
    else if b == 45 then is Minus kind
    else if b == 46 then is Dot kind || is Ellipsis kind
    else if b == 58 then is Colon kind || is ColonColon kind
    else if b == 61 then is Assign kind || is Arrow kind || is Equal kind
    else if b == 62 then is Greater kind || is GreaterEqual kind
    else if b == 60 then is Less kind || is LessEqual kind || is HeredocOpen kind
    else if b == 47 then is Slash kind || is LineComment kind || is InlineComment kind
    else if b == 42 then is Star kind
    else if b == 126 then is SeqClose kind
    else true

-- a template may continue after a token of this kind
abbrev pub opens_template : Kind → Bool
opens_template k = is QuoteOpen k || is Lit k || is SeqClose k

-- a token after one of this kind. Outside heredocs a Newline follows a comment that runs to the end of its line; a
-- template begins after a quote, and continues after literal text or a sequence; the first byte limits the kind; a
-- sequence's closer has two spellings. A heredoc's closer is inside the heredoc.
pub record Beside (before : Kind) (t : Lexeme) : Type 0 where
  pub comment : t.inside_heredoc ≡ false → before ≡ LineComment → t.kind ≡ Newline
  pub template : t.inside_heredoc ≡ false → is_template t.kind ≡ true → opens_template before ≡ true
  pub begins : t.inside_heredoc ≡ false → is_template t.kind ≡ false
      → begins_as t.kind (get_or t.text 0 0) ≡ true
  pub closer : t.kind ≡ HeredocClose → t.inside_heredoc ≡ true
  pub tilde : t.inside_heredoc ≡ false → t.kind ≡ SeqClose → (t.text ≡ codes "}")
      ⊎ (t.text ≡ codes "~}")

-- each token of a list fits the kind before it, and the first fits this kind
abbrev pub Besides : Kind → List Lexeme → Type 0
Besides before [] = Unit {0}
Besides before (t ∷ ts) = Beside before t × Besides t.kind ts

-- the text of each token is UTF-8
abbrev pub AreTexts : List Lexeme → Type 0
AreTexts [] = Unit {0}
AreTexts (t ∷ ts) = IsUtf8 t.text × AreTexts ts
