-- The texts of each kind: a set of whole texts for each kind and context (HCL Native Syntax Specification, "Lexical
-- Elements" and "Templates"; identifiers by UAX 31, with `-`). For the last character of a literal and for a slash it
-- depends on the text after it.
use Rattle.std.specs.Prelude.{◌≡◌, ℕ, zero, suc, ◌-◌, ◌<◌, ◌==◌, ◌||◌, ◌&&◌, Bool, true, false, IsTrue, IsFalse, List, [], ◌∷◌, ◌++◌, length, drop, if◌then◌else◌, codes, encode_utf8_all, Option, Some, None, ◌⊎◌}
use Rattle.std.specs.Option.{option_map_or}
use Rattle.std.specs.Char.{is_ascii_digit, is_ascii_hexdigit}
use Rattle.std.specs.List.{list_all, list_any}
use Rattle.std.specs.Str.{all_scalars}
use Rattle.unicode_ident.specs.Ident.{is_xid_start, is_xid_continue}
use Rattle.hcl_tokens.specs.Lexemes.{Opener, in_heredoc, closes_sequence, Quote, Heredoc}
use Rattle.hcl_tokens.specs.declared.token.Kind.{Kind}
use Rattle.hcl_tokens.specs.declared.token.Kind.TheVariants.{Newline, LineComment, InlineComment, Blank, Ident, Number, HeredocOpen, QuoteOpen, ParenOpen, BracketOpen, BraceOpen, ParenClose, BracketClose, SeqClose, BraceClose, Dot, Comma, Ellipsis, Question, Colon, ColonColon, Assign, Arrow, Not, Minus, Plus, Star, Slash, Percent, And, Or, Equal, NotEqual, Less, Greater, LessEqual, GreaterEqual, Lit, InterpOpen, ControlOpen, QuoteClose}

abbrev pub starts : List ℕ → List ℕ → Bool
starts text [] = true
starts [] (c ∷ front) = false
starts (b ∷ text) (c ∷ front) = (b == c) && starts text front

abbrev pub is_blank : ℕ → Bool
is_blank b = (b == 32) || (b == 9)

-- the marks of expressions, each with its one kind; `/` and `}` are below
unfoldable pub punctuation : List (List ℕ × Kind)
punctuation =
    (codes "\"", QuoteOpen) ∷ (codes "(", ParenOpen) ∷ (codes "[", BracketOpen)
    ∷ (codes "{", BraceOpen) ∷ (codes ")", ParenClose) ∷ (codes "]", BracketClose)
    ∷ (codes ".", Dot) ∷ (codes ",", Comma) ∷ (codes "...", Ellipsis) ∷ (codes "?", Question)
    ∷ (codes ":", Colon) ∷ (codes "::", ColonColon) ∷ (codes "=", Assign) ∷ (codes "=>", Arrow)
    ∷ (codes "!", Not) ∷ (codes "-", Minus) ∷ (codes "+", Plus) ∷ (codes "*", Star)
    ∷ (codes "%", Percent)
    ∷ (codes "&&", And) ∷ (codes "||", Or) ∷ (codes "==", Equal) ∷ (codes "!=", NotEqual)
    ∷ (codes "<", Less) ∷ (codes ">", Greater) ∷ (codes "<=", LessEqual)
    ∷ (codes ">=", GreaterEqual) ∷ []

-- the text is a mark of this kind
abbrev pub IsPunctuation : List (List ℕ × Kind) → List ℕ → Kind → Type 0
IsPunctuation [] text kind = ⊥
IsPunctuation (m ∷ ms) text kind = ((m.0 ≡ text) × (m.1 ≡ kind)) ⊎ IsPunctuation ms text kind

abbrev pub IsNewline : List ℕ → Type 0
IsNewline text = (text ≡ 10 ∷ []) ⊎ (text ≡ 13 ∷ 10 ∷ [])

abbrev pub IsBlanks : List ℕ → Type 0
IsBlanks text = (0 < length text) × IsTrue (list_all is_blank text)

abbrev pub IsDigits : List ℕ → Type 0
IsDigits text = (0 < length text) × IsTrue (list_all is_ascii_digit text)

abbrev pub continues_ident : ℕ → Bool
continues_ident c = is_xid_continue c || (c == 45)

abbrev pub starts_ident : ℕ → Bool
starts_ident c = is_xid_start c || (c == 95)

-- the characters form an identifier
abbrev pub are_ident : List ℕ → Bool
are_ident [] = false
are_ident (c ∷ cs) = starts_ident c && list_all continues_ident cs

abbrev pub IsIdent : List ℕ → Type 0
IsIdent text =
    (cs : List ℕ) × IsTrue (all_scalars cs) × IsTrue (are_ident cs) × (text ≡ encode_utf8_all cs)

abbrev pub IsFraction : List ℕ → Type 0
IsFraction text = (text ≡ []) ⊎ ((digits : List ℕ) × IsDigits digits × (text ≡ codes "." ++ digits))

abbrev pub IsSign : List ℕ → Type 0
IsSign text = (text ≡ []) ⊎ (text ≡ codes "+") ⊎ (text ≡ codes "-")

abbrev pub IsExponent : List ℕ → Type 0
IsExponent text = (text ≡ [])
    ⊎ ((letter sign digits : List ℕ) × ((letter ≡ codes "e") ⊎ (letter ≡ codes "E")) × IsSign sign
    × IsDigits digits × (text ≡ letter ++ sign ++ digits))

abbrev pub IsNumber : List ℕ → Type 0
IsNumber text =
    (whole fraction exponent : List ℕ) × IsDigits whole × IsFraction fraction × IsExponent exponent
    × (text ≡ whole ++ fraction ++ exponent)

-- `part` occurs in the text
abbrev pub Holds : List ℕ → List ℕ → Type 0
Holds text part = (before after : List ℕ) × (text ≡ before ++ part ++ after)

abbrev pub IsLineComment : List ℕ → Type 0
IsLineComment text =
    IsTrue (starts text (codes "#") || starts text (codes "//"))
    × IsFalse (list_any (λ b. b == 10) text)

-- after the `/*`, the text has one `*/`, at its end
abbrev pub IsInlineComment : List ℕ → Type 0
IsInlineComment text =
    (inner : List ℕ) × (text ≡ codes "/*" ++ inner ++ codes "*/")
    × ¬ Holds (inner ++ codes "*") (codes "*/")

abbrev pub IsHeredocOpen : List ℕ → Type 0
IsHeredocOpen text =
    (dash marker end : List ℕ) × ((dash ≡ []) ⊎ (dash ≡ codes "-")) × IsIdent marker × IsNewline end
    × (text ≡ codes "<<" ++ dash ++ marker ++ end)

-- a text of this kind in an expression, before `rest`
abbrev pub IsExpressionText : List Opener → Bool → Kind → List ℕ → List ℕ → Type 0
IsExpressionText opens after_dot Newline text rest = IsNewline text
IsExpressionText opens after_dot LineComment text rest = IsLineComment text
IsExpressionText opens after_dot InlineComment text rest = IsInlineComment text
IsExpressionText opens after_dot Blank text rest = IsTrue (in_heredoc opens) × IsBlanks text
IsExpressionText opens after_dot Ident text rest = IsIdent text
IsExpressionText opens true Number text rest = IsDigits text
IsExpressionText opens false Number text rest = IsNumber text
IsExpressionText opens after_dot HeredocOpen text rest = IsHeredocOpen text
IsExpressionText opens after_dot SeqClose text rest =
    IsTrue (closes_sequence opens) × ((text ≡ codes "}") ⊎ (text ≡ codes "~}"))
IsExpressionText opens after_dot BraceClose text rest =
    IsFalse (closes_sequence opens) × (text ≡ codes "}")
-- the `/` of a `/*` that never ends is no Slash
IsExpressionText opens after_dot Slash text rest =
    (text ≡ codes "/") × IsFalse (starts rest (codes "*"))
IsExpressionText opens after_dot kind text rest = IsPunctuation punctuation text kind

abbrev pub hex_digits_after : ℕ → List ℕ → Bool
hex_digits_after zero text = true
hex_digits_after (suc n) [] = false
hex_digits_after (suc n) (b ∷ text) = is_ascii_hexdigit b && hex_digits_after n text

-- how many bytes the escape at the front of the text has, if one is there
abbrev pub escape_len : List ℕ → Option ℕ
escape_len text =
    if starts text (codes "\\n") || starts text (codes "\\r") || starts text (codes "\\t")
    || starts text (codes "\\\"") || starts text (codes "\\\\") then Some 2
    else (if starts text (codes "\\u") && hex_digits_after 4 (drop 2 text) then Some 6
    else (if starts text (codes "\\U") && hex_digits_after 8 (drop 2 text) then Some 10
    else None))

-- a `$` or a `%`
abbrev pub is_dollar_or_percent : ℕ → Bool
is_dollar_or_percent b = (b == 36) || (b == 37)

-- the byte ends literal text in quotes, if `after` is the text after it
abbrev pub ends_quoted : ℕ → List ℕ → Bool
ends_quoted b after =
    (b == 34) || (b == 92) || (b == 10) || ((b == 13) && starts after (codes "\n"))

-- how many bytes the element of literal text at the front of the visible text has, if there is one
abbrev pub element_len : Bool → List ℕ → Option ℕ
element_len quoted [] = None
element_len quoted (b ∷ after) =
    if starts (b ∷ after) (codes "$${") || starts (b ∷ after) (codes "%%{") then Some 3
    else (if is_dollar_or_percent b then (if starts after (codes "{") then None else Some 1)
    else (if quoted && ends_quoted b after then escape_len (b ∷ after)
    else Some 1))

-- whole elements, if `left` more bytes belong to one that has begun
abbrev pub are_elements : Bool → ℕ → List ℕ → List ℕ → Bool
are_elements quoted zero [] rest = true
are_elements quoted (suc left) [] rest = false
are_elements quoted zero (b ∷ text) rest =
    option_map_or (λ n. are_elements quoted (n - 1) text rest) (element_len quoted (b ∷ text
    ++ rest)) false
are_elements quoted (suc left) (b ∷ text) rest = are_elements quoted left text rest

abbrev pub IsLiteral : Bool → List ℕ → List ℕ → Type 0
IsLiteral quoted text rest = (0 < length text) × IsTrue (are_elements quoted 0 text rest)

-- a text of this kind in a template, before `rest`
abbrev pub IsTemplateText : Bool → Kind → List ℕ → List ℕ → Type 0
IsTemplateText quoted Lit text rest = IsLiteral quoted text rest
IsTemplateText quoted InterpOpen text rest = (text ≡ codes "${") ⊎ (text ≡ codes "${~")
IsTemplateText quoted ControlOpen text rest = (text ≡ codes "%{") ⊎ (text ≡ codes "%{~")
IsTemplateText true QuoteClose text rest = text ≡ codes "\""
IsTemplateText quoted kind text rest = ⊥

-- how the text is read, by the innermost opener
pub data Context : Type 0 where
  Template : (quoted : Bool) → Context
  Expression : Context

abbrev pub context_in : Opener → Context
context_in Quote = Template true
context_in Heredoc = Template false
context_in _ = Expression

abbrev pub context : List Opener → Context
context [] = Expression
context (o ∷ opens) = context_in o

abbrev pub IsTextIn : Context → List Opener → Bool → Kind → List ℕ → List ℕ → Type 0
IsTextIn (Template quoted) opens after_dot kind text rest = IsTemplateText quoted kind text rest
IsTextIn Expression opens after_dot kind text rest = IsExpressionText opens after_dot kind text rest

-- a spelling of the kind, with these openers open, before `rest`; a heredoc's closing marker has no spelling here
abbrev pub IsSpelling : List Opener → Bool → Kind → List ℕ → List ℕ → Type 0
IsSpelling opens = IsTextIn (context opens) opens
