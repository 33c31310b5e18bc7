-- The results of the scanner's parts at the front of the visible text: the longest token of any kind, as the HCL Native
-- Syntax Specification reads a text, or the longest front of one form.
use Rattle.std.specs.Prelude.{◌≡◌, ℕ, ◌+◌, ◌<◌, ◌≤◌, ◌==◌, ◌||◌, not, Bool, true, false, List, [], ◌++◌, length, take, drop, if◌then◌else◌, get_or, codes, encode_utf8, encode_utf8_all, ◌⊎◌}
use Rattle.std.specs.Char.{is_ascii_alphanumeric}
use Rattle.std.specs.List.{list_all}
use Rattle.hcl_tokens.specs.Lexemes.{Opener, in_heredoc, closes_sequence}
use Rattle.hcl_tokens.specs.Spelling.{IsPunctuation, IsBlanks, IsDigits, IsNumber, IsIdent, IsNewline, starts, is_dollar_or_percent, continues_ident, context, Expression}
use Rattle.hcl_tokens.specs.Scans.{IsLongest, HasNone}
use Rattle.hcl_tokens.specs.declared.token.Kind.{Kind}
use Rattle.hcl_tokens.specs.declared.token.Kind.TheVariants.{SeqClose, BraceClose}

-- the first n bytes are the longest spelling, of this kind
pub record Finds (opens : List Opener) (after_dot : Bool) (seen : List ℕ) (kind : Kind) (n : ℕ) : Type 0 where
  pub within : n ≤ length seen
  pub some : 0 < n
  pub longest : IsLongest opens after_dot seen kind (take n seen) (drop n seen)

-- the context is an expression, in a heredoc or not, in which a `}` closes a sequence or not
pub record AreSurroundings (opens : List Opener) (inside closes : Bool) : Type 0 where
  pub expression : context opens ≡ Expression
  pub heredoc : in_heredoc opens ≡ inside
  pub sequence : closes_sequence opens ≡ closes

abbrev pub FindsAt : Bool → Bool → Bool → List ℕ → Kind → ℕ → Type 0
FindsAt after_dot inside closes seen kind n = (opens : List Opener) → AreSurroundings opens inside closes → Finds opens after_dot seen kind n

abbrev pub HasNoneAt : Bool → Bool → Bool → List ℕ → Type 0
HasNoneAt after_dot inside closes seen = (opens : List Opener) → AreSurroundings opens inside closes → HasNone opens after_dot seen

-- the first n bytes have this form, and no more do
pub record IsLongestFront (form : List ℕ → Type 0) (seen : List ℕ) (n : ℕ) : Type 0 where
  pub within : n ≤ length seen
  pub formed : form (take n seen)
  pub longest : (longer left : List ℕ) → longer ++ left ≡ seen → form longer → length longer ≤ n

abbrev pub HasNoFront : (List ℕ → Type 0) → List ℕ → Type 0
HasNoFront form seen = (text rest : List ℕ) → text ++ rest ≡ seen → ¬ form text

-- forms that depend on the place
abbrev pub BlankText : Bool → List ℕ → Type 0
BlankText true text = IsBlanks text
BlankText false text = ⊥

abbrev pub NumberText : Bool → List ℕ → Type 0
NumberText true text = IsDigits text
NumberText false text = IsNumber text

abbrev pub CloserText : Bool → List ℕ → Type 0
CloserText true text = (text ≡ codes "}") ⊎ (text ≡ codes "~}")
CloserText false text = text ≡ codes "}"

abbrev pub closer_kind : Bool → Kind
closer_kind true = SeqClose
closer_kind false = BraceClose

-- the text of a mark of this kind is at the front, and of no longer mark
pub record IsLongestPunctuation (table : List (List ℕ × Kind)) (seen : List ℕ) (kind : Kind) (n : ℕ) : Type 0 where
  pub within : n ≤ length seen
  pub formed : IsPunctuation table (take n seen) kind
  pub longest : (other : Kind) (longer left : List ℕ) → longer ++ left ≡ seen → IsPunctuation table longer other → length longer ≤ n

abbrev pub HasNoPunctuation : List (List ℕ × Kind) → List ℕ → Type 0
HasNoPunctuation table seen = (kind : Kind) (text rest : List ℕ) → text ++ rest ≡ seen → ¬ IsPunctuation table text kind

-- the first character passes the test
pub record BeginsWith (test : ℕ → Bool) (text : List ℕ) : Type 0 where
  pub first : ℕ
  pub rest : List ℕ
  pub passes : test first ≡ true
  pub whole : text ≡ encode_utf8 first ++ rest

-- and takes n bytes
pub record FirstChar (test : ℕ → Bool) (text : List ℕ) (n : ℕ) : Type 0 where
  pub begins : BeginsWith test text
  pub takes : n ≡ length (encode_utf8 begins.first)

-- no first character passes
abbrev pub BeginsWithout : (ℕ → Bool) → List ℕ → Type 0
BeginsWithout test text = (text ≡ []) ⊎ ((first : ℕ) × (rest : List ℕ) × (test first ≡ false) × (text ≡ encode_utf8 first ++ rest))

-- the ASCII byte may be inside an identifier
abbrev pub continues_ascii : ℕ → Bool
continues_ascii b = is_ascii_alphanumeric b || (b == 95) || (b == 45)

-- characters that may be inside an identifier
abbrev pub AreContinuing : List ℕ → Type 0
AreContinuing text = (cs : List ℕ) × (list_all continues_ident cs ≡ true) × (text ≡ encode_utf8_all cs)

-- the byte is an element of literal text by itself, at any place
abbrev pub is_ordinary : ℕ → Bool
is_ordinary b = not (is_dollar_or_percent b || (b == 34) || (b == 92) || (b == 10) || (b == 13))

-- the marker of a heredoc's opener, and the newline after it
abbrev pub IsMarker : List ℕ → Type 0
IsMarker text = (marker end : List ℕ) × IsIdent marker × IsNewline end × (text ≡ marker ++ end)

-- how many bytes are before the marker of a heredoc's opener
abbrev pub heredoc_mark_len : List ℕ → ℕ
heredoc_mark_len seen = if starts seen (codes "<<-") then 3 else (if starts seen (codes "<<") then 2 else 0)

-- there is a `*/` after n bytes
abbrev pub EndsComment : List ℕ → ℕ → Type 0
EndsComment text n = (get_or text n 0 ≡ 42) × (get_or text (n + 1) 0 ≡ 47)
