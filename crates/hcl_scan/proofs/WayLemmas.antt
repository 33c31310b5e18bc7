-- The forms of a token of an expression.
use Rattle.std.proofs.Common.{◌≡◌, ℕ, Bool, true, false, List, [], ◌∷◌, ◌⊎◌, inl, inr, refl, sym, ◌∙◌}
use Rattle.std.specs.List.{list_all}
use Rattle.hcl_tokens.specs.Lexemes.{Opener, in_heredoc, closes_sequence}
use Rattle.hcl_tokens.specs.Spelling.{punctuation, IsPunctuation, IsNewline, IsLineComment, IsInlineComment, IsBlanks, IsIdent, IsDigits, IsNumber, IsHeredocOpen, starts, IsExpressionText}
use Rattle.hcl_tokens.specs.declared.token.Kind.{Kind}
use Rattle.hcl_tokens.specs.declared.token.Kind.TheVariants.{Newline, LineComment, InlineComment, Blank, Ident, Number, HeredocOpen, SeqClose, BraceClose, Slash, Lit, InterpOpen, ControlOpen, QuoteClose, HeredocClose}
use Rattle.hcl_tokens.proofs.BooleanLemmas.{and_true}

pub data Ways (opens : List Opener) (dot : Bool) (kind : Kind) (text rest : List ℕ) : Type 0 where
  newline : kind ≡ Newline → IsNewline text → Ways opens dot kind text rest
  line_comment : kind ≡ LineComment → IsLineComment text → Ways opens dot kind text rest
  inline_comment : kind ≡ InlineComment → IsInlineComment text → Ways opens dot kind text rest
  blanks : kind ≡ Blank → in_heredoc opens ≡ true → IsBlanks text → Ways opens dot kind text rest
  ident : kind ≡ Ident → IsIdent text → Ways opens dot kind text rest
  digits : kind ≡ Number → dot ≡ true → IsDigits text → Ways opens dot kind text rest
  number : kind ≡ Number → dot ≡ false → IsNumber text → Ways opens dot kind text rest
  heredoc : kind ≡ HeredocOpen → IsHeredocOpen text → Ways opens dot kind text rest
  seq_close : kind ≡ SeqClose → closes_sequence opens ≡ true → (text ≡ 125 ∷ []) ⊎ (text ≡ 126 ∷ 125 ∷ []) → Ways opens dot kind text rest
  brace_close : kind ≡ BraceClose → closes_sequence opens ≡ false → text ≡ 125 ∷ [] → Ways opens dot kind text rest
  slash : kind ≡ Slash → text ≡ 47 ∷ [] → starts rest (42 ∷ []) ≡ false → Ways opens dot kind text rest
  mark : IsPunctuation punctuation text kind → Ways opens dot kind text rest

number_ways : (opens : List Opener) (dot : Bool) (text rest : List ℕ) → IsExpressionText opens dot Number text rest → Ways opens dot Number text rest
number_ways opens true text rest h = digits refl refl h
number_ways opens false text rest h = number refl refl h

pub ways : (opens : List Opener) (dot : Bool) (kind : Kind) (text rest : List ℕ) → IsExpressionText opens dot kind text rest → Ways opens dot kind text rest
ways opens dot Newline text rest h = newline refl h
ways opens dot LineComment text rest h = line_comment refl h
ways opens dot InlineComment text rest h = inline_comment refl h
ways opens dot Blank text rest h = blanks refl h.0 h.1
ways opens dot Ident text rest h = ident refl h
ways opens dot Number text rest h = number_ways opens dot text rest h
ways opens dot HeredocOpen text rest h = heredoc refl h
ways opens dot SeqClose text rest h = seq_close refl h.0 h.1
ways opens dot BraceClose text rest h = brace_close refl h.0 h.1
ways opens dot Slash text rest h = slash refl h.0 h.1
ways opens dot _ text rest h = mark h

-- a test that holds for each mark holds for a mark
pub mark_passes : (test : List ℕ → Kind → Bool) (ms : List (List ℕ × Kind)) (text : List ℕ) (kind : Kind) → list_all (λ m. test m.0 m.1) ms ≡ true → IsPunctuation ms text kind → test text kind ≡ true
mark_passes test [] text kind h is = absurd is
mark_passes test (m ∷ ms) text kind h (inl is) =
    let here = (and_true (test m.0 m.1) (list_all (λ o. test o.0 o.1) ms) h).0 in
    (λ i. test (sym is.0 i) (sym is.1 i)) ∙ here
mark_passes test (m ∷ ms) text kind h (inr is) = mark_passes test ms text kind (and_true (test m.0 m.1) (list_all (λ o. test o.0 o.1) ms) h).1 is

-- the kinds of marks
abbrev pub is_marked : Kind → Bool
is_marked Newline = false
is_marked LineComment = false
is_marked InlineComment = false
is_marked Blank = false
is_marked Ident = false
is_marked Number = false
is_marked HeredocOpen = false
is_marked SeqClose = false
is_marked BraceClose = false
is_marked Slash = false
is_marked Lit = false
is_marked InterpOpen = false
is_marked ControlOpen = false
is_marked QuoteClose = false
is_marked HeredocClose = false
is_marked _ = true

pub mark_kind : (text : List ℕ) (kind : Kind) → IsPunctuation punctuation text kind → is_marked kind ≡ true
unfolding punctuation
mark_kind text kind is = mark_passes (λ _ k. is_marked k) punctuation text kind refl is
