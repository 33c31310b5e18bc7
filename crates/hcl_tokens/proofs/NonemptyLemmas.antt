-- No token is empty.
use Rattle.std.proofs.Common.{◌≡◌, ◌++◌, ◌<◌, ◌∙◌, ℕ, Bool, true, false, List, [], ◌∷◌, inl, inr, ⊎_elim, length, ap, sym, arith, refl, length-append, encode_utf8_all}
use Rattle.std.specs.List.{list_all}
use Rattle.std.proofs.lemmas.Str.{length-le-encodes}
use Rattle.hcl_tokens.specs.Lexemes.{Opener}
use Rattle.hcl_tokens.specs.Spelling.{Context, Expression, IsExpressionText, IsIdent, IsPunctuation, IsTemplateText, IsTextIn, Template, are_ident, context, punctuation}
use Rattle.hcl_tokens.specs.declared.token.Kind.{Kind}
use Rattle.hcl_tokens.specs.declared.token.Kind.TheVariants.{Newline, LineComment, InlineComment, Blank, Ident, Number, HeredocOpen, SeqClose, BraceClose, Slash, Lit, InterpOpen, ControlOpen, QuoteClose}
use Rattle.hcl_tokens.proofs.BooleanLemmas.{and_true}
use Rattle.hcl_tokens.proofs.OneReadingLemmas.{Nonempty}

-- ---- spellings in expressions
abbrev has_some : List ℕ → Bool
has_some [] = false
has_some (b ∷ l) = true

mark_some : (ms : List (List ℕ × Kind)) (kind : Kind) → list_all (λ m. has_some m.0) ms ≡ true → IsPunctuation ms [] kind → ⊥
mark_some [] kind h is = absurd is
mark_some (m ∷ ms) kind h (inl is) =
    let e : false ≡ true = ap has_some (sym is.0) ∙ (and_true (has_some m.0) (list_all (λ o. has_some o.0) ms) h).0 in absurd (cc)
mark_some (m ∷ ms) kind h (inr is) = mark_some ms kind (and_true (has_some m.0) (list_all (λ o. has_some o.0) ms) h).1 is

no_mark : (kind : Kind) → IsPunctuation punctuation [] kind → ⊥
unfolding punctuation
no_mark kind is = mark_some punctuation kind refl is

no_ident : IsIdent [] → ⊥
no_ident is = by is.0 is.2 is.3
  where
    by : (cs : List ℕ) → are_ident cs ≡ true → [] ≡ encode_utf8_all cs → ⊥
    by [] h e = absurd (cc)
    by (c ∷ cs) h e = absurd (omega (arith, ap length e, length-le-encodes (c ∷ cs)))

no_number : (opens : List Opener) (dot : Bool) (rest : List ℕ) → IsExpressionText opens dot Number [] rest → ⊥
no_number opens true rest h = absurd (omega (arith, h.0))
no_number opens false rest h = absurd (omega (arith, ap length h.6, length-append (h.0 ++ h.1) h.2, length-append h.0 h.1, h.3.0))

no_text : (opens : List Opener) (dot : Bool) (kind : Kind) (rest : List ℕ) → IsExpressionText opens dot kind [] rest → ⊥
no_text opens dot Newline rest h = absurd (⊎_elim (λ e. omega (arith, ap length e)) (λ e. omega (arith, ap length e)) h)
no_text opens dot LineComment rest h = absurd (let e : false ≡ true = h.0 in cc)
no_text opens dot InlineComment rest h = absurd (omega (arith, ap length h.1))
no_text opens dot Blank rest h = absurd (omega (arith, h.1.0))
no_text opens dot Ident rest h = no_ident h
no_text opens dot Number rest h = no_number opens dot rest h
no_text opens dot HeredocOpen rest h = absurd (omega (arith, ap length h.6))
no_text opens dot SeqClose rest h = absurd (⊎_elim (λ e. omega (arith, ap length e)) (λ e. omega (arith, ap length e)) h.1)
no_text opens dot BraceClose rest h = absurd (omega (arith, ap length h.1))
no_text opens dot Slash rest h = absurd (omega (arith, ap length h.0))
no_text opens dot _ rest h = no_mark _ h

some_expression : (opens : List Opener) (dot : Bool) (kind : Kind) (text rest : List ℕ) → IsExpressionText opens dot kind text rest → 0 < length text
some_expression opens dot kind [] rest h = absurd (no_text opens dot kind rest h)
some_expression opens dot kind (b ∷ text) rest h = omega arith

-- ---- spellings in templates
some_template : (quoted : Bool) (kind : Kind) (text rest : List ℕ) → IsTemplateText quoted kind text rest → 0 < length text
some_template true Lit text rest h = h.0
some_template false Lit text rest h = h.0
some_template true InterpOpen text rest h = ⊎_elim (λ e. omega (arith, ap length e)) (λ e. omega (arith, ap length e)) h
some_template false InterpOpen text rest h = ⊎_elim (λ e. omega (arith, ap length e)) (λ e. omega (arith, ap length e)) h
some_template true ControlOpen text rest h = ⊎_elim (λ e. omega (arith, ap length e)) (λ e. omega (arith, ap length e)) h
some_template false ControlOpen text rest h = ⊎_elim (λ e. omega (arith, ap length e)) (λ e. omega (arith, ap length e)) h
some_template true QuoteClose text rest h = omega (arith, ap length h)
some_template false QuoteClose text rest h = absurd h
some_template true _ text rest h = absurd h
some_template false _ text rest h = absurd h

-- ---- spellings in any context
some_in : (c : Context) (opens : List Opener) (dot : Bool) (kind : Kind) (text rest : List ℕ) → IsTextIn c opens dot kind text rest → 0 < length text
some_in Expression opens dot kind text rest h = some_expression opens dot kind text rest h
some_in (Template quoted) opens dot kind text rest h = some_template quoted kind text rest h

pub nonempty : Nonempty
unfolding Nonempty
nonempty opens dot kind text rest h = some_in (context opens) opens dot kind text rest h
