-- Which kinds are read where.
use Rattle.std.proofs.Common.{◌≡◌, ◌≢◌, ℕ, ◌&&◌, Bool, true, List, [], ◌∷◌, Option, Some, None, ⊎_elim, refl, sym, ap, subst, ◌∙◌}
use Rattle.hcl_tokens.specs.Lexemes.{Opener, closes_sequence}
use Rattle.hcl_tokens.specs.Spelling.{punctuation, IsPunctuation, IsHeredocOpen, IsExpressionText, IsTextIn, IsSpelling, Context, Template, Expression, context}
use Rattle.hcl_scan.specs.Inner.Openings.{opened_by, opener_of}
use Rattle.hcl_scan.specs.Inner.Scanners.{fits_in}
use Rattle.hcl_scan.specs.declared.stack.Opener as kept
use Rattle.hcl_tokens.specs.declared.token.Kind.{Kind}
use Rattle.hcl_tokens.specs.declared.token.Kind.TheVariants.{Lit, InterpOpen, ControlOpen, QuoteClose, HeredocClose, HeredocOpen, QuoteOpen, ParenOpen, BracketOpen, BraceOpen, SeqClose}
use Rattle.hcl_scan.proofs.TextStartLemmas.{both}
use Rattle.hcl_scan.proofs.TemplateLemmas.{Way, ways, lit, interp, control, quote}
use Rattle.hcl_tokens.proofs.ExpressionKindLemmas.{in_expressions}
use Rattle.hcl_scan.proofs.StackLemmas.{Closable}

abbrev are_in : List (List ℕ × Kind) → Bool
are_in [] = true
are_in (m ∷ ms) = in_expressions m.1 && are_in ms

mark_in : (ms : List (List ℕ × Kind)) (text : List ℕ) (kind : Kind) → are_in ms ≡ true → IsPunctuation ms text kind → in_expressions kind ≡ true
mark_in [] text kind h is = absurd is
mark_in (m ∷ ms) text kind h is = ⊎_elim (λ e. ap in_expressions (sym e.1) ∙ (both (in_expressions m.1) (are_in ms) h).0) (λ more. mark_in ms text kind (both (in_expressions m.1) (are_in ms) h).1 more) is

marks_in : (text : List ℕ) (kind : Kind) → IsPunctuation punctuation text kind → in_expressions kind ≡ true
unfolding punctuation
marks_in text kind is = mark_in punctuation text kind refl is

expression_kind : (opens : List Opener) (dot : Bool) (kind : Kind) (text rest : List ℕ) → IsExpressionText opens dot kind text rest → in_expressions kind ≡ true
expression_kind opens dot Lit text rest h = marks_in text Lit h
expression_kind opens dot InterpOpen text rest h = marks_in text InterpOpen h
expression_kind opens dot ControlOpen text rest h = marks_in text ControlOpen h
expression_kind opens dot QuoteClose text rest h = marks_in text QuoteClose h
expression_kind opens dot HeredocClose text rest h = marks_in text HeredocClose h
expression_kind opens dot _ text rest h = refl

-- a spelling is one of an expression or of a template
pub data Side (opens : List Opener) (dot : Bool) (kind : Kind) (text rest : List ℕ) : Type 0 where
  expression : context opens ≡ Expression → in_expressions kind ≡ true → IsExpressionText opens dot kind text rest → Side opens dot kind text rest
  template : (quoted : Bool) → context opens ≡ Template quoted → Way quoted kind text rest → Side opens dot kind text rest

side_in : (c : Context) (opens : List Opener) (dot : Bool) (kind : Kind) (text rest : List ℕ) → context opens ≡ c → IsTextIn c opens dot kind text rest → Side opens dot kind text rest
side_in Expression opens dot kind text rest e h = expression e (expression_kind opens dot kind text rest h) h
side_in (Template quoted) opens dot kind text rest e h = template quoted e (ways quoted kind text rest h)

pub side : (opens : List Opener) (dot : Bool) (kind : Kind) (text rest : List ℕ) → IsSpelling opens dot kind text rest → Side opens dot kind text rest
side opens dot kind text rest h = side_in (context opens) opens dot kind text rest refl h

abbrev all_fit_in : Context → Option kept.Opener → Bool
all_fit_in c None = true
all_fit_in c (Some opener) = fits_in (opener_of opener) c

abbrev all_fit : Option kept.Opener → Bool
all_fit o = all_fit_in Expression o

in_expression : (kind : Kind) (opener : kept.Opener) → in_expressions kind ≡ true → opened_by kind ≡ Some opener → fits_in (opener_of opener) Expression ≡ true
in_expression kind opener k o = sym (ap (λ x. all_fit x) o) ∙ by kind k
  where
    by : (kind : Kind) → in_expressions kind ≡ true → all_fit (opened_by kind) ≡ true
    by InterpOpen k = absurd (cc)
    by ControlOpen k = absurd (cc)
    by QuoteOpen k = refl
    by ParenOpen k = refl
    by BracketOpen k = refl
    by BraceOpen k = refl
    by _ k = refl

in_template : (quoted : Bool) (opener : kept.Opener) → opened_by InterpOpen ≡ Some opener → fits_in (opener_of opener) (Template quoted) ≡ true
in_template quoted opener o = sym (ap (λ x. all_fit_in (Template quoted) x) o)

module _ (opens : List Opener) (dot : Bool) (text rest : List ℕ) where
  no_close_so : (kind : Kind) → Side opens dot kind text rest → kind ≢ HeredocClose
  no_close_so kind (expression e k h) is = let f = ap in_expressions is in absurd (cc)
  no_close_so kind (template quoted e (lit k h)) is = absurd (cc)
  no_close_so kind (template quoted e (interp k h)) is = absurd (cc)
  no_close_so kind (template quoted e (control k h)) is = absurd (cc)
  no_close_so kind (template quoted e (quote k q h)) is = absurd (cc)

  pub no_close : (kind : Kind) → IsSpelling opens dot kind text rest → kind ≢ HeredocClose
  no_close kind h = no_close_so kind (side opens dot kind text rest h)

  sequence_so : (kind : Kind) → Side opens dot kind text rest → kind ≡ SeqClose → closes_sequence opens ≡ true
  sequence_so kind (expression e k h) is = (subst (λ (x : Kind). IsExpressionText opens dot x text rest) is h).0
  sequence_so kind (template quoted e (lit k h)) is = absurd (cc)
  sequence_so kind (template quoted e (interp k h)) is = absurd (cc)
  sequence_so kind (template quoted e (control k h)) is = absurd (cc)
  sequence_so kind (template quoted e (quote k q h)) is = absurd (cc)

  quote_so : (kind : Kind) → Side opens dot kind text rest → kind ≡ QuoteClose → context opens ≡ Template true
  quote_so kind (expression e k h) is = let f = ap in_expressions is in absurd (cc)
  quote_so kind (template quoted e (lit k h)) is = absurd (cc)
  quote_so kind (template quoted e (interp k h)) is = absurd (cc)
  quote_so kind (template quoted e (control k h)) is = absurd (cc)
  quote_so kind (template quoted e (quote k q h)) is = e ∙ ap Template q

  pub closable : (kind : Kind) → IsSpelling opens dot kind text rest → Closable kind opens
  closable kind h = record { sequence = sequence_so kind (side opens dot kind text rest h); quote = quote_so kind (side opens dot kind text rest h) }

  pub fits : (kind : Kind) (opener : kept.Opener) → IsSpelling opens dot kind text rest → opened_by kind ≡ Some opener → fits_in (opener_of opener) (context opens) ≡ true
  fits kind opener h o = by (side opens dot kind text rest h)
    where
      by : Side opens dot kind text rest → fits_in (opener_of opener) (context opens) ≡ true
      by (expression e k h) = ap (fits_in (opener_of opener)) e ∙ in_expression kind opener k o
      by (template quoted e (lit k h)) = let f = ap opened_by (sym k) ∙ o in absurd (cc)
      by (template quoted e (interp k h)) = ap (fits_in (opener_of opener)) e ∙ in_template quoted opener (ap opened_by (sym k) ∙ o)
      by (template quoted e (control k h)) = ap (fits_in (opener_of opener)) e ∙ in_template quoted opener (ap opened_by (sym k) ∙ o)
      by (template quoted e (quote k q h)) = let f = ap opened_by (sym k) ∙ o in absurd (cc)

  pub heredoc : (kind : Kind) → IsSpelling opens dot kind text rest → kind ≡ HeredocOpen → (context opens ≡ Expression) × IsHeredocOpen text
  heredoc kind h is = by (side opens dot kind text rest h)
    where
      by : Side opens dot kind text rest → (context opens ≡ Expression) × IsHeredocOpen text
      by (expression e k h) = (e, subst (λ (x : Kind). IsExpressionText opens dot x text rest) is h)
      by (template quoted e (lit k h)) = absurd (cc)
      by (template quoted e (interp k h)) = absurd (cc)
      by (template quoted e (control k h)) = absurd (cc)
      by (template quoted e (quote k q h)) = absurd (cc)
