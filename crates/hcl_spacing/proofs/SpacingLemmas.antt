-- The answers of rows of the spacing table: none by the first row, and none where a template continues.
use Rattle.std.proofs.Common.{◌≡◌, ◌||◌, Bool, true, false, Option, refl, ◌∙◌}
use Rattle.hcl_tokens.specs.Lexemes.{Lexeme}
use Rattle.hcl_tokens.specs.Regapped as regapped
use Rattle.hcl_tokens.specs.SideBySide as beside
use Rattle.hcl_tokens.specs.declared.token.Kind.{Kind}
use Rattle.hcl_tokens.specs.declared.token.Kind.TheVariants as kind
use Rattle.hcl_tokens.specs.Kinds.{is}
use Rattle.hcl_spacing.proofs.KindLemmas.{never}
use Rattle.hcl_spacing.specs.Spacing.{has_blank}

-- ---- row 1
pub row_one : (before : Option Lexeme) (u t : Lexeme) → (is kind.Newline t.kind || t.inside_heredoc) ≡ true → has_blank before u t ≡ false
row_one before u t h = rw h refl

-- ---- rows 7 and 15: the continuation of a template
abbrev of_kind : Kind → Lexeme → Lexeme
of_kind k u = record { kind = k; text = u.text; start = u.start; inside_heredoc = u.inside_heredoc }

abbrev outside : Kind → Lexeme → Lexeme
outside k t = record { kind = k; text = t.text; start = t.start; inside_heredoc = false }

abbrev is_heredoc_close : Kind → Bool
is_heredoc_close kind.HeredocClose = true
is_heredoc_close _ = false

after_quote : (before : Option Lexeme) (u t : Lexeme) (k : Kind) → regapped.is_template k ≡ true → is_heredoc_close k ≡ false → has_blank before (of_kind kind.QuoteOpen u) (outside k t) ≡ false
after_quote before u t kind.Lit h c = refl
after_quote before u t kind.InterpOpen h c = refl
after_quote before u t kind.ControlOpen h c = refl
after_quote before u t kind.QuoteClose h c = refl
after_quote before u t kind.HeredocClose h c = absurd (cc)
after_quote before u t _ h c = never h

after_lit : (before : Option Lexeme) (u t : Lexeme) (k : Kind) → regapped.is_template k ≡ true → is_heredoc_close k ≡ false → has_blank before (of_kind kind.Lit u) (outside k t) ≡ false
after_lit before u t kind.Lit h c = refl
after_lit before u t kind.InterpOpen h c = refl
after_lit before u t kind.ControlOpen h c = refl
after_lit before u t kind.QuoteClose h c = refl
after_lit before u t kind.HeredocClose h c = absurd (cc)
after_lit before u t _ h c = never h

after_sequence : (before : Option Lexeme) (u t : Lexeme) (k : Kind) → regapped.is_template k ≡ true → is_heredoc_close k ≡ false → has_blank before (of_kind kind.SeqClose u) (outside k t) ≡ false
after_sequence before u t kind.Lit h c = refl
after_sequence before u t kind.InterpOpen h c = refl
after_sequence before u t kind.ControlOpen h c = refl
after_sequence before u t kind.QuoteClose h c = refl
after_sequence before u t kind.HeredocClose h c = absurd (cc)
after_sequence before u t _ h c = never h

template_rows : (before : Option Lexeme) (u t : Lexeme) (k k' : Kind) → beside.opens_template k ≡ true → regapped.is_template k' ≡ true → is_heredoc_close k' ≡ false → has_blank before (of_kind k u) (outside k' t) ≡ false
template_rows before u t kind.QuoteOpen k' h i c = after_quote before u t k' i c
template_rows before u t kind.Lit k' h i c = after_lit before u t k' i c
template_rows before u t kind.SeqClose k' h i c = after_sequence before u t k' i c
template_rows before u t _ k' h i c = never h

not_heredoc_close : (k : Kind) (inside : Bool) → inside ≡ false → (k ≡ kind.HeredocClose → inside ≡ true) → is_heredoc_close k ≡ false
not_heredoc_close kind.HeredocClose inside e f = absurd (let g = f refl in cc)
not_heredoc_close _ inside e f = refl

pub template_touches : (before : Option Lexeme) (u t : Lexeme) → t.inside_heredoc ≡ false → beside.opens_template u.kind ≡ true → regapped.is_template t.kind ≡ true → (t.kind ≡ kind.HeredocClose → t.inside_heredoc ≡ true) → has_blank before u t ≡ false
template_touches before u t e h i f =
    (λ j. has_blank before u (record { kind = t.kind; text = t.text; start = t.start; inside_heredoc = e j })) ∙ template_rows before u t u.kind t.kind h i (not_heredoc_close t.kind t.inside_heredoc e f)
