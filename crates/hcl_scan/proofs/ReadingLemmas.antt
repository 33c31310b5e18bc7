-- The array of the open constructs is their stack.
use Rattle.std.proofs.Common.{◌≡◌, ℕ, ◌+◌, ◌<◌, List, [], ◌∷◌, length, take, drop, reverse, get_or, None, refl, sym, ap, subst, ◌∙◌, arith, slice_set}
use Rattle.std.proofs.lemmas.List.{reverse-append, take_more, take_more_set}
use Rattle.hcl_tokens.specs.Spelling.{context, context_in}
use Rattle.hcl_scan.specs.Inner.Openings.{opener_of, openers_of, quoted_in}
use Rattle.hcl_scan.specs.Inner.Readings.{template_in, group_reading, reading_on, stack_of, top_reading, KnowAround, IsStackStorage}
use Rattle.hcl_scan.specs.declared.stack.Opener as kept
use Rattle.hcl_scan.specs.declared.stack.Opener.TheVariants as by
use Rattle.hcl_scan.specs.declared.stack.Opened.{Opened}
use Rattle.hcl_scan.specs.declared.stack.Reading.{Reading}
use Rattle.hcl_scan.specs.declared.stack.Reading.TheVariants.{Code, SequenceCode, QuotedText, HeredocText}

-- A READING
group_template : (r : Reading) → template_in (group_reading r) ≡ None
group_template Code = refl
group_template SequenceCode = refl
group_template QuotedText = refl
group_template HeredocText = refl

template_on : (opener : kept.Opener) (r : Reading) → template_in (reading_on opener r) ≡ quoted_in (context_in (opener_of opener))
template_on by.Quote r = refl
template_on (by.Heredoc c o) r = refl
template_on by.Sequence r = refl
template_on by.Brace r = refl
template_on by.Bracket r = group_template r
template_on by.Paren r = group_template r

-- THE OPEN CONSTRUCTS
pub template_under : (stack : List Opened) → template_in (top_reading stack) ≡ quoted_in (context (openers_of stack))
template_under [] = refl
template_under (o ∷ stack) = template_on o.by o.around

pub one_more : (opened : List Opened) (n : ℕ) (o : Opened) → n < length opened → stack_of (n + 1) (slice_set opened n o) ≡ o ∷ stack_of n opened
one_more opened n o within = ap reverse (take_more_set opened n o within) ∙ reverse-append (take n opened) (o ∷ [])

top_at : (opened : List Opened) (n : ℕ) (d : Opened) → n < length opened → stack_of (n + 1) opened ≡ get_or opened n d ∷ stack_of n opened
top_at opened n d within = ap reverse (take_more opened n d within) ∙ reverse-append (take n opened) (get_or opened n d ∷ [])

-- the top, and the constructs below it
module _ (opened : List Opened) (m n : ℕ) (reading : Reading) (o : Opened) (one : n + 1 ≡ m) (top : o ≡ get_or opened n o) (is : IsStackStorage m opened reading) where
  pub top_first : stack_of m opened ≡ o ∷ stack_of n opened
  top_first = ap (λ k. stack_of k opened) (sym one) ∙ top_at opened n o (omega (arith, one, is.within, is.room)) ∙ ap (λ p. p ∷ stack_of n opened) (sym top)

  pub closes_top : IsStackStorage n opened o.around
  closes_top =
      let know : KnowAround (o ∷ stack_of n opened) = subst (λ (l : List Opened). KnowAround l) top_first is.around in
      record { room = is.room; within = omega (arith, one, is.within); around = know.1; read_so = know.0 }

pub top_dropped : (stack below : List Opened) (o : Opened) → stack ≡ o ∷ below → stack ≡ o ∷ drop 1 stack
top_dropped stack below o e = e ∙ ap (λ (l : List Opened). o ∷ drop 1 l) (sym e)
