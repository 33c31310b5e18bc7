-- The open constructs agree with the hidden text: as many heredocs are open as are hidden. And everything but a
-- sequence is opened in an expression, so closing a quote, a heredoc or a group leads back to one.
use Rattle.std.proofs.Common.{◌≡◌, ℕ, ◌&&◌, ◌||◌, Bool, true, false, cond, List, [], ◌∷◌, length, drop, None, ◌+◌, ◌<◌, if◌then◌else◌, ⊎_elim, refl, sym, ap, subst, ◌∙◌, arith}
use Rattle.hcl_tokens.specs.Lexemes.{Lexeme, Opener, Quote, Heredoc, Sequence, Brace, Bracket, Paren, open_after, closes_sequence, below_groups, pop_if, in_heredoc, same_opener}
use Rattle.hcl_tokens.specs.Spelling.{IsSpelling, IsTextIn, context, Context, Template, Expression}
use Rattle.hcl_tokens.specs.Scans.{State, Hidden, Next, Reads, Closes, unclosed_opener}
use Rattle.hcl_tokens.specs.declared.token.Kind.{Kind}
use Rattle.hcl_tokens.specs.declared.token.Kind.TheVariants.{HeredocOpen, QuoteOpen, ParenOpen, BracketOpen, BraceOpen, ParenClose, BracketClose, SeqClose, BraceClose, Lit, InterpOpen, ControlOpen, QuoteClose, HeredocClose}
use Rattle.hcl_scan.proofs.WayLemmas.{Ways, ways, newline, line_comment, inline_comment, blanks, ident, digits, number, heredoc, seq_close, brace_close, slash, mark, is_marked, mark_kind}
use Rattle.hcl_tokens.proofs.BooleanLemmas.{and_true}
use Rattle.hcl_scan.proofs.ContextLemmas.{is_expression, is_quoted}
use Rattle.hcl_scan.proofs.ShownLemmas.{Shown, opening, plain, shown, opens_heredoc}

abbrev pub count : List Opener → ℕ
count [] = 0
count (o ∷ os) = if same_opener Heredoc o then 1 + count os else count os

-- everything but a sequence is opened in an expression
abbrev pub is_grounded : List Opener → Bool
is_grounded [] = true
is_grounded (o ∷ os) = (same_opener Sequence o || is_expression (context os)) && is_grounded os

pub record Sound (opens : List Opener) (hidden : List Hidden) : Type 0 where
  pub counted : count opens ≡ length hidden
  pub grounded : is_grounded opens ≡ true

pub if_heredoc : (opens : List Opener) → 0 < count opens → in_heredoc opens ≡ true
if_heredoc [] h = absurd (omega arith)
if_heredoc (Heredoc ∷ os) h = refl
if_heredoc (Quote ∷ os) h = if_heredoc os h
if_heredoc (Sequence ∷ os) h = if_heredoc os h
if_heredoc (Brace ∷ os) h = if_heredoc os h
if_heredoc (Bracket ∷ os) h = if_heredoc os h
if_heredoc (Paren ∷ os) h = if_heredoc os h

pub no_heredoc : (opens : List Opener) → count opens ≡ 0 → in_heredoc opens ≡ false
no_heredoc [] h = refl
no_heredoc (Heredoc ∷ os) h = absurd (omega (arith, h))
no_heredoc (Quote ∷ os) h = no_heredoc os h
no_heredoc (Sequence ∷ os) h = no_heredoc os h
no_heredoc (Brace ∷ os) h = no_heredoc os h
no_heredoc (Bracket ∷ os) h = no_heredoc os h
no_heredoc (Paren ∷ os) h = no_heredoc os h

pub must_close_heredoc : (opens : List Opener) → unclosed_opener opens ≡ None → count opens ≡ 0
must_close_heredoc [] h = refl
must_close_heredoc (Heredoc ∷ os) h = absurd (cc)
must_close_heredoc (Quote ∷ os) h = absurd (cc)
must_close_heredoc (Sequence ∷ os) h = absurd (cc)
must_close_heredoc (Brace ∷ os) h = must_close_heredoc os h
must_close_heredoc (Bracket ∷ os) h = must_close_heredoc os h
must_close_heredoc (Paren ∷ os) h = must_close_heredoc os h

-- the effect of a token
abbrev pub Moves : Kind → List Opener → Type 0
Moves kind opens = (count (open_after kind opens) ≡ count opens) × (is_grounded (open_after kind opens) ≡ true)

abbrev pub Same : List Opener → List Opener → Type 0
Same old new = (count new ≡ count old) × (is_grounded new ≡ true)

pub tail : (o : Opener) (os : List Opener) → is_grounded (o ∷ os) ≡ true → is_grounded os ≡ true
tail o os g = (and_true (same_opener Sequence o || is_expression (context os)) (is_grounded os) g).1

onto : (opens : List Opener) → context opens ≡ Expression → is_grounded opens ≡ true → (is_expression (context opens) && is_grounded opens) ≡ true
onto opens c g = λ i. is_expression (c i) && g i

popped : (is : Opener → Bool) → is Heredoc ≡ false → (opens : List Opener) → is_grounded opens ≡ true → Same opens (pop_if is opens)
popped is never [] g = (refl, g)
popped is never (Heredoc ∷ os) g = subst (λ b. Same (Heredoc ∷ os) (cond b os (Heredoc ∷ os))) (sym never) (refl, g)
popped is never (Quote ∷ os) g = elim (is Quote) as (λ b. Same (Quote ∷ os) (cond b os (Quote ∷ os))) [ true ↦ (refl, tail Quote os g) | false ↦ (refl, g) ]
popped is never (Sequence ∷ os) g = elim (is Sequence) as (λ b. Same (Sequence ∷ os) (cond b os (Sequence ∷ os))) [ true ↦ (refl, g) | false ↦ (refl, g) ]
popped is never (Brace ∷ os) g = elim (is Brace) as (λ b. Same (Brace ∷ os) (cond b os (Brace ∷ os))) [ true ↦ (refl, tail Brace os g) | false ↦ (refl, g) ]
popped is never (Bracket ∷ os) g = elim (is Bracket) as (λ b. Same (Bracket ∷ os) (cond b os (Bracket ∷ os))) [ true ↦ (refl, tail Bracket os g) | false ↦ (refl, g) ]
popped is never (Paren ∷ os) g = elim (is Paren) as (λ b. Same (Paren ∷ os) (cond b os (Paren ∷ os))) [ true ↦ (refl, tail Paren os g) | false ↦ (refl, g) ]

pub below : (opens : List Opener) → is_grounded opens ≡ true → Same opens (below_groups opens)
below [] g = (refl, g)
below (Paren ∷ os) g = below os (tail Paren os g)
below (Bracket ∷ os) g = below os (tail Bracket os g)
below (Heredoc ∷ os) g = (refl, g)
below (Quote ∷ os) g = (refl, g)
below (Sequence ∷ os) g = (refl, g)
below (Brace ∷ os) g = (refl, g)

sequence_closed : (opens : List Opener) → closes_sequence opens ≡ true → is_grounded opens ≡ true → Same opens (drop 1 (below_groups opens))
sequence_closed [] h g = absurd (cc)
sequence_closed (Paren ∷ os) h g = sequence_closed os h (tail Paren os g)
sequence_closed (Bracket ∷ os) h g = sequence_closed os h (tail Bracket os g)
sequence_closed (Sequence ∷ os) h g = (refl, g)
sequence_closed (Heredoc ∷ os) h g = absurd (cc)
sequence_closed (Quote ∷ os) h g = absurd (cc)
sequence_closed (Brace ∷ os) h g = absurd (cc)

moves_marked : (kind : Kind) (opens : List Opener) → context opens ≡ Expression → is_marked kind ≡ true → is_grounded opens ≡ true → Moves kind opens
moves_marked QuoteOpen opens c h g = (refl, onto opens c g)
moves_marked ParenOpen opens c h g = (refl, onto opens c g)
moves_marked BracketOpen opens c h g = (refl, onto opens c g)
moves_marked BraceOpen opens c h g = (refl, onto opens c g)
moves_marked ParenClose opens c h g = popped (same_opener Paren) refl opens g
moves_marked BracketClose opens c h g = popped (same_opener Bracket) refl opens g
moves_marked HeredocOpen opens c h g = absurd (cc)
moves_marked SeqClose opens c h g = absurd (cc)
moves_marked BraceClose opens c h g = absurd (cc)
moves_marked InterpOpen opens c h g = absurd (cc)
moves_marked ControlOpen opens c h g = absurd (cc)
moves_marked QuoteClose opens c h g = absurd (cc)
moves_marked HeredocClose opens c h g = absurd (cc)
moves_marked _ opens c h g = (refl, g)

moves_in_expression : (opens : List Opener) (dot : Bool) (kind : Kind) (text rest : List ℕ) → context opens ≡ Expression → opens_heredoc kind ≡ false → is_grounded opens ≡ true → Ways opens dot kind text rest → Moves kind opens
moves_in_expression opens dot kind text rest c never g (newline k is) = subst (λ (z : Kind). Moves z opens) (sym k) (refl, g)
moves_in_expression opens dot kind text rest c never g (line_comment k is) = subst (λ (z : Kind). Moves z opens) (sym k) (refl, g)
moves_in_expression opens dot kind text rest c never g (inline_comment k is) = subst (λ (z : Kind). Moves z opens) (sym k) (refl, g)
moves_in_expression opens dot kind text rest c never g (blanks k h is) = subst (λ (z : Kind). Moves z opens) (sym k) (refl, g)
moves_in_expression opens dot kind text rest c never g (ident k is) = subst (λ (z : Kind). Moves z opens) (sym k) (refl, g)
moves_in_expression opens dot kind text rest c never g (digits k h is) = subst (λ (z : Kind). Moves z opens) (sym k) (refl, g)
moves_in_expression opens dot kind text rest c never g (number k h is) = subst (λ (z : Kind). Moves z opens) (sym k) (refl, g)
moves_in_expression opens dot kind text rest c never g (heredoc k is) = let e = ap opens_heredoc k in absurd (cc)
moves_in_expression opens dot kind text rest c never g (seq_close k h is) = subst (λ (z : Kind). Moves z opens) (sym k) (sequence_closed opens h g)
moves_in_expression opens dot kind text rest c never g (brace_close k h is) =
    let b = below opens g in
    let q = popped (same_opener Brace) refl (below_groups opens) b.1 in
    subst (λ (z : Kind). Moves z opens) (sym k) (q.0 ∙ b.0, q.1)
moves_in_expression opens dot kind text rest c never g (slash k is h) = subst (λ (z : Kind). Moves z opens) (sym k) (refl, g)
moves_in_expression opens dot kind text rest c never g (mark is) = moves_marked kind opens c (mark_kind text kind is) g

quote_closed : (opens : List Opener) → context opens ≡ Template true → is_grounded opens ≡ true → Same opens (drop 1 opens)
quote_closed (Quote ∷ os) h g = (refl, tail Quote os g)
quote_closed [] h g = absurd (cc)
quote_closed (Heredoc ∷ os) h g = absurd (let e : false ≡ true = ap is_quoted h in cc)
quote_closed (Sequence ∷ os) h g = absurd (cc)
quote_closed (Brace ∷ os) h g = absurd (cc)
quote_closed (Bracket ∷ os) h g = absurd (cc)
quote_closed (Paren ∷ os) h g = absurd (cc)

moves_in : (c : Context) (opens : List Opener) (dot : Bool) (kind : Kind) (text rest : List ℕ) → context opens ≡ c → opens_heredoc kind ≡ false → is_grounded opens ≡ true → IsTextIn c opens dot kind text rest → Moves kind opens
moves_in Expression opens dot kind text rest c never g h = moves_in_expression opens dot kind text rest c never g (ways opens dot kind text rest h)
moves_in (Template quoted) opens dot Lit text rest c never g h = (refl, g)
moves_in (Template quoted) opens dot InterpOpen text rest c never g h = (refl, g)
moves_in (Template quoted) opens dot ControlOpen text rest c never g h = (refl, g)
moves_in (Template true) opens dot QuoteClose text rest c never g h = quote_closed opens c g
moves_in (Template false) opens dot QuoteClose text rest c never g h = absurd h
moves_in (Template true) opens dot _ text rest c never g h = absurd h
moves_in (Template false) opens dot _ text rest c never g h = absurd h

open_in_expression : (c : Context) (opens : List Opener) (dot : Bool) (text rest : List ℕ) → IsTextIn c opens dot HeredocOpen text rest → is_expression c ≡ true
open_in_expression Expression opens dot text rest h = refl
open_in_expression (Template true) opens dot text rest h = absurd h
open_in_expression (Template false) opens dot text rest h = absurd h

-- THE LAW
pub stacks : (s : State) (t : Lexeme) (next : State) → Next s t next → Sound s.opens s.hidden → Sound next.opens next.hidden
stacks s t next step sound = ⊎_elim reads closes step
  where
    reads : Reads s t next → Sound next.opens next.hidden
    reads r = by (shown t.kind t.text r.rest s.hidden next.seen next.hidden r.leaves)
      where
        by : Shown t.kind t.text r.rest s.hidden next.seen next.hidden → Sound next.opens next.hidden
        by (plain k e e') =
            let m = moves_in (context s.opens) s.opens s.after_dot t.kind t.text r.rest refl k sound.grounded r.longest.spelled in
            record { counted = ap count r.opens ∙ m.0 ∙ sound.counted ∙ ap length (sym e'); grounded = ap is_grounded r.opens ∙ m.1 }
        by (opening k n first e e') =
            let opens_is : next.opens ≡ Heredoc ∷ s.opens = r.opens ∙ ap (λ (z : Kind). open_after z s.opens) k in
            let x = open_in_expression (context s.opens) s.opens s.after_dot t.text r.rest (subst (λ (z : Kind). IsSpelling s.opens s.after_dot z t.text r.rest) k r.longest.spelled) in
            let len = ap length e' in
            let cnt = ap count opens_is in
            record { counted = omega (arith, len, cnt, sound.counted); grounded = ap is_grounded opens_is ∙ (λ i. x i && sound.grounded i) }

    closes : Closes s t next → Sound next.opens next.hidden
    closes c =
        let len = ap length c.line in
        let cnt = ap count c.top in
        let g : is_grounded (Heredoc ∷ c.below) ≡ true = subst (λ l. is_grounded l ≡ true) c.top sound.grounded in
        subst (λ (z : State). Sound z.opens z.hidden) (sym c.next_is) (record { counted = omega (arith, len, cnt, sound.counted); grounded = tail Heredoc c.below g })
