-- The grammar leads a reader of items through the tokens of a file.
use Rattle.std.proofs.Common.{◌≡◌, inl, inr, ℕ, zero, suc, ◌+◌, Bool, true, false, cond, not, List, [], ◌∷◌, ◌++◌, drop, arith, refl, sym, ap, subst, ◌∙◌, true≢false}
use Rattle.std.specs.Prelude.{◌&&◌, Option, Some, None}
use Rattle.std.proofs.lemmas.List.{drop-drop}
use Rattle.hcl_tokens.specs.Kinds.{is}
use Rattle.hcl_tokens.specs.Lexemes.{Lexeme, Opener, Quote, Heredoc, Sequence, Brace, Bracket, Paren, in_heredoc, open_after}
use Rattle.hcl_tokens.specs.Scans.{State, Next, Scans, begin}
use Rattle.hcl_tokens.specs.Scans as scan
use Rattle.hcl_tokens.specs.Spelling.{IsSpelling, IsTemplateText, IsTextIn, context}
use Rattle.hcl_tokens.specs.declared.token.Kind.{Kind}
use Rattle.hcl_tokens.specs.declared.token.Kind.TheVariants as kind
use Rattle.hcl_tokens.proofs.ExpressionKindLemmas.{in_expressions}
use Rattle.hcl_tokens.specs.Balanced.{opener_count, closer_count, is_closer}
use Rattle.hcl_grammar.specs.Classes.{class_at, class_of, is_trivia, lookaheads_from}
use Rattle.hcl_grammar.specs.Items.{deepen, is_closed}
use Rattle.hcl_grammar.specs.Numbered.{Numbered, is_comment, is_passed_over, number_tokens, numbered_from, without_comments}
use Rattle.hcl_grammar.specs.Verdict.{IsAccepted}
use Rattle.hcl_grammar.specs.declared.class.Lookahead.{Lookahead}
use Rattle.hcl_grammar.specs.declared.expected.Newlines.TheVariants.{Seen}
use Rattle.hcl_grammar.specs.declared.expected.Terminal.TheVariants.{Equals, EndBrace, EndQuote}
use Rattle.hcl_grammar.specs.declared.refusal.Refusal.TheVariants.{UnexpectedToken}
use Rattle.hcl_grammar.specs.Grammar.{the, file, rest, labels, label_literal, start, body, eol, expr, directive, section_directive, Marked, ◌at◌}
use Rattle.hcl_grammar.specs.Predictor.{Effect, on, stop, effect, ending, next, run}
use Rattle.hcl_grammar.proofs.UnclosedLemmas.{HaveNumbers, Shift, unclosed_in_all}
use Rattle.hcl_grammar.proofs.RowLemmas.{unclosed_in_all-append}
use Rattle.hcl_grammar.proofs.MoveLemmas.{EffectMoves, effect-moves}
use Rattle.hcl_grammar.proofs.BalancedRowLemmas.{counted, groups, shifted}
use Rattle.tf_rules.proofs.InnerLemmas.{AreInner, Passes, inner_ends, inner_passes, landed, newline_passes, stopped}
use Rattle.tf_rules.proofs.NamePlaceLemmas.{Follows, IsDisjoint, disjoint, disjoint_on, follows_dot, is_name, name_disjoint, name_next, step_stays, steps}
use Rattle.tf_rules.proofs.TurnLemmas.{Place, line, labelled, quoted, written, started, named, single, value, ended, turn}
use Rattle.tf_rules.proofs.SegmentTurnLemmas.{Adjoins, Begins, Leads, Stands, Stops, Within, in_quotes}

-- ---- the place, by the symbols

abbrev pub base : ℕ → List Marked
base zero = file at Seen ∷ []
base (suc k) = body at Seen ∷ the EndBrace at Seen ∷ eol at Seen ∷ base k

abbrev Valued : List Marked → List Marked → ℕ → Type 0
Valued ss ds h = (xs : List Marked) × (ss ≡ xs ++ ds) × AreInner false xs × (groups (unclosed_in_all xs) ≡ h)

abbrev pub At : Place → List Marked → Type 0
At (line k) ss = ss ≡ base k
At (labelled k true) ss = ss ≡ rest at Seen ∷ base k
At (labelled k false) ss = ss ≡ labels at Seen ∷ base k
At (quoted k) ss = ss ≡ label_literal at Seen ∷ the EndQuote at Seen ∷ labels at Seen ∷ base k
At (written k) ss = ss ≡ the EndQuote at Seen ∷ labels at Seen ∷ base k
At (started k) ss = ss ≡ start at Seen ∷ base k
At (named k) ss = ss ≡ the Equals at Seen ∷ expr at Seen ∷ the EndBrace at Seen ∷ eol at Seen ∷ base k
At (single k h) ss = Valued ss (the EndBrace at Seen ∷ eol at Seen ∷ base k) h
At (value k h) ss = Valued ss (eol at Seen ∷ base k) h
At (ended k) ss = ss ≡ eol at Seen ∷ base k

abbrev look : ℕ → Kind → List ℕ → Lookahead
look n t text = record { class = class_at t text; number = n }

-- the token leads a reader on
abbrev Moved : Place → Kind → List Marked → Type 0
Moved p t us = (q : Place) × (turn p t ≡ Some q) × At q us

one_expr : (ss ds : List Marked) → ss ≡ expr at Seen ∷ ds → Valued ss ds 0
one_expr ss ds e = (expr at Seen ∷ [], e, (tt, tt), refl)

module _ (count n later : ℕ) (text : List ℕ) (us : List Marked) where
  from_line : (k : ℕ) (t : Kind) → effect count (base k) (look n t text) ≡ on later us → Moved (line k) t us
  from_line zero kind.Newline e = (line 0, refl, landed count later (base 0) us e)
  from_line zero kind.Ident e = (labelled 0 true, refl, landed count later (rest at Seen ∷ base 0) us e)
  from_line zero t e = absurd (stopped (UnexpectedToken n) later us e)
  from_line (suc k) kind.Newline e = (line (suc k), refl, landed count later (base (suc k)) us e)
  from_line (suc k) kind.Ident e = (labelled (suc k) true, refl, landed count later (rest at Seen ∷ base (suc k)) us e)
  from_line (suc k) kind.BraceClose e = (ended k, refl, landed count later (eol at Seen ∷ base k) us e)
  from_line (suc k) t e = absurd (stopped (UnexpectedToken n) later us e)

  from_rest : (k : ℕ) (t : Kind) → effect count (rest at Seen ∷ base k) (look n t text) ≡ on later us → Moved (labelled k true) t us
  from_rest k kind.Assign e = (value k 0, refl, one_expr us (eol at Seen ∷ base k) (landed count later (expr at Seen ∷ eol at Seen ∷ base k) us e))
  from_rest k kind.Ident e = (labelled k false, refl, landed count later (labels at Seen ∷ base k) us e)
  from_rest k kind.QuoteOpen e = (quoted k, refl, landed count later (label_literal at Seen ∷ the EndQuote at Seen ∷ labels at Seen ∷ base k) us e)
  from_rest k kind.BraceOpen e = (started k, refl, landed count later (start at Seen ∷ base k) us e)
  from_rest k t e = absurd (stopped (UnexpectedToken n) later us e)

  from_labels : (k : ℕ) (t : Kind) → effect count (labels at Seen ∷ base k) (look n t text) ≡ on later us → Moved (labelled k false) t us
  from_labels k kind.Ident e = (labelled k false, refl, landed count later (labels at Seen ∷ base k) us e)
  from_labels k kind.QuoteOpen e = (quoted k, refl, landed count later (label_literal at Seen ∷ the EndQuote at Seen ∷ labels at Seen ∷ base k) us e)
  from_labels k kind.BraceOpen e = (started k, refl, landed count later (start at Seen ∷ base k) us e)
  from_labels k t e = absurd (stopped (UnexpectedToken n) later us e)

  from_quote : (k : ℕ) (t : Kind) → effect count (label_literal at Seen ∷ the EndQuote at Seen ∷ labels at Seen ∷ base k) (look n t text) ≡ on later us → Moved (quoted k) t us
  from_quote k kind.Lit e = (written k, refl, landed count later (the EndQuote at Seen ∷ labels at Seen ∷ base k) us e)
  from_quote k kind.QuoteClose e = (labelled k false, refl, landed count later (labels at Seen ∷ base k) us e)
  from_quote k t e = absurd (stopped (UnexpectedToken n) later us e)

  from_literal : (k : ℕ) (t : Kind) → effect count (the EndQuote at Seen ∷ labels at Seen ∷ base k) (look n t text) ≡ on later us → Moved (written k) t us
  from_literal k kind.QuoteClose e = (labelled k false, refl, landed count later (labels at Seen ∷ base k) us e)
  from_literal k t e = absurd (stopped (UnexpectedToken n) later us e)

  from_start : (k : ℕ) (t : Kind) → effect count (start at Seen ∷ base k) (look n t text) ≡ on later us → Moved (started k) t us
  from_start k kind.Newline e = (line (suc k), refl, landed count later (base (suc k)) us e)
  from_start k kind.Ident e = (named k, refl, landed count later (the Equals at Seen ∷ expr at Seen ∷ the EndBrace at Seen ∷ eol at Seen ∷ base k) us e)
  from_start k kind.BraceClose e = (ended k, refl, landed count later (eol at Seen ∷ base k) us e)
  from_start k t e = absurd (stopped (UnexpectedToken n) later us e)

  from_name : (k : ℕ) (t : Kind) → effect count (the Equals at Seen ∷ expr at Seen ∷ the EndBrace at Seen ∷ eol at Seen ∷ base k) (look n t text) ≡ on later us → Moved (named k) t us
  from_name k kind.Assign e = (single k 0, refl, one_expr us (the EndBrace at Seen ∷ eol at Seen ∷ base k) (landed count later (expr at Seen ∷ the EndBrace at Seen ∷ eol at Seen ∷ base k) us e))
  from_name k t e = absurd (stopped (UnexpectedToken n) later us e)

  line_end : (k : ℕ) (t : Kind) → effect count (eol at Seen ∷ base k) (look n t text) ≡ on later us → (t ≡ kind.Newline) × (us ≡ base k)
  line_end k kind.Newline e = (refl, landed count later (base k) us e)
  line_end k t e = absurd (stopped (UnexpectedToken n) later us e)

  brace_end : (k : ℕ) (t : Kind) → effect count (the EndBrace at Seen ∷ eol at Seen ∷ base k) (look n t text) ≡ on later us → (t ≡ kind.BraceClose) × (us ≡ eol at Seen ∷ base k)
  brace_end k kind.BraceClose e = (refl, landed count later (eol at Seen ∷ base k) us e)
  brace_end k t e = absurd (stopped (UnexpectedToken n) later us e)

-- ---- in a value

groups_both : (a b : List Opener) → groups (a ++ b) ≡ groups a + groups b
groups_both [] b = omega arith
groups_both (Quote ∷ a) b = groups_both a b
groups_both (Heredoc ∷ a) b = groups_both a b
groups_both (o ∷ a) b = omega (arith, groups_both a b)

abbrev pub in_template : List Opener → Bool
in_template [] = false
in_template (Quote ∷ os) = true
in_template (Heredoc ∷ os) = true
in_template (o ∷ os) = false

none_open : (os ds : List Opener) → groups os ≡ 0 → in_template (os ++ ds) ≡ false → os ≡ []
none_open [] ds g e = refl
none_open (Quote ∷ os) ds g e = absurd (true≢false e)
none_open (Heredoc ∷ os) ds g e = absurd (true≢false e)
none_open (o ∷ os) ds g e = absurd (omega (arith, g))

all_numbers : (ss : List Marked) → HaveNumbers (λ i. Unit {0}) ss
all_numbers [] = tt
all_numbers (directive n at m ∷ ss) = (tt, all_numbers ss)
all_numbers (section_directive e n at m ∷ ss) = (tt, all_numbers ss)
all_numbers (s at m ∷ ss) = all_numbers ss

shift : (count n later : ℕ) (t : Kind) (text : List ℕ) (ss us : List Marked) → effect count ss (look n t text) ≡ on later us → Shift (class_at t text) (unclosed_in_all ss) (unclosed_in_all us)
shift count n later t text ss us e = (subst (λ w. EffectMoves (λ i. Unit {0}) w (unclosed_in_all ss) (class_at t text)) e (effect-moves (λ i. Unit {0}) count ss (look n t text) tt (all_numbers ss))).0

newline_is : (t : Kind) → is kind.Newline t ≡ true → t ≡ kind.Newline
newline_is kind.Newline e = refl
newline_is _ e = absurd (true≢false (sym e))

both_true : (b : Bool) (h : ℕ) → (b && is_closed h) ≡ true → (b ≡ true) × (h ≡ 0)
both_true true zero e = (refl, refl)
both_true true (suc h) e = absurd (true≢false (sym e))
both_true false h e = absurd (true≢false (sym e))

closer_opens_none : (t : Kind) → is_closer t ≡ true → (opener_count t ≡ 0) × (closer_count t ≡ 1)
closer_opens_none kind.ParenClose e = (refl, refl)
closer_opens_none kind.BracketClose e = (refl, refl)
closer_opens_none kind.SeqClose e = (refl, refl)
closer_opens_none kind.BraceClose e = (refl, refl)
closer_opens_none _ e = absurd (true≢false (sym e))

-- a newline fits the open groups
abbrev Newlined : List Marked → Kind → Type 0
Newlined ss t = in_template (unclosed_in_all ss) ≡ true → is kind.Newline t ≡ false

module _ (count n later : ℕ) (t : Kind) (text : List ℕ) (us xs ds : List Marked) (inner : AreInner false xs) (e : effect count (xs ++ ds) (look n t text) ≡ on later us) where
  -- a newline with nothing open is for the symbols below
  newline_below : Newlined (xs ++ ds) t → (is kind.Newline t ≡ true) → groups (unclosed_in_all xs) ≡ 0 → effect count ds (look n kind.Newline text) ≡ on later us
  newline_below fits nl flat = newline_passes count n xs ds later us inner none (subst (λ x. effect count (xs ++ ds) (look n x text) ≡ on later us) (newline_is t nl) e)
    where
      outside : (b : Bool) → in_template (unclosed_in_all (xs ++ ds)) ≡ b → in_template (unclosed_in_all (xs ++ ds)) ≡ false
      outside true h = absurd (true≢false (sym nl ∙ fits h))
      outside false h = h

      none : unclosed_in_all xs ≡ []
      none = none_open (unclosed_in_all xs) (unclosed_in_all ds) flat (sym (ap in_template (unclosed_in_all-append xs ds)) ∙ outside (in_template (unclosed_in_all (xs ++ ds))) refl)

  -- the number of open groups then
  more_open : (ys : List Marked) → us ≡ ys ++ ds → opener_count t + groups (unclosed_in_all xs) ≡ closer_count t + groups (unclosed_in_all ys)
  more_open ys is =
      let s = counted t text (unclosed_in_all (xs ++ ds)) (unclosed_in_all us) (shift count n later t text (xs ++ ds) us e) in
      let a = ap groups (unclosed_in_all-append xs ds) ∙ groups_both (unclosed_in_all xs) (unclosed_in_all ds) in
      let b = ap (λ r. groups (unclosed_in_all r)) is ∙ ap groups (unclosed_in_all-append ys ds) ∙ groups_both (unclosed_in_all ys) (unclosed_in_all ds) in
      omega (arith, s, a, b)

  -- a closer closes a group in the value
  no_closer : (h : ℕ) (ys : List Marked) → groups (unclosed_in_all xs) ≡ h → us ≡ ys ++ ds → (is_closer t && is_closed h) ≡ true → ⊥
  no_closer h ys g is c = let b = both_true (is_closer t) h c in let z = closer_opens_none t b.0 in omega (arith, z.0, z.1, b.1, g, more_open ys is)

from_value : (count n later : ℕ) (t : Kind) (text : List ℕ) (ss us : List Marked) (k h : ℕ) → Newlined ss t → At (value k h) ss → effect count ss (look n t text) ≡ on later us → Moved (value k h) t us
from_value count n later t text ss us k h fits (xs, this, inner, g) e = by (is kind.Newline t && is_closed h) refl
  where
    ds : List Marked
    ds = eol at Seen ∷ base k

    e' : effect count (xs ++ ds) (look n t text) ≡ on later us
    e' = subst (λ r. effect count r (look n t text) ≡ on later us) this e

    inside : (is kind.Newline t && is_closed h) ≡ false → Passes count xs ds (look n t text) later us → Moved (value k h) t us
    inside nn (inl p) = on_by (is_closer t && is_closed h) refl
      where
        on_by : (b : Bool) → (is_closer t && is_closed h) ≡ b → Moved (value k h) t us
        on_by true c = absurd (no_closer count n later t text us xs ds inner e' h p.0 g p.1 c)
        on_by false c =
            let m = more_open count n later t text us xs ds inner e' p.0 p.1 in
            (value k (deepen h t), ap (λ b. cond b (Some (line k)) (cond (is_closer t && is_closed h) None (Some (value k (deepen h t))))) nn ∙ ap (λ b. cond b None (Some (value k (deepen h t)))) c, (p.0, p.1, p.2, omega (arith, m, g)))
    inside nn (inr p) =
        let l = line_end count n later text us k t p.0 in
        let z : h ≡ 0 = sym g ∙ ap groups p.1 in
        absurd (true≢false (sym (ap (λ x. is kind.Newline x && is_closed h) l.0 ∙ ap is_closed z) ∙ nn))

    by : (b : Bool) → (is kind.Newline t && is_closed h) ≡ b → Moved (value k h) t us
    by true nn =
        let b = both_true (is kind.Newline t) h nn in
        (line k, ap (λ c. cond c (Some (line k)) (cond (is_closer t && is_closed h) None (Some (value k (deepen h t))))) nn, landed count later (base k) us (newline_below count n later t text us xs ds inner e' (subst (λ r. Newlined r t) this fits) b.0 (g ∙ b.1)))
    by false nn = inside nn (inner_passes count xs ds (look n t text) later us inner e')

from_single : (count n later : ℕ) (t : Kind) (text : List ℕ) (ss us : List Marked) (k h : ℕ) → Newlined ss t → At (single k h) ss → effect count ss (look n t text) ≡ on later us → Moved (single k h) t us
from_single count n later t text ss us k h fits (xs, this, inner, g) e = by (is kind.Newline t && is_closed h) refl
  where
    ds : List Marked
    ds = the EndBrace at Seen ∷ eol at Seen ∷ base k

    e' : effect count (xs ++ ds) (look n t text) ≡ on later us
    e' = subst (λ r. effect count r (look n t text) ≡ on later us) this e

    G : Option Place
    G = cond (is_closer t && is_closed h) (cond (is kind.BraceClose t) (Some (ended k)) None) (Some (single k (deepen h t)))

    inside : (is kind.Newline t && is_closed h) ≡ false → Passes count xs ds (look n t text) later us → Moved (single k h) t us
    inside nn (inl p) = on_by (is_closer t && is_closed h) refl
      where
        on_by : (b : Bool) → (is_closer t && is_closed h) ≡ b → Moved (single k h) t us
        on_by true c = absurd (no_closer count n later t text us xs ds inner e' h p.0 g p.1 c)
        on_by false c =
            let m = more_open count n later t text us xs ds inner e' p.0 p.1 in
            (single k (deepen h t), ap (λ b. cond b None G) nn ∙ ap (λ b. cond b (cond (is kind.BraceClose t) (Some (ended k)) None) (Some (single k (deepen h t)))) c, (p.0, p.1, p.2, omega (arith, m, g)))
    inside nn (inr p) =
        let l = brace_end count n later text us k t p.0 in
        let z : h ≡ 0 = sym g ∙ ap groups p.1 in
        (ended k, ap (λ x. turn (single k h) x) l.0 ∙ ap (λ (j : ℕ). turn (single k j) kind.BraceClose) z, l.1)

    by : (b : Bool) → (is kind.Newline t && is_closed h) ≡ b → Moved (single k h) t us
    by true nn =
        let b = both_true (is kind.Newline t) h nn in
        absurd (stopped (UnexpectedToken n) later us (newline_below count n later t text us xs ds inner e' (subst (λ r. Newlined r t) this fits) b.0 (g ∙ b.1)))
    by false nn = inside nn (inner_passes count xs ds (look n t text) later us inner e')

-- ONE TOKEN
move : (count n later : ℕ) (t : Kind) (text : List ℕ) (p : Place) (ss us : List Marked) → Newlined ss t → At p ss → effect count ss (look n t text) ≡ on later us → Moved p t us
move count n later t text (line k) ss us fits a e = from_line count n later text us k t (subst (λ r. effect count r (look n t text) ≡ on later us) a e)
move count n later t text (labelled k true) ss us fits a e = from_rest count n later text us k t (subst (λ r. effect count r (look n t text) ≡ on later us) a e)
move count n later t text (labelled k false) ss us fits a e = from_labels count n later text us k t (subst (λ r. effect count r (look n t text) ≡ on later us) a e)
move count n later t text (quoted k) ss us fits a e = from_quote count n later text us k t (subst (λ r. effect count r (look n t text) ≡ on later us) a e)
move count n later t text (written k) ss us fits a e = from_literal count n later text us k t (subst (λ r. effect count r (look n t text) ≡ on later us) a e)
move count n later t text (started k) ss us fits a e = from_start count n later text us k t (subst (λ r. effect count r (look n t text) ≡ on later us) a e)
move count n later t text (named k) ss us fits a e = from_name count n later text us k t (subst (λ r. effect count r (look n t text) ≡ on later us) a e)
move count n later t text (single k h) ss us fits a e = from_single count n later t text ss us k h fits a e
move count n later t text (value k h) ss us fits a e = from_value count n later t text ss us k h fits a e
move count n later t text (ended k) ss us fits a e =
    let l = line_end count n later text us k t (subst (λ r. effect count r (look n t text) ≡ on later us) a e) in
    (line k, ap (λ x. turn (ended k) x) l.0, l.1)

-- ---- which tokens a scan reads where

pub record IsFitting (opens : List Opener) (t : Kind) : Type 0 where
  pub template : in_template opens ≡ true → in_expressions t ≡ false
  pub blank : t ≡ kind.Blank → in_heredoc opens ≡ true

template_kind : (quoted : Bool) (t : Kind) (text left : List ℕ) → IsTemplateText quoted t text left → in_expressions t ≡ false
template_kind q kind.Lit text left h = refl
template_kind q kind.InterpOpen text left h = refl
template_kind q kind.ControlOpen text left h = refl
template_kind true kind.QuoteClose text left h = refl
template_kind false kind.QuoteClose text left h = absurd h
template_kind q t text left h = absurd h

spelled_there : (os : List Opener) (dot : Bool) (t : Kind) (text left : List ℕ) → IsSpelling os dot t text left → IsFitting os t
spelled_there os dot t text left h = record { template = λ e. by os e h; blank = λ e. heredoc os e h }
  where
    by : (opens : List Opener) → in_template opens ≡ true → IsTextIn (context opens) os dot t text left → in_expressions t ≡ false
    by [] e h = absurd (true≢false (sym e))
    by (Quote ∷ more) e h = template_kind true t text left h
    by (Heredoc ∷ more) e h = template_kind false t text left h
    by (o ∷ more) e h = absurd (true≢false (sym e))

    heredoc : (opens : List Opener) → t ≡ kind.Blank → IsTextIn (context opens) os dot t text left → in_heredoc os ≡ true
    heredoc [] e h = (subst (λ x. IsTextIn (context []) os dot x text left) e h).0
    heredoc (Quote ∷ more) e h = absurd (subst (λ x. IsTemplateText true x text left) e h)
    heredoc (Heredoc ∷ more) e h = absurd (subst (λ x. IsTemplateText false x text left) e h)
    heredoc (Sequence ∷ more) e h = (subst (λ x. IsTextIn (context []) os dot x text left) e h).0
    heredoc (Brace ∷ more) e h = (subst (λ x. IsTextIn (context []) os dot x text left) e h).0
    heredoc (Bracket ∷ more) e h = (subst (λ x. IsTextIn (context []) os dot x text left) e h).0
    heredoc (Paren ∷ more) e h = (subst (λ x. IsTextIn (context []) os dot x text left) e h).0

fitting : (s : State) (t : Lexeme) (after : State) → Next s t after → IsFitting s.opens t.kind
fitting s t after (inl x) = spelled_there s.opens s.after_dot t.kind t.text x.rest x.longest.spelled
fitting s t after (inr y) = record { template = λ e. ap in_expressions y.kind; blank = λ e. absurd (let f : kind.HeredocClose ≡ kind.Blank = sym y.kind ∙ e in let g = ap in_expressions f in true≢false (sym g)) }

opens_after : (s : State) (t : Lexeme) (after : State) → Next s t after → after.opens ≡ open_after t.kind s.opens
opens_after s t after (inl x) = x.opens
opens_after s t after (inr y) = ap (λ (z : State). z.opens) y.next_is ∙ ap (λ l. drop 1 l) (sym y.top) ∙ ap (λ k. open_after k s.opens) (sym y.kind)

heredoc_base : (k : ℕ) → in_heredoc (unclosed_in_all (base k)) ≡ false
heredoc_base zero = refl
heredoc_base (suc k) = heredoc_base k

-- blanks that are tokens are in values
blank_turn : (p : Place) (ss : List Marked) → At p ss → in_heredoc (unclosed_in_all ss) ≡ true → turn p kind.Blank ≡ Some p
blank_turn (line k) ss a h = absurd (true≢false (sym h ∙ ap (λ r. in_heredoc (unclosed_in_all r)) a ∙ heredoc_base k))
blank_turn (labelled k true) ss a h = absurd (true≢false (sym h ∙ ap (λ r. in_heredoc (unclosed_in_all r)) a ∙ heredoc_base k))
blank_turn (labelled k false) ss a h = absurd (true≢false (sym h ∙ ap (λ r. in_heredoc (unclosed_in_all r)) a ∙ heredoc_base k))
blank_turn (quoted k) ss a h = absurd (true≢false (sym h ∙ ap (λ r. in_heredoc (unclosed_in_all r)) a ∙ heredoc_base k))
blank_turn (written k) ss a h = absurd (true≢false (sym h ∙ ap (λ r. in_heredoc (unclosed_in_all r)) a ∙ heredoc_base k))
blank_turn (started k) ss a h = absurd (true≢false (sym h ∙ ap (λ r. in_heredoc (unclosed_in_all r)) a ∙ heredoc_base k))
blank_turn (named k) ss a h = absurd (true≢false (sym h ∙ ap (λ r. in_heredoc (unclosed_in_all r)) a ∙ heredoc_base k))
blank_turn (ended k) ss a h = absurd (true≢false (sym h ∙ ap (λ r. in_heredoc (unclosed_in_all r)) a ∙ heredoc_base k))
blank_turn (single k h') ss a h = let z : deepen h' kind.Blank ≡ h' = omega arith in ap (λ (j : ℕ). Some (single k j)) z
blank_turn (value k h') ss a h = let z : deepen h' kind.Blank ≡ h' = omega arith in ap (λ (j : ℕ). Some (value k j)) z

-- inside a label's quotes literal text is read
quotes_template : (p : Place) (ss : List Marked) → At p ss → in_quotes p ≡ true → in_template (unclosed_in_all ss) ≡ true
quotes_template (quoted k) ss a e = ap (λ r. in_template (unclosed_in_all r)) a
quotes_template (written k) ss a e = ap (λ r. in_template (unclosed_in_all r)) a
quotes_template (line k) ss a e = absurd (true≢false (sym e))
quotes_template (labelled k b) ss a e = absurd (true≢false (sym e))
quotes_template (started k) ss a e = absurd (true≢false (sym e))
quotes_template (named k) ss a e = absurd (true≢false (sym e))
quotes_template (single k h') ss a e = absurd (true≢false (sym e))
quotes_template (value k h') ss a e = absurd (true≢false (sym e))
quotes_template (ended k) ss a e = absurd (true≢false (sym e))

comment_kind : (t : Kind) → in_expressions t ≡ false → is_comment t ≡ false
comment_kind kind.LineComment e = absurd (true≢false e)
comment_kind kind.InlineComment e = absurd (true≢false e)
comment_kind _ e = refl

newline_kind : (t : Kind) → in_expressions t ≡ false → is kind.Newline t ≡ false
newline_kind kind.Newline e = absurd (true≢false e)
newline_kind _ e = refl

next_begins : (s end : State) (ts : List Lexeme) (p : Place) (ss : List Marked) (n : ℕ) → scan.Run s ts end → s.opens ≡ unclosed_in_all ss → At p ss → in_quotes p ≡ true → Begins n (without_comments (numbered_from n ts))
next_begins s end [] p ss n run same a e = tt
next_begins s end (u ∷ us) p ss n run same a e =
    subst (λ b. Begins n (cond (not b) (record { number = n; kind = u.kind; text = u.text } ∷ without_comments (numbered_from (n + 1) us)) (without_comments (numbered_from (n + 1) us))))
    (sym (comment_kind u.kind ((fitting s u run.0 run.1).template (ap in_template same ∙ quotes_template p ss a e)))) refl

-- ---- the whole file

base_ends : (k : ℕ) → ending (base k) ≡ None → k ≡ 0
base_ends zero e = refl
base_ends (suc k) e = absurd (cc)

-- the places where a file may end
stop_there : (p : Place) (ss : List Marked) → At p ss → ending ss ≡ None → Stops 0 p
stop_there (line k) ss a e = (refl, omega (arith, base_ends k (ap ending (sym a) ∙ e)))
stop_there (labelled k true) ss a e = absurd (let f = ap ending (sym a) ∙ e in cc)
stop_there (labelled k false) ss a e = absurd (let f = ap ending (sym a) ∙ e in cc)
stop_there (quoted k) ss a e = absurd (let f = ap ending (sym a) ∙ e in cc)
stop_there (written k) ss a e = absurd (let f = ap ending (sym a) ∙ e in cc)
stop_there (started k) ss a e = absurd (let f = ap ending (sym a) ∙ e in cc)
stop_there (named k) ss a e = absurd (let f = ap ending (sym a) ∙ e in cc)
stop_there (ended k) ss a e = (refl, omega (arith, base_ends k (ap ending (sym a) ∙ e)))
stop_there (single k h) ss (xs, is, inner, g) e = absurd (let f = (inner_ends xs (the EndBrace at Seen ∷ eol at Seen ∷ base k) inner (ap ending (sym is) ∙ e)).0 in cc)
stop_there (value k h) ss (xs, is, inner, g) e =
    let f = inner_ends xs (eol at Seen ∷ base k) inner (ap ending (sym is) ∙ e) in
    (refl, omega (arith, base_ends k f.0, g, ap groups f.1))

comment_same : (t : Kind) (os : List Opener) → is_comment t ≡ true → open_after t os ≡ os
comment_same kind.LineComment os e = refl
comment_same kind.InlineComment os e = refl
comment_same _ os e = absurd (true≢false (sym e))

comment_trivia : (t : Kind) (text : List ℕ) → is_comment t ≡ true → is_trivia (class_at t text) ≡ true
comment_trivia kind.LineComment text e = refl
comment_trivia kind.InlineComment text e = refl
comment_trivia _ text e = absurd (true≢false (sym e))

blank_is : (t : Kind) (text : List ℕ) → is_comment t ≡ false → is_trivia (class_at t text) ≡ true → t ≡ kind.Blank
blank_is kind.Blank text e f = refl
blank_is kind.LineComment text e f = absurd (true≢false e)
blank_is kind.InlineComment text e f = absurd (true≢false e)
blank_is _ text e f = absurd (true≢false (sym f))

comment_passed : (t : Kind) → is_comment t ≡ true → is_passed_over t ≡ true
comment_passed kind.LineComment e = refl
comment_passed kind.InlineComment e = refl
comment_passed _ e = absurd (true≢false (sym e))

blank_names : (p : Place) → is_name p kind.Blank ≡ false
blank_names (line k) = refl
blank_names _ = refl

-- no step is expected where an item is named
name_place : (p : Place) (t : Kind) (ss : List Marked) → is_name p t ≡ true → At p ss → steps ss ≡ false
name_place (line zero) t ss e a = ap steps a
name_place (line (suc k)) t ss e a = ap steps a
name_place (labelled k true) t ss e a = ap steps a
name_place (labelled k false) t ss e a = ap steps a
name_place (started k) t ss e a = ap steps a
name_place _ t ss e a = absurd (true≢false (sym e))

module _ (all : List Numbered) where
  abbrev pub Led : Place → List Numbered → Type 0
  Led p ts = (q : Place) × Leads all (Within 0) p ts q × Stops 0 q

  lead_on : (p q : Place) (t : Numbered) (ts : List Numbered) → turn p t.kind ≡ Some q → Stands all p t → Adjoins q t.number ts → Led q ts → Led p (t ∷ ts)
  lead_on p q t ts turned here next h = (h.0, (q, turned, omega arith, here, next, h.1), h.2)

  there : (n : ℕ) (t : Lexeme) (ts : List Lexeme) → drop n all ≡ numbered_from n (t ∷ ts) → drop (n + 1) all ≡ numbered_from (n + 1) ts
  there n t ts e = sym (drop-drop 1 n all) ∙ ap (drop 1) e

  name_follows : (p q : Place) (t : Kind) (ws : List Numbered) → is_name p t ≡ true → turn p t ≡ Some q → Led q ws → t ≡ kind.Ident → Follows ws
  name_follows p q t [] e turned led i = tt
  name_follows p q t (u ∷ us) e turned led i = name_next p q led.1.0 u.kind (sym (ap (λ x. is_name p x) i) ∙ e) (sym (ap (λ x. turn p x) i) ∙ turned) led.1.1

  pub lead : (s end : State) (ts : List Lexeme) (p : Place) (ss : List Marked) (count n : ℕ) → scan.Run s ts end → s.opens ≡ unclosed_in_all ss → At p ss → run count ss (lookaheads_from n ts) ≡ None → drop n all ≡ numbered_from n ts
      → (dot : Bool) → (dot ≡ true → steps ss ≡ true) → drop n (disjoint false all) ≡ disjoint dot (numbered_from n ts) → Led p (without_comments (numbered_from n ts))
  unfolding run
  lead s end [] p ss count n scanned same a accepted here dot stepping beside = (p, refl, stop_there p ss a accepted)
  lead s end (t ∷ ts) p ss count n scanned same a accepted here dot stepping beside =
      by (is_comment t.kind) refl
      (λ q us later o b c f. lead scanned.0 end ts q us later (n + 1) scanned.2 o b c (there n t ts here) (follows_dot dot t.kind) f (disjoint_on all n dot it (numbered_from (n + 1) ts) beside))
    where
      fits : IsFitting s.opens t.kind
      fits = fitting s t scanned.0 scanned.1

      next_opens : scanned.0.opens ≡ open_after t.kind s.opens
      next_opens = opens_after s t scanned.0 scanned.1

      it : Numbered
      it = record { number = n; kind = t.kind; text = t.text }

      W : List Numbered
      W = without_comments (numbered_from (n + 1) ts)

      L : List Lookahead
      L = lookaheads_from (n + 1) ts

      here_it : drop n all ≡ it ∷ drop (n + 1) all
      here_it = here ∙ ap (λ r. it ∷ r) (sym (there n t ts here))

      On : Type 0
      On = (q : Place) (us : List Marked) (later : ℕ) → scanned.0.opens ≡ unclosed_in_all us → At q us → run later us L ≡ None → (follows_dot dot t.kind ≡ true → steps us ≡ true) → Led q W

      adjoins : (q : Place) (us : List Marked) → scanned.0.opens ≡ unclosed_in_all us → At q us → Adjoins q n W
      adjoins q us o b i = next_begins scanned.0 end ts q us (n + 1) scanned.2 o b i

      skipped : is_trivia (class_of t) ≡ true → run count ss L ≡ None
      skipped e = sym (ap (λ b. run count ss (cond b L (record { class = class_of t; number = n } ∷ L))) e) ∙ accepted

      blank : t.kind ≡ kind.Blank → is_trivia (class_of t) ≡ true → On → Led p (it ∷ W)
      blank e trivial on_ =
          let o : scanned.0.opens ≡ unclosed_in_all ss = next_opens ∙ ap (λ x. open_after x s.opens) e ∙ same in
          lead_on p p it W (ap (λ x. turn p x) e ∙ blank_turn p ss a (sym (ap in_heredoc same) ∙ fits.blank e))
          (here_it, (λ h. absurd (true≢false (sym h ∙ ap (λ x. is_name p x) e ∙ blank_names p))))
          (adjoins p ss o a) (on_ p ss count o a (skipped trivial) (λ d. stepping (sym (ap (λ x. follows_dot dot x) e) ∙ d)))

      named_there : (q : Place) → turn p t.kind ≡ Some q → Led q W → is_name p t.kind ≡ true → IsDisjoint all n
      named_there q turned led e =
          name_disjoint all n dot p it (numbered_from (n + 1) ts) e (plain dot stepping) (name_follows p q t.kind W e turned led) beside
        where
          plain : (b : Bool) → (b ≡ true → steps ss ≡ true) → b ≡ false
          plain true h = absurd (true≢false (sym (h refl) ∙ name_place p t.kind ss e a))
          plain false h = refl

      read_by : is_trivia (class_of t) ≡ false → (w : Effect) → effect count ss (look n t.kind t.text) ≡ w → next w (λ o r. run o r L) ≡ None → On → Led p (it ∷ W)
      read_by told (stop r) e accepted on_ = absurd (let f : Some r ≡ None = accepted in cc)
      read_by told (on later us) e accepted on_ =
          let m = move count n later t.kind t.text p ss us (λ i. newline_kind t.kind (fits.template (ap in_template same ∙ i))) a e in
          let o : scanned.0.opens ≡ unclosed_in_all us = next_opens ∙ ap (λ r. open_after t.kind r) same ∙ shifted t.kind t.text (unclosed_in_all ss) (unclosed_in_all us) (shift count n later t.kind t.text ss us e) in
          let led : Led m.0 W = on_ m.0 us later o m.2 accepted (step_stays count n later t.kind t.text ss us dot stepping told e) in
          lead_on p m.0 it W m.1 (here_it, named_there m.0 m.1 led) (adjoins m.0 us o m.2) led

      word : is_comment t.kind ≡ false → (b : Bool) → is_trivia (class_of t) ≡ b → On → Led p (it ∷ W)
      word c true e on_ = blank (blank_is t.kind t.text c e) e on_
      word c false e on_ =
          read_by e (effect count ss (look n t.kind t.text)) refl (sym (ap (λ b. run count ss (cond b L (look n t.kind t.text ∷ L))) e) ∙ accepted) on_

      by : (b : Bool) → is_comment t.kind ≡ b → On → Led p (cond (not (is_comment t.kind)) (it ∷ W) W)
      by true e on_ =
          subst (λ b. Led p (cond (not b) (it ∷ W) W)) (sym e)
          (on_ p ss count (next_opens ∙ comment_same t.kind s.opens e ∙ same) a (skipped (comment_trivia t.kind t.text e)) (λ d. stepping (sym (ap (λ b. cond b dot (is kind.Dot t.kind)) (comment_passed t.kind e)) ∙ d)))
      by false e on_ = subst (λ b. Led p (cond (not b) (it ∷ W) W)) (sym e) (word e (is_trivia (class_of t)) refl on_)

pub whole_file : (text : List ℕ) (tokens : List Lexeme) → Scans text tokens → IsAccepted tokens → Led (number_tokens tokens) (line 0) (without_comments (number_tokens tokens))
whole_file text tokens scans accepted = lead (number_tokens tokens) (begin text) scans.0 tokens (line 0) (base 0) 0 0 scans.1 refl refl accepted refl false (λ e. absurd (true≢false (sym e))) refl
