-- The scanner's stack and the open constructs.
use Rattle.std.proofs.Common.{◌≡◌, ◌≢◌, Option, ℕ, suc, ◌+◌, ◌-◌, ◌<◌, ◌≤◌, ◌||◌, Bool, true, false, IsTrue, List, [], ◌∷◌, length, drop, length-drop, if◌then◌else◌, Some, None, refl, sym, ap, subst, ◌∙◌, arith, nat_lt}
use Rattle.std.proofs.lemmas.List.{length-map, drop-map, drop-drop}
use Rattle.std.proofs.lemmas.Bool.Decides.{nat_tests}
use Rattle.std.proofs.lemmas.Bool.{false≢true}
use Rattle.hcl_tokens.specs.Lexemes.{Opener, Quote, Heredoc, Sequence, Brace, Bracket, Paren, is_group, in_heredoc, below_groups, closes_sequence, pop_if, tops_with, open_after, same_opener}
use Rattle.hcl_tokens.specs.Spelling.{Context, Template, Expression, context, context_in}
use Rattle.hcl_tokens.specs.Kinds.{is}
use Rattle.hcl_tokens.specs.Scans.{Hidden, offsets_of, unclosed_opener, must_be_closed}
use Rattle.hcl_scan.specs.Inner.Openings.{opener_of, openers_of, offsets_in, hidden_of, hidden_under, popped_groups, popped_if, without_closed, top_closes, opens_or_closes, opened_by}
use Rattle.hcl_scan.specs.Inner.Scanners.{fits_in, AreEndsBy, IsStack}
use Rattle.hcl_scan.specs.Inner.Readings.{closes_in, group_reading, reading_on, top_reading}
use Rattle.hcl_scan.specs.declared.stack.Reading.{Reading}
use Rattle.hcl_scan.specs.declared.stack.Reading.TheVariants.{Code, SequenceCode, QuotedText, HeredocText}
use Rattle.hcl_scan.specs.declared.stack.Opener as kept
use Rattle.hcl_scan.specs.declared.stack.Opener.TheVariants as by
use Rattle.hcl_scan.specs.declared.stack.Opened.{Opened}
use Rattle.hcl_tokens.specs.declared.token.Kind.{Kind}
use Rattle.hcl_tokens.specs.declared.token.Kind.TheVariants.{Dot, QuoteOpen, HeredocOpen, HeredocClose, InterpOpen, ControlOpen, ParenOpen, BracketOpen, BraceOpen, ParenClose, BracketClose, BraceClose, SeqClose, QuoteClose}

-- the visible text ends within the text
within_by : (text : List ℕ) (end : ℕ) (opener : kept.Opener) (around : ℕ → Type 0) → ((e : ℕ) → around e → e ≤ length text) → AreEndsBy text end opener around → end ≤ length text
within_by text end (by.Heredoc closer_end outer_end) around more h = omega (arith, h.0, h.1, more outer_end h.4)
within_by text end _ around more h = more end h

pub stack_within : (text : List ℕ) (stack : List Opened) (end : ℕ) → IsStack text stack end → end ≤ length text
stack_within text [] end h = omega (arith, h)
stack_within text (o ∷ stack) end h = within_by text end o.by (IsStack text stack) (λ e. stack_within text stack e) h.3

-- and before the end of the text only inside a heredoc
inside_by : (text : List ℕ) (end : ℕ) (opener : kept.Opener) (around : ℕ → Type 0) (below : Bool) → ((e : ℕ) → around e → e ≤ length text) → ((e : ℕ) → around e → below ≡ nat_lt e (length text)) → AreEndsBy text end opener around → (same_opener Heredoc (opener_of opener) || below) ≡ nat_lt end (length text)
inside_by text end (by.Heredoc closer_end outer_end) around below more is h = let lt : end < length text = omega (arith, h.0, h.1, more outer_end h.4) in grind (arith, nat_tests)
inside_by text end by.Quote around below more is h = is end h
inside_by text end by.Sequence around below more is h = is end h
inside_by text end by.Brace around below more is h = is end h
inside_by text end by.Bracket around below more is h = is end h
inside_by text end by.Paren around below more is h = is end h

pub inside_is : (text : List ℕ) (stack : List Opened) (end : ℕ) → IsStack text stack end → in_heredoc (openers_of stack) ≡ nat_lt end (length text)
inside_is text [] end h = by_number end (length text) h
  where
    by_number : (a b : ℕ) → a ≡ b → false ≡ nat_lt a b
    by_number a b e = grind (arith, nat_tests)
inside_is text (o ∷ stack) end h = inside_by text end o.by (IsStack text stack) (in_heredoc (openers_of stack)) (λ e. stack_within text stack e) (λ e. inside_is text stack e) h.3

-- a `}` closes a sequence as the top says
pub top_is : (text : List ℕ) (stack : List Opened) (end : ℕ) → IsStack text stack end → top_closes stack ≡ closes_sequence (openers_of stack)
top_is text [] end h = refl
top_is text (o ∷ stack) end h = h.0

group_closes : (r : Reading) → closes_in (group_reading r) ≡ closes_in r
group_closes Code = refl
group_closes SequenceCode = refl
group_closes QuotedText = refl
group_closes HeredocText = refl

closes_by : (opener : kept.Opener) (opens : List Opener) (r : Reading) → closes_in r ≡ closes_sequence opens → closes_in (reading_on opener r) ≡ closes_sequence (opener_of opener ∷ opens)
closes_by by.Quote opens r e = refl
closes_by (by.Heredoc c o) opens r e = refl
closes_by by.Sequence opens r e = refl
closes_by by.Brace opens r e = refl
closes_by by.Bracket opens r e = group_closes r ∙ e
closes_by by.Paren opens r e = group_closes r ∙ e

pub closes_is : (text : List ℕ) (stack : List Opened) (end : ℕ) (opener : kept.Opener) → IsStack text stack end → closes_in (reading_on opener (top_reading stack)) ≡ closes_sequence (opener_of opener ∷ openers_of stack)
closes_is text stack end opener h = closes_by opener (openers_of stack) (top_reading stack) (top_is text stack end h)

-- ENTRIES OTHER THAN HEREDOCS ARE DROPPED
pub record Drops (old new : List Opened) : Type 0 where
  pub count : ℕ
  pub within : count ≤ length old
  pub is : new ≡ drop count old
  pub less : length new + count ≡ length old
  pub hidden : (text : List ℕ) (end : ℕ) → hidden_of text new end ≡ hidden_of text old end
  pub stack : (text : List ℕ) (end : ℕ) → IsStack text old end → IsStack text new end

drops_none : (stack : List Opened) → Drops stack stack
drops_none stack = record { count = 0; within = omega arith; is = refl; less = omega arith; hidden = λ text end. refl; stack = λ text end h. h }

hidden_by : (text : List ℕ) (end : ℕ) (opener : kept.Opener) (above : ℕ → List Hidden) → same_opener Heredoc (opener_of opener) ≡ false → above end ≡ hidden_under text end opener above
hidden_by text end (by.Heredoc c o) above h = absurd (cc)
hidden_by text end _ above h = refl

ends_by : (text : List ℕ) (end : ℕ) (opener : kept.Opener) (around : ℕ → Type 0) → same_opener Heredoc (opener_of opener) ≡ false → AreEndsBy text end opener around → around end
ends_by text end (by.Heredoc c o) around e h = absurd (cc)
ends_by text end _ around e h = h

drops_one : (o : Opened) (stack new : List Opened) → same_opener Heredoc (opener_of o.by) ≡ false → Drops stack new → Drops (o ∷ stack) new
drops_one o stack new plain d = record {
  count = suc d.count;
  within = omega (arith, d.within);
  is = d.is;
  less = omega (arith, d.less);
  hidden = λ text end. d.hidden text end ∙ hidden_by text end o.by (hidden_of text stack) plain;
  stack = λ text end h. d.stack text end (ends_by text end o.by (IsStack text stack) plain h.3);
}

drops_more : (a b c : List Opened) → Drops a b → Drops b c → Drops a c
drops_more a b c x y = record {
  count = x.count + y.count;
  within = omega (arith, x.within, y.within, x.less);
  is = y.is ∙ ap (drop y.count) x.is ∙ drop-drop y.count x.count a;
  less = omega (arith, x.less, y.less);
  hidden = λ text end. y.hidden text end ∙ x.hidden text end;
  stack = λ text end h. y.stack text end (x.stack text end h);
}

group_plain : (opener : Opener) → is_group opener ≡ true → same_opener Heredoc opener ≡ false
group_plain Heredoc h = absurd (cc)
group_plain _ h = refl

groups_if : (o : Opened) (stack : List Opened) (v : Bool) → is_group (opener_of o.by) ≡ v → Drops stack (popped_groups stack) → Drops (o ∷ stack) (if v then popped_groups stack else o ∷ stack)
groups_if o stack true e d = drops_one o stack (popped_groups stack) (group_plain (opener_of o.by) e) d
groups_if o stack false e d = drops_none (o ∷ stack)

drops_groups : (stack : List Opened) → Drops stack (popped_groups stack)
drops_groups [] = drops_none []
drops_groups (o ∷ stack) = groups_if o stack (is_group (opener_of o.by)) refl (drops_groups stack)

same_plain : (opener other : Opener) → same_opener Heredoc other ≡ false → same_opener opener other ≡ true → same_opener Heredoc opener ≡ false
same_plain Heredoc Heredoc p h = p
same_plain Heredoc Quote p h = absurd (cc)
same_plain Heredoc Sequence p h = absurd (cc)
same_plain Heredoc Brace p h = absurd (cc)
same_plain Heredoc Bracket p h = absurd (cc)
same_plain Heredoc Paren p h = absurd (cc)
same_plain _ other p h = refl

pops_if : (o : Opened) (stack : List Opened) (other : Opener) (v : Bool) → same_opener Heredoc other ≡ false → same_opener (opener_of o.by) other ≡ v → Drops (o ∷ stack) (if v then stack else o ∷ stack)
pops_if o stack other true p e = drops_one o stack stack (same_plain (opener_of o.by) other p e) (drops_none stack)
pops_if o stack other false p e = drops_none (o ∷ stack)

drops_if : (other : Opener) (stack : List Opened) → same_opener Heredoc other ≡ false → Drops stack (popped_if other stack)
drops_if other [] p = drops_none []
drops_if other (o ∷ stack) p = pops_if o stack other (same_opener (opener_of o.by) other) p refl

-- the top of a stack, if it is known
drops_top : (stack : List Opened) → tops_with (same_opener Heredoc) (openers_of stack) ≡ false → Drops stack (drop 1 stack)
drops_top [] h = drops_none []
drops_top (o ∷ stack) h = drops_one o stack stack h (drops_none stack)

-- the open constructs change by the same operation
groups_are_if : (o : Opened) (stack : List Opened) (v : Bool) → openers_of (popped_groups stack) ≡ below_groups (openers_of stack) → openers_of (if v then popped_groups stack else o ∷ stack) ≡ (if v then below_groups (openers_of stack) else opener_of o.by ∷ openers_of stack)
groups_are_if o stack true e = e
groups_are_if o stack false e = refl

groups_are : (stack : List Opened) → openers_of (popped_groups stack) ≡ below_groups (openers_of stack)
groups_are [] = refl
groups_are (o ∷ stack) = groups_are_if o stack (is_group (opener_of o.by)) (groups_are stack)

if_is : (o : Opened) (stack : List Opened) (v : Bool) → openers_of (if v then stack else o ∷ stack) ≡ (if v then openers_of stack else opener_of o.by ∷ openers_of stack)
if_is o stack true = refl
if_is o stack false = refl

popped_is : (is : Opener → Bool) (other : Opener) → ((opener : Opener) → same_opener opener other ≡ is opener) → (stack : List Opened) → openers_of (popped_if other stack) ≡ pop_if is (openers_of stack)
popped_is is other same [] = refl
popped_is is other same (o ∷ stack) = if_is o stack (same_opener (opener_of o.by) other) ∙ ap (λ v. if v then openers_of stack else opener_of o.by ∷ openers_of stack) (same (opener_of o.by))

top_is_drop : (stack : List Opened) → openers_of (drop 1 stack) ≡ drop 1 (openers_of stack)
top_is_drop [] = refl
top_is_drop (o ∷ stack) = refl

is_paren_same : (opener : Opener) → same_opener opener Paren ≡ same_opener Paren opener
is_paren_same Paren = refl
is_paren_same Quote = refl
is_paren_same Heredoc = refl
is_paren_same Sequence = refl
is_paren_same Brace = refl
is_paren_same Bracket = refl

is_bracket_same : (opener : Opener) → same_opener opener Bracket ≡ same_opener Bracket opener
is_bracket_same Paren = refl
is_bracket_same Quote = refl
is_bracket_same Heredoc = refl
is_bracket_same Sequence = refl
is_bracket_same Brace = refl
is_bracket_same Bracket = refl

is_brace_same : (opener : Opener) → same_opener opener Brace ≡ same_opener Brace opener
is_brace_same Paren = refl
is_brace_same Quote = refl
is_brace_same Heredoc = refl
is_brace_same Sequence = refl
is_brace_same Brace = refl
is_brace_same Bracket = refl

-- the constructs that a kind drops, opener by opener, as in the code
abbrev pub dropped : Kind → List Opened → List Opened
dropped ParenClose stack = popped_if Paren stack
dropped BracketClose stack = popped_if Bracket stack
dropped BraceClose stack = popped_if Brace (popped_groups stack)
dropped SeqClose stack = drop 1 (popped_groups stack)
dropped QuoteClose stack = drop 1 stack
dropped HeredocClose stack = drop 1 stack
dropped _ stack = stack

-- for a kind that opens nothing
pub dropped_is : (kind : Kind) (stack : List Opened) → opened_by kind ≡ None → kind ≢ HeredocOpen → openers_of (dropped kind stack) ≡ open_after kind (openers_of stack)
dropped_is ParenClose stack none no_open = popped_is (same_opener Paren) Paren is_paren_same stack
dropped_is BracketClose stack none no_open = popped_is (same_opener Bracket) Bracket is_bracket_same stack
dropped_is BraceClose stack none no_open = popped_is (same_opener Brace) Brace is_brace_same (popped_groups stack) ∙ ap (pop_if (same_opener Brace)) (groups_are stack)
dropped_is SeqClose stack none no_open = top_is_drop (popped_groups stack) ∙ ap (drop 1) (groups_are stack)
dropped_is QuoteClose stack none no_open = top_is_drop stack
dropped_is HeredocClose stack none no_open = top_is_drop stack
dropped_is HeredocOpen stack none no_open = absurd (no_open refl)
dropped_is QuoteOpen stack none no_open = absurd (cc)
dropped_is InterpOpen stack none no_open = absurd (cc)
dropped_is ControlOpen stack none no_open = absurd (cc)
dropped_is ParenOpen stack none no_open = absurd (cc)
dropped_is BracketOpen stack none no_open = absurd (cc)
dropped_is BraceOpen stack none no_open = absurd (cc)
dropped_is _ stack none no_open = refl

-- this many are dropped from the top
record IsBack (old new : List Opened) : Type 0 where
  count : ℕ
  within : count ≤ length old
  is : new ≡ drop count old

back_none : (stack : List Opened) → IsBack stack stack
back_none stack = record { count = 0; within = omega arith; is = refl }

back_one : (o : Opened) (stack new : List Opened) → IsBack stack new → IsBack (o ∷ stack) new
back_one o stack new b = record { count = suc b.count; within = omega (arith, b.within); is = b.is }

back_more : (old mid new : List Opened) → IsBack old mid → IsBack mid new → IsBack old new
back_more old mid new x y = record {
  count = x.count + y.count;
  within = omega (arith, x.within, y.within, ap length x.is, length-drop x.count old);
  is = y.is ∙ ap (drop y.count) x.is ∙ drop-drop y.count x.count old;
}

back_groups_if : (o : Opened) (stack : List Opened) (v : Bool) → IsBack stack (popped_groups stack) → IsBack (o ∷ stack) (if v then popped_groups stack else o ∷ stack)
back_groups_if o stack true b = back_one o stack (popped_groups stack) b
back_groups_if o stack false b = back_none (o ∷ stack)

back_groups : (stack : List Opened) → IsBack stack (popped_groups stack)
back_groups [] = back_none []
back_groups (o ∷ stack) = back_groups_if o stack (is_group (opener_of o.by)) (back_groups stack)

back_if_same : (o : Opened) (stack : List Opened) (v : Bool) → IsBack (o ∷ stack) (if v then stack else o ∷ stack)
back_if_same o stack true = back_one o stack stack (back_none stack)
back_if_same o stack false = back_none (o ∷ stack)

back_if : (other : Opener) (stack : List Opened) → IsBack stack (popped_if other stack)
back_if other [] = back_none []
back_if other (o ∷ stack) = back_if_same o stack (same_opener (opener_of o.by) other)

back_top : (stack : List Opened) → IsBack stack (drop 1 stack)
back_top [] = back_none []
back_top (o ∷ stack) = back_one o stack stack (back_none stack)

-- the number of the remaining ones determines them
by_count : (old new : List Opened) (left : ℕ) → IsBack old new → length new ≡ left → new ≡ drop (length old - left) old
by_count old new left b e =
    let n : length old - left ≡ b.count = omega (arith, b.within, e, ap length b.is, length-drop b.count old) in
    b.is ∙ ap (λ k. drop k old) (sym n)

module _ (stack : List Opened) where
  -- by the open constructs after it
  leaves_open : (new : List Opened) (opens : List Opener) → IsBack stack new → openers_of new ≡ opens → new ≡ drop (length stack - length opens) stack
  leaves_open new opens b e = by_count stack new (length opens) b (sym (length-map new (λ (o : Opened). opener_of o.by)) ∙ ap length e)

  -- an opener drops nothing
  opens_more : (opener : Opener) → stack ≡ drop (length stack - length (opener ∷ openers_of stack)) stack
  opens_more opener =
      let n : length stack - length (opener ∷ openers_of stack) ≡ 0 = omega (arith, length-map stack (λ (o : Opened). opener_of o.by)) in
      ap (λ k. drop k stack) (sym n)

  pub dropped_so : (kind : Kind) → dropped kind stack ≡ without_closed kind stack
  dropped_so ParenClose = leaves_open (dropped ParenClose stack) (open_after ParenClose (openers_of stack)) (back_if Paren stack) (dropped_is ParenClose stack refl (λ k. cc))
  dropped_so BracketClose = leaves_open (dropped BracketClose stack) (open_after BracketClose (openers_of stack)) (back_if Bracket stack) (dropped_is BracketClose stack refl (λ k. cc))
  dropped_so BraceClose =
      leaves_open (dropped BraceClose stack) (open_after BraceClose (openers_of stack)) (back_more stack (popped_groups stack) (dropped BraceClose stack) (back_groups stack) (back_if Brace (popped_groups stack)))
      (dropped_is BraceClose stack refl (λ k. cc))
  dropped_so SeqClose =
      leaves_open (dropped SeqClose stack) (open_after SeqClose (openers_of stack)) (back_more stack (popped_groups stack) (dropped SeqClose stack) (back_groups stack) (back_top (popped_groups stack)))
      (dropped_is SeqClose stack refl (λ k. cc))
  dropped_so QuoteClose = leaves_open (dropped QuoteClose stack) (open_after QuoteClose (openers_of stack)) (back_top stack) (dropped_is QuoteClose stack refl (λ k. cc))
  dropped_so HeredocClose = leaves_open (dropped HeredocClose stack) (open_after HeredocClose (openers_of stack)) (back_top stack) (dropped_is HeredocClose stack refl (λ k. cc))
  dropped_so HeredocOpen = opens_more Heredoc
  dropped_so QuoteOpen = opens_more Quote
  dropped_so InterpOpen = opens_more Sequence
  dropped_so ControlOpen = opens_more Sequence
  dropped_so ParenOpen = opens_more Paren
  dropped_so BracketOpen = opens_more Bracket
  dropped_so BraceOpen = opens_more Brace
  dropped_so _ = leaves_open stack (openers_of stack) (back_none stack) refl

-- a token that neither opens nor closes leaves everything open
pub stays_so : (kind : Kind) (stack : List Opened) → opens_or_closes kind ≡ false → stack ≡ without_closed kind stack
stays_so kind stack h = by kind h ∙ dropped_so stack kind
  where
    by : (kind : Kind) → opens_or_closes kind ≡ false → stack ≡ dropped kind stack
    by ParenClose h = absurd (cc)
    by BracketClose h = absurd (cc)
    by BraceClose h = absurd (cc)
    by SeqClose h = absurd (cc)
    by QuoteClose h = absurd (cc)
    by HeredocClose h = absurd (cc)
    by _ h = refl

pub plain_opens : (kind : Kind) → opens_or_closes kind ≡ false → (opened_by kind ≡ None) × (is HeredocOpen kind ≡ false)
plain_opens QuoteOpen h = absurd (cc)
plain_opens InterpOpen h = absurd (cc)
plain_opens ControlOpen h = absurd (cc)
plain_opens ParenOpen h = absurd (cc)
plain_opens BracketOpen h = absurd (cc)
plain_opens BraceOpen h = absurd (cc)
plain_opens HeredocOpen h = absurd (cc)
plain_opens _ h = (refl, refl)

pub changes_no_dot : (kind : Kind) → opens_or_closes kind ≡ true → false ≡ is Dot kind
changes_no_dot Dot h = absurd (cc)
changes_no_dot _ h = refl

pub closed_is : (kind : Kind) (stack : List Opened) → opened_by kind ≡ None → kind ≢ HeredocOpen → openers_of (without_closed kind stack) ≡ open_after kind (openers_of stack)
closed_is kind stack none no_open = ap openers_of (sym (dropped_so stack kind)) ∙ dropped_is kind stack none no_open

sequence_plain : (opens : List Opener) → tops_with (same_opener Sequence) opens ≡ true → tops_with (same_opener Heredoc) opens ≡ false
sequence_plain [] h = refl
sequence_plain (Heredoc ∷ opens) h = absurd (cc)
sequence_plain (Quote ∷ opens) h = refl
sequence_plain (Sequence ∷ opens) h = refl
sequence_plain (Brace ∷ opens) h = refl
sequence_plain (Bracket ∷ opens) h = refl
sequence_plain (Paren ∷ opens) h = refl

quote_plain : (opens : List Opener) → context opens ≡ Template true → tops_with (same_opener Heredoc) opens ≡ false
quote_plain [] h = refl
quote_plain (Heredoc ∷ opens) h = absurd (wrong h)
  where
    quoted : Context → Bool
    quoted (Template q) = q
    quoted Expression = true

    wrong : Template false ≡ Template true → ⊥
    wrong e = cc
quote_plain (Quote ∷ opens) h = refl
quote_plain (Sequence ∷ opens) h = refl
quote_plain (Brace ∷ opens) h = refl
quote_plain (Bracket ∷ opens) h = refl
quote_plain (Paren ∷ opens) h = refl

-- the conditions for a token of this kind to close
pub record Closable (kind : Kind) (opens : List Opener) : Type 0 where
  pub sequence : kind ≡ SeqClose → closes_sequence opens ≡ true
  pub quote : kind ≡ QuoteClose → context opens ≡ Template true

dropped_drops : (kind : Kind) (stack : List Opened) → kind ≢ HeredocClose → Closable kind (openers_of stack) → Drops stack (dropped kind stack)
dropped_drops ParenClose stack no_close h = drops_if Paren stack refl
dropped_drops BracketClose stack no_close h = drops_if Bracket stack refl
dropped_drops BraceClose stack no_close h = drops_more stack (popped_groups stack) (popped_if Brace (popped_groups stack)) (drops_groups stack) (drops_if Brace (popped_groups stack) refl)
dropped_drops SeqClose stack no_close h = drops_more stack (popped_groups stack) (drop 1 (popped_groups stack)) (drops_groups stack) (drops_top (popped_groups stack) (ap (tops_with (same_opener Heredoc)) (groups_are stack) ∙ sequence_plain (below_groups (openers_of stack)) (h.sequence refl)))
dropped_drops QuoteClose stack no_close h = drops_top stack (quote_plain (openers_of stack) (h.quote refl))
dropped_drops HeredocClose stack no_close h = absurd (no_close refl)
dropped_drops _ stack no_close h = drops_none stack

pub closed_drops : (kind : Kind) (stack : List Opened) → kind ≢ HeredocClose → Closable kind (openers_of stack) → Drops stack (without_closed kind stack)
closed_drops kind stack no_close h = subst (λ (z : List Opened). Drops stack z) (dropped_so stack kind) (dropped_drops kind stack no_close h)

-- offsets match the open constructs
offsets_by : (at a b k : ℕ) (offsets : List ℕ) → b + k ≡ a → drop k offsets ≡ (if nat_lt a b then at ∷ offsets else drop (a - b) offsets)
offsets_by at a b k offsets e =
    let no : nat_lt a b ≡ false = not_less a b (omega (arith, e)) in
    let d : a - b ≡ k = omega (arith, e) in
    sym (ap (λ v. if v then at ∷ offsets else drop (a - b) offsets) no ∙ ap (λ n. drop n offsets) d)
  where
    not_less : (a b : ℕ) → b ≤ a → nat_lt a b ≡ false
    not_less a b le = grind (arith, nat_tests)

pub drops_offsets : (at : ℕ) (old new : List Opened) → Drops old new → offsets_in new ≡ offsets_of at (openers_of old) (openers_of new) (offsets_in old)
drops_offsets at old new d =
    ap offsets_in d.is ∙ sym (drop-map (λ (o : Opened). o.at) d.count old)
    ∙ offsets_by at (length (openers_of old)) (length (openers_of new)) d.count (offsets_in old) (omega (arith, d.less, length-map old (λ (o : Opened). opener_of o.by), length-map new (λ (o : Opened). opener_of o.by)))

pub push_offsets : (at : ℕ) (opener : Opener) (opens : List Opener) (offsets : List ℕ) → at ∷ offsets ≡ offsets_of at opens (opener ∷ opens) offsets
push_offsets at opener opens offsets = ap (λ v. if v then at ∷ offsets else drop (length opens - suc (length opens)) offsets) (less (length opens))
  where
    less : (n : ℕ) → true ≡ nat_lt n (suc n)
    less n = grind (arith, nat_tests)

-- OPENERS
abbrev is_opener : Option kept.Opener → Bool
is_opener (Some opener) = true
is_opener None = false

pub opens_so : (kind : Kind) (opener : kept.Opener) (opens : List Opener) → opened_by kind ≡ Some opener → (opener_of opener ∷ opens ≡ open_after kind opens) × (same_opener Heredoc (opener_of opener) ≡ false)
opens_so QuoteOpen opener opens h = let e : by.Quote ≡ opener = cc in (ap (λ o. opener_of o ∷ opens) (sym e), ap (λ o. same_opener Heredoc (opener_of o)) (sym e))
opens_so InterpOpen opener opens h = let e : by.Sequence ≡ opener = cc in (ap (λ o. opener_of o ∷ opens) (sym e), ap (λ o. same_opener Heredoc (opener_of o)) (sym e))
opens_so ControlOpen opener opens h = let e : by.Sequence ≡ opener = cc in (ap (λ o. opener_of o ∷ opens) (sym e), ap (λ o. same_opener Heredoc (opener_of o)) (sym e))
opens_so ParenOpen opener opens h = let e : by.Paren ≡ opener = cc in (ap (λ o. opener_of o ∷ opens) (sym e), ap (λ o. same_opener Heredoc (opener_of o)) (sym e))
opens_so BracketOpen opener opens h = let e : by.Bracket ≡ opener = cc in (ap (λ o. opener_of o ∷ opens) (sym e), ap (λ o. same_opener Heredoc (opener_of o)) (sym e))
opens_so BraceOpen opener opens h = let e : by.Brace ≡ opener = cc in (ap (λ o. opener_of o ∷ opens) (sym e), ap (λ o. same_opener Heredoc (opener_of o)) (sym e))
opens_so _ opener opens h = absurd (false≢true (ap is_opener h))

pub ends_of : (text : List ℕ) (end : ℕ) (opener : kept.Opener) (around : ℕ → Type 0) → same_opener Heredoc (opener_of opener) ≡ false → around end → AreEndsBy text end opener around
ends_of text end (by.Heredoc c o) around e h = absurd (cc)
ends_of text end _ around e h = h

pub hidden_on : (text : List ℕ) (end : ℕ) (opener : kept.Opener) (above : ℕ → List Hidden) → same_opener Heredoc (opener_of opener) ≡ false → hidden_under text end opener above ≡ above end
hidden_on text end (by.Heredoc c o) above h = absurd (cc)
hidden_on text end _ above h = refl

-- if a heredoc must be closed first, it is on top, since expressions are opened only in sequences
unclosed_on : (opener : Opener) (opens : List Opener) (v : Bool) → must_be_closed opener ≡ v → IsTrue (fits_in opener (context opens)) → (unclosed_opener opens ≡ Some Heredoc → context opens ≡ Template false) → (if v then Some opener else unclosed_opener opens) ≡ Some Heredoc → context_in opener ≡ Template false
unclosed_on Heredoc opens true e fits more h = refl
unclosed_on Quote opens true e fits more h = absurd (cc)
unclosed_on Sequence opens true e fits more h = absurd (cc)
unclosed_on Brace opens false e fits more h = absurd (subst (λ c. IsTrue (fits_in Brace c) → ⊥) (sym (more h)) (λ f. cc) fits)
unclosed_on Bracket opens false e fits more h = absurd (subst (λ c. IsTrue (fits_in Bracket c) → ⊥) (sym (more h)) (λ f. cc) fits)
unclosed_on Paren opens false e fits more h = absurd (subst (λ c. IsTrue (fits_in Paren c) → ⊥) (sym (more h)) (λ f. cc) fits)
unclosed_on Heredoc opens false e fits more h = absurd (cc)
unclosed_on Quote opens false e fits more h = absurd (cc)
unclosed_on Sequence opens false e fits more h = absurd (cc)
unclosed_on Brace opens true e fits more h = absurd (cc)
unclosed_on Bracket opens true e fits more h = absurd (cc)
unclosed_on Paren opens true e fits more h = absurd (cc)

pub some_around : (text : List ℕ) (end : ℕ) (opener : kept.Opener) (stack : List Opened) → AreEndsBy text end opener (IsStack text stack) → (e : ℕ) × IsStack text stack e
some_around text end (by.Heredoc c o) stack h = (o, h.4)
some_around text end by.Quote stack h = (end, h)
some_around text end by.Sequence stack h = (end, h)
some_around text end by.Brace stack h = (end, h)
some_around text end by.Bracket stack h = (end, h)
some_around text end by.Paren stack h = (end, h)

pub unclosed_heredoc : (text : List ℕ) (stack : List Opened) (end : ℕ) → IsStack text stack end → unclosed_opener (openers_of stack) ≡ Some Heredoc → context (openers_of stack) ≡ Template false
unclosed_heredoc text [] end h is = absurd (cc)
unclosed_heredoc text (o ∷ stack) end h is =
    let around = some_around text end o.by stack h.3 in
    unclosed_on (opener_of o.by) (openers_of stack) (must_be_closed (opener_of o.by)) refl h.1 (unclosed_heredoc text stack around.0 around.1) is
