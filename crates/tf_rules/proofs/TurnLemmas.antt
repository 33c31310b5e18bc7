-- Items as a reader of kinds sees them: its place in the lines of a file, and which kinds lead where. The grammar leads
-- no other way.
use Rattle.std.proofs.Common.{◌≡◌, ◌⊎◌, inl, inr, ℕ, zero, suc, ◌+◌, ◌≤◌, Bool, true, false, cond, arith, refl, sym, subst, ◌∙◌, true≢false}
use Rattle.std.specs.Prelude.{◌&&◌, Option, Some, None}
use Rattle.hcl_tokens.specs.declared.token.Kind.{Kind}
use Rattle.hcl_tokens.specs.declared.token.Kind.TheVariants as kind
use Rattle.hcl_tokens.specs.Balanced.{closer_count, is_closer}
use Rattle.hcl_grammar.specs.Items.{deepen, is_closed}
use Rattle.hcl_tokens.specs.Kinds.{is}

-- the place of a reader: at the beginning of a line; among the labels, where an `=` may still come or not; after a
-- label's quote, and after its literal; after a block's brace, and after the name there; in the value there, or of a
-- line, with a number of groups open; at the end of a line. The first number counts the open bodies.
pub data Place : Type 0 where
  line : ℕ → Place
  labelled : ℕ → Bool → Place
  quoted : ℕ → Place
  written : ℕ → Place
  started : ℕ → Place
  named : ℕ → Place
  single : ℕ → ℕ → Place
  value : ℕ → ℕ → Place
  ended : ℕ → Place

-- how many bodies are open, that of a block on one line included
abbrev pub level : Place → ℕ
level (line k) = k
level (labelled k b) = k
level (quoted k) = k
level (written k) = k
level (started k) = suc k
level (named k) = suc k
level (single k h) = suc k
level (value k h) = k
level (ended k) = k

-- how many groups are open in the value
abbrev pub inside : Place → ℕ
inside (single k h) = h
inside (value k h) = h
inside _ = 0

abbrev pub depth : Place → ℕ
depth p = level p + inside p

abbrev pub may_end : Place → Bool
may_end (line k) = true
may_end (started k) = true
may_end (value k h) = true
may_end (ended k) = true
may_end _ = false

abbrev pub may_stop : Place → Bool
may_stop (line k) = true
may_stop (started k) = true
may_stop (single k h) = true
may_stop (value k h) = true
may_stop (ended k) = true
may_stop _ = false

abbrev pub is_line : Place → Bool
is_line (line k) = true
is_line _ = false

abbrev pub left : ℕ → Option Place
left zero = None
left (suc k) = Some (ended k)

abbrev pub from_line : ℕ → Kind → Option Place
from_line k kind.Ident = Some (labelled k true)
from_line k kind.BraceClose = left k
from_line k _ = None

abbrev pub from_labels : ℕ → Bool → Kind → Option Place
from_labels k b kind.Ident = Some (labelled k false)
from_labels k b kind.QuoteOpen = Some (quoted k)
from_labels k b kind.BraceOpen = Some (started k)
from_labels k b kind.Assign = cond b (Some (value k 0)) None
from_labels k b _ = None

abbrev pub from_quote : ℕ → Kind → Option Place
from_quote k kind.Lit = Some (written k)
from_quote k kind.QuoteClose = Some (labelled k false)
from_quote k _ = None

abbrev pub from_literal : ℕ → Kind → Option Place
from_literal k kind.QuoteClose = Some (labelled k false)
from_literal k _ = None

abbrev pub from_start : ℕ → Kind → Option Place
from_start k kind.Ident = Some (named k)
from_start k kind.BraceClose = Some (ended k)
from_start k _ = None

abbrev pub from_name : ℕ → Kind → Option Place
from_name k kind.Assign = Some (single k 0)
from_name k _ = None

-- after a token other than a newline outside all openers
abbrev pub goes : Place → Kind → Option Place
goes (line k) t = from_line k t
goes (labelled k b) t = from_labels k b t
goes (quoted k) t = from_quote k t
goes (written k) t = from_literal k t
goes (started k) t = from_start k t
goes (named k) t = from_name k t
goes (single k h) t = cond (is_closer t && is_closed h) (cond (is kind.BraceClose t) (Some (ended k)) None) (Some (single k (deepen h t)))
goes (value k h) t = cond (is_closer t && is_closed h) None (Some (value k (deepen h t)))
goes (ended k) t = None

abbrev pub ends_line : Place → Option Place
ends_line p = cond (may_end p) (Some (line (level p))) None

-- after a token
abbrev pub turn : Place → Kind → Option Place
turn p t = cond (is kind.Newline t && is_closed (inside p)) (ends_line p) (goes p t)

-- ---- consequences

-- a body is left
pub record IsLeft (p : Place) (t : Kind) (q : Place) : Type 0 where
  pub brace : is kind.BraceClose t ≡ true
  pub below : ℕ
  pub to : q ≡ ended below
  pub from : level p ≡ suc below
  pub flat : inside p ≡ 0
  pub stops : may_stop p ≡ true

pub record Goes (p : Place) (t : Kind) (q : Place) : Type 0 where
  pub deep : depth q ≡ deepen (depth p) t
  pub no_line : is_line q ≡ false
  pub levels : (level p ≤ level q) ⊎ IsLeft p t q

there : (p : Place) (t : Kind) (q r : Place) → Some r ≡ Some q → Goes p t r → Goes p t q
there p t q r e g = let same : r ≡ q = cc in subst (λ x. Goes p t x) same g

nowhere : (p : Place) (t : Kind) (q : Place) → None ≡ Some q → Goes p t q
nowhere p t q e = absurd (cc)

fits : (h : ℕ) (t : Kind) → (is_closer t && is_closed h) ≡ false → closer_count t ≤ h
fits h t e = by (is_closer t) h e
  where
    by : (b : Bool) (h : ℕ) → (b && is_closed h) ≡ false → cond b 1 0 ≤ h
    by true zero e = absurd (true≢false e)
    by true (suc h) e = omega arith
    by false h e = omega arith

go_line : (k : ℕ) (t : Kind) (q : Place) → from_line k t ≡ Some q → Goes (line k) t q
go_line k kind.Ident q e = there (line k) kind.Ident q (labelled k true) e (record { deep = omega arith; no_line = refl; levels = inl (omega arith) })
go_line zero kind.BraceClose q e = nowhere (line zero) kind.BraceClose q e
go_line (suc k) kind.BraceClose q e =
    there (line (suc k)) kind.BraceClose q (ended k) e
    (record { deep = omega arith; no_line = refl; levels = inr (record { brace = refl; below = k; to = refl; from = refl; flat = refl; stops = refl }) })
go_line k t q e = nowhere (line k) t q e

go_labels : (k : ℕ) (b : Bool) (t : Kind) (q : Place) → from_labels k b t ≡ Some q → Goes (labelled k b) t q
go_labels k b kind.Ident q e = there (labelled k b) kind.Ident q (labelled k false) e (record { deep = omega arith; no_line = refl; levels = inl (omega arith) })
go_labels k b kind.QuoteOpen q e = there (labelled k b) kind.QuoteOpen q (quoted k) e (record { deep = omega arith; no_line = refl; levels = inl (omega arith) })
go_labels k b kind.BraceOpen q e = there (labelled k b) kind.BraceOpen q (started k) e (record { deep = omega arith; no_line = refl; levels = inl (omega arith) })
go_labels k true kind.Assign q e = there (labelled k true) kind.Assign q (value k 0) e (record { deep = omega arith; no_line = refl; levels = inl (omega arith) })
go_labels k false kind.Assign q e = nowhere (labelled k false) kind.Assign q e
go_labels k b t q e = nowhere (labelled k b) t q e

go_quote : (k : ℕ) (t : Kind) (q : Place) → from_quote k t ≡ Some q → Goes (quoted k) t q
go_quote k kind.Lit q e = there (quoted k) kind.Lit q (written k) e (record { deep = omega arith; no_line = refl; levels = inl (omega arith) })
go_quote k kind.QuoteClose q e = there (quoted k) kind.QuoteClose q (labelled k false) e (record { deep = omega arith; no_line = refl; levels = inl (omega arith) })
go_quote k t q e = nowhere (quoted k) t q e

go_literal : (k : ℕ) (t : Kind) (q : Place) → from_literal k t ≡ Some q → Goes (written k) t q
go_literal k kind.QuoteClose q e = there (written k) kind.QuoteClose q (labelled k false) e (record { deep = omega arith; no_line = refl; levels = inl (omega arith) })
go_literal k t q e = nowhere (written k) t q e

go_start : (k : ℕ) (t : Kind) (q : Place) → from_start k t ≡ Some q → Goes (started k) t q
go_start k kind.Ident q e = there (started k) kind.Ident q (named k) e (record { deep = omega arith; no_line = refl; levels = inl (omega arith) })
go_start k kind.BraceClose q e =
    there (started k) kind.BraceClose q (ended k) e
    (record { deep = omega arith; no_line = refl; levels = inr (record { brace = refl; below = k; to = refl; from = refl; flat = refl; stops = refl }) })
go_start k t q e = nowhere (started k) t q e

go_name : (k : ℕ) (t : Kind) (q : Place) → from_name k t ≡ Some q → Goes (named k) t q
go_name k kind.Assign q e = there (named k) kind.Assign q (single k 0) e (record { deep = omega arith; no_line = refl; levels = inl (omega arith) })
go_name k t q e = nowhere (named k) t q e

go_value : (k h : ℕ) (t : Kind) (q : Place) → goes (value k h) t ≡ Some q → Goes (value k h) t q
go_value k h t q e = by (is_closer t && is_closed h) refl e
  where
    by : (b : Bool) → (is_closer t && is_closed h) ≡ b → cond b None (Some (value k (deepen h t))) ≡ Some q → Goes (value k h) t q
    by true is e = nowhere (value k h) t q e
    by false is e = there (value k h) t q (value k (deepen h t)) e (record { deep = omega (arith, fits h t is); no_line = refl; levels = inl (omega arith) })

go_single : (k h : ℕ) (t : Kind) (q : Place) → goes (single k h) t ≡ Some q → Goes (single k h) t q
go_single k h t q e = by (is_closer t && is_closed h) refl e
  where
    flat : (h : ℕ) → (is_closer t && is_closed h) ≡ true → h ≡ 0
    flat zero this = refl
    flat (suc h) this = absurd (true≢false (sym this ∙ none (is_closer t)))
      where
        none : (b : Bool) → (b && false) ≡ false
        none true = refl
        none false = refl

    close : (t : Kind) → is kind.BraceClose t ≡ true → (suc k) + 0 ≡ suc (k + 0) → k + 0 ≡ deepen (suc k + 0) t
    close kind.BraceClose this h = omega arith
    close _ this h = absurd (true≢false (sym this))

    over : (b : Bool) → is kind.BraceClose t ≡ b → h ≡ 0 → cond b (Some (ended k)) None ≡ Some q → Goes (single k h) t q
    over true brace none e =
        there (single k h) t q (ended k) e
        (record {
          deep = subst (λ (x : ℕ). k + 0 ≡ deepen (suc k + x) t) (sym none) (close t brace (omega arith));
          no_line = refl;
          levels = inr (record { brace = brace; below = k; to = refl; from = refl; flat = none; stops = refl });
        })
    over false brace none e = nowhere (single k h) t q e

    by : (b : Bool) → (is_closer t && is_closed h) ≡ b → cond b (cond (is kind.BraceClose t) (Some (ended k)) None) (Some (single k (deepen h t))) ≡ Some q → Goes (single k h) t q
    by true this e = over (is kind.BraceClose t) refl (flat h this) e
    by false this e = there (single k h) t q (single k (deepen h t)) e (record { deep = omega (arith, fits h t this); no_line = refl; levels = inl (omega arith) })

pub go : (p : Place) (t : Kind) (q : Place) → goes p t ≡ Some q → Goes p t q
go (line k) t q e = go_line k t q e
go (labelled k b) t q e = go_labels k b t q e
go (quoted k) t q e = go_quote k t q e
go (written k) t q e = go_literal k t q e
go (started k) t q e = go_start k t q e
go (named k) t q e = go_name k t q e
go (single k h) t q e = go_single k h t q e
go (value k h) t q e = go_value k h t q e
go (ended k) t q e = nowhere (ended k) t q e

-- a line ends, or a token leads on
pub data Turns (p : Place) (t : Kind) (q : Place) : Type 0 where
  breaks : is kind.Newline t ≡ true → inside p ≡ 0 → may_end p ≡ true → q ≡ line (level p) → Turns p t q
  moves : (is kind.Newline t && is_closed (inside p)) ≡ false → Goes p t q → Turns p t q

pub turns : (p : Place) (t : Kind) (q : Place) → turn p t ≡ Some q → Turns p t q
turns p t q e = by (is kind.Newline t && is_closed (inside p)) refl e
  where
    newline : (b : Bool) (h : ℕ) → (b && is_closed h) ≡ true → (b ≡ true) × (h ≡ 0)
    newline true zero this = (refl, refl)
    newline true (suc h) this = absurd (true≢false (sym this))
    newline false h this = absurd (true≢false (sym this))

    end : (b : Bool) → may_end p ≡ b → cond b (Some (line (level p))) None ≡ Some q → (may_end p ≡ true) × (q ≡ line (level p))
    end true this e = (this, let same : q ≡ line (level p) = cc in same)
    end false this e = absurd (cc)

    by : (b : Bool) → (is kind.Newline t && is_closed (inside p)) ≡ b → cond b (ends_line p) (goes p t) ≡ Some q → Turns p t q
    by true this e = let n = newline (is kind.Newline t) (inside p) this in let l = end (may_end p) refl e in breaks n.0 n.1 l.0 l.1
    by false this e = moves this (go p t q e)
