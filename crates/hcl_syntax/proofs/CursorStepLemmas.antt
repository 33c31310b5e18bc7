-- Laws of the predictor's runs.
use Rattle.std.proofs.Common.{◌≡◌, ◌≢◌, zero, suc, subst, ℕ, ◌+◌, ◌-◌, ◌<◌, ◌≤◌, Bool, true, false, List, [], ◌∷◌, ◌++◌, Option, Some, None, Result, Ok, Err, IsErrAnd, lt-ltb, le-ltb, arith, refl, cond, sym, ap, ◌∙◌, append_assoc}
use Rattle.std.proofs.lemmas.Bool.{false≢true}
use Rattle.hcl_grammar.specs.declared.class.Lookahead.{Lookahead}
use Rattle.hcl_grammar.specs.declared.class.Class.{Class}
use Rattle.hcl_grammar.specs.declared.class.Class.TheVariants.{Newline, Ident, ParenClose, BracketClose, BraceClose, Comma, Ellipsis, Assign, Minus, Star}
use Rattle.hcl_grammar.specs.declared.expected.Terminal.TheVariants.{Name, InWord, IfWord, ForWord, Equals, Separator, FatArrow, CommaSign, Ellipses, Asterisk, EndParen, EndBracket, EndBrace, EndSequence}
use Rattle.hcl_grammar.specs.declared.refusal.Refusal.{Refusal}
use Rattle.hcl_grammar.specs.declared.refusal.Refusal.TheVariants.{UnexpectedToken, UnexpectedEnd, TooDeep}
use Rattle.hcl_grammar.specs.declared.expected.Newlines.{Newlines}
use Rattle.hcl_grammar.specs.declared.expected.Newlines.TheVariants.{Seen, Dropped}
use Rattle.hcl_grammar.specs.Classes.{drops}
use Rattle.hcl_syntax.specs.Inner.Cursors.{past_newlines, first, after_first, Looks}
use Rattle.hcl_syntax.proofs.LookaheadLemmas.{past_newlines-twice}
use Rattle.hcl_grammar.specs.declared.class.Word.{Word}
use Rattle.hcl_grammar.specs.Grammar.{Symbol, Marked, ◌at◌, Action, ◌then◌, none, nothing, reads, opens, closes, row, ends, the, fits, expr, arg_next, tuple_next, tuple_if, object, object_item, object_next, object_if, group, separator, names, rest, eol, file, body, directive, inside, args, tuple, tuple_item, index, section_directive, labels, row_of}
use Rattle.hcl_grammar.specs.Predictor.{max_directives, ending, Effect, on, stop, opening_directive, row_effect, effect, next, run}
use Rattle.hcl_syntax.specs.declared.expected.Refused.{Refused}
use Rattle.hcl_syntax.specs.Inner.Parsing.{with_refusal, effect_of_word, turning_row, outcome, Advances, bodies, Ends, pending_choices}
use Rattle.hcl_grammar.specs.declared.class.Word.TheVariants.{For, In, If, Else, Endif, Endfor}
use Rattle.hcl_grammar.specs.declared.expected.Section.{Section}
use Rattle.hcl_grammar.specs.declared.expected.Section.TheVariants.{InIf, InElse, InFor}
use Rattle.hcl_syntax.specs.declared.expected.Turning.{Turning}
use Rattle.hcl_syntax.specs.declared.expected.Turning.TheVariants.{Onward, Closing, Inner}
use Rattle.hcl_grammar.specs.declared.expected.Terminal.{Terminal}

pub run-row : (count : ℕ) (s : Symbol) (m : Newlines) (ss : List Marked) (t : Lookahead) (ts : List Lookahead) → drops m t.class ≡ false →
    run count (s at m ∷ ss) (t ∷ ts) ≡ next (row_effect count (row s m t) ss (effect count ss t) t) (λ o rest. run o rest ts)
unfolding run
run-row count s m ss t ts stays = ap (λ b. next (cond b (on count (s at m ∷ ss)) (row_effect count (row s m t) ss (effect count ss t) t)) (λ o rest. run o rest ts)) stays

-- a symbol that drops newlines skips them
past_newlines-by : (count : ℕ) (s : Symbol) (m : Newlines) (ss : List Marked) (t : Lookahead) (ts : List Lookahead) (b : Bool) → drops m t.class ≡ b →
    run count (s at m ∷ ss) ts ≡ run count (s at m ∷ ss) (past_newlines m ts) →
    run count (s at m ∷ ss) (t ∷ ts) ≡ run count (s at m ∷ ss) (cond b (past_newlines m ts) (t ∷ ts))
unfolding run
past_newlines-by count s m ss t ts true e h = ap (λ b. next (cond b (on count (s at m ∷ ss)) (row_effect count (row s m t) ss (effect count ss t) t)) (λ o rest. run o rest ts)) e ∙ h
past_newlines-by count s m ss t ts false e h = refl

pub run-past_newlines : (count : ℕ) (s : Symbol) (m : Newlines) (ss : List Marked) (ts : List Lookahead) → run count (s at m ∷ ss) ts ≡ run count (s at m ∷ ss) (past_newlines m ts)
run-past_newlines count s m ss [] = refl
run-past_newlines count s m ss (t ∷ ts) = past_newlines-by count s m ss t ts (drops m t.class) refl (run-past_newlines count s m ss ts)

-- the first symbol isn't dropped
kept-by : (m : Newlines) (u : Lookahead) (us : List Lookahead) (t : Lookahead) (b : Bool) → drops m u.class ≡ b → (Some t ≡ first (past_newlines m us) → drops m t.class ≡ false) → Some t ≡ first (cond b (past_newlines m us) (u ∷ us)) → drops m t.class ≡ false
kept-by m u us t true e h f = h f
kept-by m u us t false e h f = let same : t ≡ u = cc in ap (λ x. drops m x.class) same ∙ e

pub kept : (m : Newlines) (ts : List Lookahead) (t : Lookahead) → Some t ≡ first (past_newlines m ts) → drops m t.class ≡ false
kept m [] t e = cc
kept m (u ∷ us) t e = kept-by m u us t (drops m u.class) refl (kept m us t) e

list-first : (ts : List Lookahead) (t : Lookahead) → Some t ≡ first ts → ts ≡ t ∷ after_first ts
list-first [] t e = cc
list-first (u ∷ us) t e = cc

pub looks : (m : Newlines) (old new left : List Lookahead) (t : Lookahead) → new ≡ past_newlines m old → Some t ≡ first new → left ≡ after_first new → Looks m old t left
looks m old new left t shows found bumped =
    let f : Some t ≡ first (past_newlines m old) = cc in
    record { is = list-first (past_newlines m old) t f ∙ (cc); kept = kept m old t f }

run-looks : (count : ℕ) (s : Symbol) (m : Newlines) (ss : List Marked) {old : List Lookahead} {t : Lookahead} {ts : List Lookahead} → Looks m old t ts →
    run count (s at m ∷ ss) old ≡ next (row_effect count (row s m t) ss (effect count ss t) t) (λ o rest. run o rest ts)
run-looks count s m ss looks = run-past_newlines count s m ss _ ∙ ap (λ l. run count (s at m ∷ ss) l) looks.is ∙ run-row count s m ss _ _ looks.kept

-- The row of the first symbol reads the token.
pub reading : {A : Type 0} {count : ℕ} {s : Symbol} {m : Newlines} {xs ys : List Marked} {old left new : List Lookahead} {t : Lookahead} {r : Result A Refusal} →
    Looks m old t left → row s m t ≡ reads xs → Advances count xs left r ys new → Advances count (s at m ∷ []) old r ys new
reading {count = count} {s = s} {m = m} {left = left} {t = t} l e h = record { same = λ after. run-looks count s m after l ∙ ap (λ r. next (row_effect count r after (effect count after t) t) (λ o rest. run o rest left)) e ∙ h.same after }

-- The row takes the symbol away.
run-same : (count : ℕ) (ss : List Marked) (t : Lookahead) (ts : List Lookahead) → next (effect count ss t) (λ o rest. run o rest ts) ≡ run count ss (t ∷ ts)
unfolding run
run-same count ss t ts = refl

pub vanishing : {A : Type 0} {a : A} {count : ℕ} {s : Symbol} {m : Newlines} {old left new : List Lookahead} {t : Lookahead} →
    Looks m old t left → row s m t ≡ nothing → new ≡ past_newlines m old → Advances count (s at m ∷ []) old (Ok a) [] new
vanishing {count = count} {s = s} {m = m} {left = left} {t = t} l e shows = record { same = λ after. run-looks count s m after l ∙ ap (λ r. next (row_effect count r after (effect count after t) t) (λ o rest. run o rest left)) e ∙ run-same count after t left ∙ ap (λ ts. run count after ts) (sym l.is ∙ sym shows) }

-- There is no row.
pub refusing : {A : Type 0} {count : ℕ} {s : Symbol} {m : Newlines} {ys : List Marked} {old left new : List Lookahead} {t : Lookahead} →
    Looks m old t left → row s m t ≡ none → Advances {A = A} count (s at m ∷ []) old (Err (UnexpectedToken t.number)) ys new
refusing {count = count} {s = s} {m = m} {left = left} {t = t} l e = record { same = λ after. run-looks count s m after l ∙ ap (λ r. next (row_effect count r after (effect count after t) t) (λ o rest. run o rest left)) e }

-- The end of input.
run-end : (count : ℕ) (ss : List Marked) → run count ss [] ≡ ending ss
unfolding run
run-end count ss = refl

nothing-left : (new l : List Lookahead) → new ≡ l → None ≡ first new → [] ≡ l
nothing-left [] l e f = e
nothing-left (t ∷ ts) l e f = cc

pub refusing-end : {A : Type 0} {count : ℕ} {s : Symbol} {m : Newlines} {ys : List Marked} {old new : List Lookahead} →
    new ≡ past_newlines m old → None ≡ first new → ends s ≡ false → Advances {A = A} count (s at m ∷ []) old (Err UnexpectedEnd) ys new
refusing-end {count = count} {s = s} {m = m} {old = old} {new = new} look found e = let shows : [] ≡ past_newlines m old = nothing-left new _ look found in record { same = λ after. run-past_newlines count s m after _ ∙ ap (λ l. run count (s at m ∷ after) l) (sym shows) ∙ run-end count (s at m ∷ after) ∙ ap (λ b. cond b (ending after) (Some UnexpectedEnd)) e }

pub vanishing-end : {A : Type 0} {a : A} {count : ℕ} {s : Symbol} {m : Newlines} {old new : List Lookahead} →
    new ≡ past_newlines m old → None ≡ first new → ends s ≡ true → Advances count (s at m ∷ []) old (Ok a) [] new
vanishing-end {count = count} {s = s} {m = m} {old = old} {new = new} look found e = let shows : [] ≡ past_newlines m old = nothing-left new _ look found in record { same = λ after. run-past_newlines count s m after _ ∙ ap (λ l. run count (s at m ∷ after) l) (sym shows) ∙ run-end count (s at m ∷ after) ∙ ap (λ b. cond b (ending after) (Some UnexpectedEnd)) e ∙ sym (run-end count after) ∙ ap (λ l. run count after l) (shows ∙ sym look) }

pub done : {A : Type 0} {a : A} {count : ℕ} {xs : List Marked} {old : List Lookahead} → Advances count xs old (Ok a) xs old
done = record { same = λ after. refl }

-- Two stretches.
pub onward : {A B : Type 0} {a : A} {count : ℕ} {xs ys zs : List Marked} {old mid new : List Lookahead} {r : Result B Refusal} →
    Advances count xs old (Ok a) ys mid → Advances count ys mid r zs new → Advances count xs old r zs new
onward h k = record { same = λ after. h.same after ∙ k.same after }

-- The two stretches with more after them.
pub beside : {A : Type 0} {count : ℕ} {xs ys : List Marked} {old new : List Lookahead} {r : Result A Refusal} (zs : List Marked) →
    Advances count xs old r ys new → Advances count (xs ++ zs) old r (ys ++ zs) new
beside {count = count} {xs = xs} {ys = ys} {old = old} {new = new} {r = r} zs h = record { same = λ after. ap (λ l. run count l old) (append_assoc xs zs after) ∙ h.same (zs ++ after) ∙ ap (λ l. outcome r (run count l new)) (sym (append_assoc ys zs after)) }

-- Newlines are skipped.
pub dropping : {A : Type 0} {a : A} {count : ℕ} {s : Symbol} {m : Newlines} {xs : List Marked} {old new : List Lookahead} → new ≡ past_newlines m old → Advances count (s at m ∷ xs) old (Ok a) (s at m ∷ xs) new
dropping {count = count} {s = s} {m = m} {xs = xs} shows = record { same = λ after. run-past_newlines count s m (xs ++ after) _ ∙ ap (λ l. run count (s at m ∷ (xs ++ after)) l) (sym shows) }

-- After a fault neither the remaining tokens nor the value that would have been returned matter.
pub failed : {A B : Type 0} {count : ℕ} {xs ys zs : List Marked} {old mid new : List Lookahead} {f : Refusal} → Advances {A = A} count xs old (Err f) ys mid → Advances {A = B} count xs old (Err f) zs new
failed h = record { same = h.same }

-- The exit of a `?`.
pub quits : {A B : Type 0} {count : ℕ} {xs ys zs : List Marked} {old mid new : List Lookahead} {f : Refusal} {w : Refused} (r : Result B Refused) → IsErrAnd r (λ e. e ≡ w) → Advances {A = A} count xs old (Err f) ys mid → Advances {A = B} count xs old (with_refusal r f) zs new
quits (Ok b) q h = absurd q
quits (Err e) q h = record { same = h.same }

-- The exit with a refusal that the cursor keeps.
pub kept-refusal : {A : Type 0} {count : ℕ} {xs ys : List Marked} {old new : List Lookahead} {f g : Refusal} → g ≡ f → Advances {A = A} count xs old (Err f) ys new → Advances {A = A} count xs old (Err g) ys new
kept-refusal e h = record { same = λ after. h.same after ∙ ap (λ x. Some x) (sym e) }

-- the exit with a refusal, with no token left
pub kept-refusal-end : {A : Type 0} {count : ℕ} {xs ys : List Marked} {old mid new : List Lookahead} {f g : Refusal} → g ≡ f → Advances {A = A} count xs old (Err f) ys mid → Advances {A = A} count xs old (Err g) ys new
kept-refusal-end e h = record { same = λ after. h.same after ∙ ap (λ x. Some x) (sym e) }

pub row-fits : (e : Terminal) (m : Newlines) (t : Lookahead) (b : Bool) → b ≡ fits e t.class → b ≡ true → row (the e) m t ≡ reads []
row-fits e m t b f h = ap (λ b. cond b (reads []) none) (sym f ∙ h)

pub row-unfit : (e : Terminal) (m : Newlines) (t : Lookahead) (b : Bool) → b ≡ fits e t.class → b ≡ false → row (the e) m t ≡ none
row-unfit e m t b f h = ap (λ b. cond b (reads []) none) (sym f ∙ h)

-- whether a row takes its symbol away and leaves the token
abbrev vanishes : Action → Bool
vanishes nothing = true
vanishes _ = false

pub expr-stays : (m : Newlines) (t : Lookahead) → vanishes (row expr m t) ≡ false
expr-stays m t = expr-stays-at m t.class
  where
    expr-stays-at : (m : Newlines) (k : Class) → vanishes (row_of expr m 0 k) ≡ false
    expr-stays-at m Minus = refl
    expr-stays-at m _ = refl

pub the-stays : (e : Terminal) (m : Newlines) (t : Lookahead) → vanishes (row (the e) m t) ≡ false
the-stays e m t = elim (fits e t.class) as (λ b. vanishes (cond b (reads []) none) ≡ false) [ true ↦ refl | false ↦ refl ]

pub directive-stays : (p : ℕ) (m : Newlines) (t : Lookahead) → vanishes (row (directive p) m t) ≡ false
directive-stays p m t = directive-stays-at p m t.class
  where
    directive-stays-at : (p : ℕ) (m : Newlines) (k : Class) → vanishes (row_of (directive p) m 0 k) ≡ false
    directive-stays-at p m (Ident If) = refl
    directive-stays-at p m (Ident For) = refl
    directive-stays-at p m _ = refl

taken-then : (count : ℕ) (r : Action) (ys after : List Marked) (p q : Effect) (t : Lookahead) → vanishes r ≡ false → row_effect count (r then ys) after p t ≡ row_effect count r (ys ++ after) q t
taken-then count none ys after p q t h = refl
taken-then count nothing ys after p q t h = cc
taken-then count (reads xs) ys after p q t h = ap (λ l. on count l) (append_assoc xs ys after)
taken-then count (opens n xs) ys after p q t h = ap (λ l. opening_directive count n l) (append_assoc xs ys after)
taken-then count (closes xs) ys after p q t h = ap (λ l. on (count - 1) l) (append_assoc xs ys after)

-- A symbol that another one begins.
begins-at : (count : ℕ) (s s' : Symbol) (m : Newlines) (ys after : List Marked) (old mid : List Lookahead) → ends s ≡ false → ends s' ≡ false → ((t : Lookahead) → vanishes (row s' m t) ≡ false) →
    ((t : Lookahead) → Some t ≡ first mid → row s m t ≡ (row s' m t then ys)) → mid ≡ past_newlines m old → run count (s at m ∷ after) old ≡ run count (s' at m ∷ (ys ++ after)) mid
unfolding run
begins-at count s s' m ys after old [] e e' v f shows = run-past_newlines count s m after old ∙ ap (λ l. run count (s at m ∷ after) l) (sym shows) ∙ ap (λ b. cond b (ending after) (Some UnexpectedEnd)) e ∙ sym (ap (λ b. cond b (ending (ys ++ after)) (Some UnexpectedEnd)) e')
begins-at count s s' m ys after old (t ∷ ts) e e' v f shows =
    let l : Looks m old t ts = looks m old (t ∷ ts) ts t shows refl refl in
    run-looks count s m after l ∙ ap (λ r. next (row_effect count r after (effect count after t) t) (λ o rest. run o rest ts)) (f t refl)
    ∙ ap (λ x. next x (λ o rest. run o rest ts)) (taken-then count (row s' m t) ys after (effect count after t) (effect count (ys ++ after) t) t (v t))
    ∙ sym (run-row count s' m (ys ++ after) t ts l.kept)

pub begins : {A : Type 0} {count : ℕ} {s s' : Symbol} {m : Newlines} {ys zs : List Marked} {old mid new : List Lookahead} {r : Result A Refusal} → ends s ≡ false → ends s' ≡ false → ((t : Lookahead) → vanishes (row s' m t) ≡ false) →
    ((t : Lookahead) → Some t ≡ first mid → row s m t ≡ (row s' m t then ys)) → mid ≡ past_newlines m old → Advances count (s' at m ∷ ys) mid r zs new → Advances count (s at m ∷ []) old r zs new
begins {count = count} {s = s} {s' = s'} {m = m} {ys = ys} {old = old} {mid = mid} e e' v f shows h = record { same = λ after. begins-at count s s' m ys after old mid e e' v f shows ∙ h.same after }

-- A symbol that is another name for one.
alike-at : (count : ℕ) (s s' : Symbol) (m : Newlines) (after : List Marked) (old mid : List Lookahead) → ends s ≡ ends s' →
    ((t : Lookahead) → Some t ≡ first mid → row s m t ≡ row s' m t) → mid ≡ past_newlines m old → run count (s at m ∷ after) old ≡ run count (s' at m ∷ after) mid
unfolding run
alike-at count s s' m after old [] e f shows = run-past_newlines count s m after old ∙ ap (λ l. run count (s at m ∷ after) l) (sym shows) ∙ ap (λ b. cond b (ending after) (Some UnexpectedEnd)) e
alike-at count s s' m after old (t ∷ ts) e f shows =
    let l : Looks m old t ts = looks m old (t ∷ ts) ts t shows refl refl in
    run-looks count s m after l ∙ ap (λ r. next (row_effect count r after (effect count after t) t) (λ o rest. run o rest ts)) (f t refl)
    ∙ sym (run-row count s' m after t ts l.kept)

pub alike : {A : Type 0} {a : A} {count : ℕ} {s s' : Symbol} {m : Newlines} {old mid : List Lookahead} → ends s ≡ ends s' →
    ((t : Lookahead) → Some t ≡ first mid → row s m t ≡ row s' m t) → mid ≡ past_newlines m old → Advances count (s at m ∷ []) old (Ok a) (s' at m ∷ []) mid
alike {count = count} {s = s} {s' = s'} {m = m} {old = old} {mid = mid} e f shows = record { same = λ after. alike-at count s s' m after old mid e f shows }

-- A read terminal. Only rows of templates depend on the number of a token, so the others are named at 0.
pub args-end : (m : Newlines) (k : Class) → fits EndParen k ≡ true → row_of args m 0 k ≡ reads []
args-end m ParenClose h = refl
args-end m _ h = absurd (false≢true h)

pub args-else : (m : Newlines) (k : Class) → fits EndParen k ≡ false → row_of args m 0 k ≡ (row_of expr m 0 k then (arg_next at m ∷ []))
args-else m ParenClose h = cc
args-else m _ h = refl

pub tuple-end : (m : Newlines) (k : Class) → fits EndBracket k ≡ true → row_of tuple_item m 0 k ≡ reads []
tuple-end m BracketClose h = refl
tuple-end m _ h = absurd (false≢true h)

pub tuple-else : (m : Newlines) (k : Class) → fits EndBracket k ≡ false → row_of tuple_item m 0 k ≡ (row_of expr m 0 k then (tuple_next at m ∷ []))
tuple-else m BracketClose h = cc
tuple-else m _ h = refl

pub index-star : (m : Newlines) (k : Class) → fits Asterisk k ≡ true → row_of index m 0 k ≡ reads (the EndBracket at m ∷ [])
index-star m Star h = refl
index-star m _ h = absurd (false≢true h)

pub index-else : (m : Newlines) (k : Class) → fits Asterisk k ≡ false → row_of index m 0 k ≡ (row_of expr m 0 k then (the EndBracket at m ∷ []))
index-else m Star h = cc
index-else m _ h = refl

pub pending_choices-down : (m : Newlines) (n : ℕ) → n ≢ 0 → pending_choices m n [] ≡ the Separator at m ∷ expr at m ∷ pending_choices m (n - 1) []
pending_choices-down m zero h = absurd (h refl)
pending_choices-down m (suc n) h = let e : suc n - 1 ≡ n = omega arith in ap (λ k. the Separator at m ∷ expr at m ∷ pending_choices m k []) (sym e)

-- from equal symbols
pub renamed : {A : Type 0} {count : ℕ} {xs ys zs : List Marked} {old new : List Lookahead} {r : Result A Refusal} → ys ≡ zs → Advances count xs old r ys new → Advances count xs old r zs new
renamed {count = count} {xs = xs} {old = old} {new = new} {r = r} e h = subst (λ l. Advances count xs old r l new) e h

pub names-in : (m : Newlines) (k : Class) → fits InWord k ≡ true → row_of names m 0 k ≡ reads []
names-in m (Ident In) h = refl
names-in m Comma h = cc
names-in m _ h = absurd (false≢true h)

pub names-else : (m : Newlines) (k : Class) → fits InWord k ≡ false → row_of names m 0 k ≡ (row_of (the CommaSign) m 0 k then (the Name at m ∷ the InWord at m ∷ []))
names-else m (Ident In) h = cc
names-else m Comma h = refl
names-else m _ h = refl

-- A directive opens and ends.
pub opening-row : {A : Type 0} {count : ℕ} {s : Symbol} {m : Newlines} {p : ℕ} {xs : List Marked} {old left new : List Lookahead} {t : Lookahead} {r : Result A Refusal} →
    Looks m old t left → row s m t ≡ opens p xs → count < max_directives → Ends count xs left r new → Advances count (s at m ∷ []) old r [] new
opening-row {count = count} {s = s} {m = m} {p = p} {xs = xs} {left = left} {t = t} l e few h = record {
  same = λ after. run-looks count s m after l ∙ ap (λ r. next (row_effect count r after (effect count after t) t) (λ o rest. run o rest left)) e
      ∙ ap (λ b. next (cond b (on (count + 1) (xs ++ after)) (stop (TooDeep p))) (λ o rest. run o rest left)) (lt-ltb count max_directives few) ∙ h.same after;
}

pub too-deep : {A : Type 0} {count : ℕ} {s : Symbol} {m : Newlines} {p : ℕ} {xs ys : List Marked} {old left new : List Lookahead} {t : Lookahead} →
    Looks m old t left → row s m t ≡ opens p xs → max_directives ≤ count → Advances {A = A} count (s at m ∷ []) old (Err (TooDeep p)) ys new
too-deep {count = count} {s = s} {m = m} {p = p} {xs = xs} {left = left} {t = t} l e many = record {
  same = λ after. run-looks count s m after l ∙ ap (λ r. next (row_effect count r after (effect count after t) t) (λ o rest. run o rest left)) e
      ∙ ap (λ b. next (cond b (on (count + 1) (xs ++ after)) (stop (TooDeep p))) (λ o rest. run o rest left)) (le-ltb count max_directives many);
}

pub closing : {A : Type 0} {count : ℕ} {s : Symbol} {m : Newlines} {xs : List Marked} {old left new : List Lookahead} {t : Lookahead} {r : Result A Refusal} →
    Looks m old t left → row s m t ≡ closes xs → Advances count xs left r [] new → Ends count (s at m ∷ []) old r new
closing {count = count} {s = s} {m = m} {xs = xs} {left = left} {t = t} l e h = record {
  same = λ after. run-looks (count + 1) s m after l ∙ ap (λ r. next (row_effect (count + 1) r after (effect (count + 1) after t) t) (λ o rest. run o rest left)) e
      ∙ ap (λ n. run n (xs ++ after) left) (omega arith) ∙ h.same after;
}

pub end-onward : {A B : Type 0} {a : A} {count : ℕ} {xs ys : List Marked} {old mid new : List Lookahead} {r : Result B Refusal} →
    Advances (count + 1) xs old (Ok a) ys mid → Ends count ys mid r new → Ends count xs old r new
end-onward h k = record { same = λ after. h.same after ∙ k.same after }

pub end-fails : {A B : Type 0} {count : ℕ} {xs ys : List Marked} {old mid new : List Lookahead} {f : Refusal} →
    Advances {A = A} (count + 1) xs old (Err f) ys mid → Ends {A = B} count xs old (Err f) new
end-fails h = record { same = h.same }

pub end-quits : {A B : Type 0} {count : ℕ} {xs ys : List Marked} {old mid new : List Lookahead} {f : Refusal} {w : Refused} (r : Result B Refused) → IsErrAnd r (λ e. e ≡ w) → Advances {A = A} (count + 1) xs old (Err f) ys mid → Ends {A = B} count xs old (with_refusal r f) new
end-quits (Ok b) q h = absurd q
end-quits (Err e) q h = record { same = h.same }

pub end-kept-refusal : {A : Type 0} {count : ℕ} {xs : List Marked} {old new : List Lookahead} {f g : Refusal} → g ≡ f → Ends {A = A} count xs old (Err f) new → Ends {A = A} count xs old (Err g) new
end-kept-refusal e h = record { same = λ after. h.same after ∙ ap (λ x. Some x) (sym e) }

-- the row by the effect of the word
by-effect_of_word : (e : Section) (m : Newlines) (p n : ℕ) (k : Class) → row_of (section_directive e p) m n k ≡ turning_row (effect_of_word e k) e m p n k
by-effect_of_word InIf m p n (Ident Else) = refl
by-effect_of_word InIf m p n (Ident Endif) = refl
by-effect_of_word InElse m p n (Ident Endif) = refl
by-effect_of_word InFor m p n (Ident Endfor) = refl
by-effect_of_word e m p n k = refl

pub effect_of_word-onward : (e : Section) (m : Newlines) (p n : ℕ) (k : Class) (w : Turning) → w ≡ effect_of_word e k → w ≡ Onward → row_of (section_directive e p) m n k ≡ reads (the EndSequence at m ∷ inside InElse at m ∷ [])
effect_of_word-onward e m p n k w h i = by-effect_of_word e m p n k ∙ ap (λ x. turning_row x e m p n k) (sym h ∙ i)

pub effect_of_word-closing : (e : Section) (m : Newlines) (p n : ℕ) (k : Class) (w : Turning) → w ≡ effect_of_word e k → w ≡ Closing → row_of (section_directive e p) m n k ≡ closes (the EndSequence at m ∷ [])
effect_of_word-closing e m p n k w h i = by-effect_of_word e m p n k ∙ ap (λ x. turning_row x e m p n k) (sym h ∙ i)

pub effect_of_word-inner : (e : Section) (m : Newlines) (p n : ℕ) (k : Class) (w : Turning) → w ≡ effect_of_word e k → w ≡ Inner → row_of (section_directive e p) m n k ≡ (row_of (directive p) m n k then (inside e at m ∷ []))
effect_of_word-inner e m p n k w h i = by-effect_of_word e m p n k ∙ ap (λ x. turning_row x e m p n k) (sym h ∙ i)

pub no-token : (o : Option Lookahead) (t : Lookahead) → None ≡ o → Some t ≡ o → ⊥
no-token o t e f = cc

pub same-token : (o : Option Lookahead) (t u : Lookahead) → Some t ≡ o → Some u ≡ o → t ≡ u
same-token o t u e f = cc

pub rest-equals : (m : Newlines) (k : Class) → fits Equals k ≡ true → row_of rest m 0 k ≡ reads (expr at Seen ∷ eol at m ∷ [])
rest-equals m Assign h = refl
rest-equals m _ h = absurd (false≢true h)

pub rest-else : (m : Newlines) (k : Class) → fits Equals k ≡ false → row_of rest m 0 k ≡ row_of labels m 0 k
rest-else m Assign h = cc
rest-else m _ h = refl

pub bodies-newline : {A : Type 0} {a : A} (n : ℕ) {old left : List Lookahead} {t : Lookahead} → Looks Seen old t left → t.class ≡ Newline → Advances 0 (bodies n) old (Ok a) (bodies n) left
bodies-newline zero l e = reading l (ap (row_of file Seen 0) e) done
bodies-newline (suc n) l e = beside (the EndBrace at Seen ∷ eol at Seen ∷ bodies n) (reading l (ap (row_of body Seen 0) e) done)

pub bodies-item : {A : Type 0} {a : A} (n : ℕ) (w : Word) {old left : List Lookahead} {t : Lookahead} → Looks Seen old t left → t.class ≡ Ident w → Advances 0 (bodies n) old (Ok a) (rest at Seen ∷ bodies n) left
bodies-item zero w l e = reading l (ap (row_of file Seen 0) e) done
bodies-item (suc n) w l e = beside (the EndBrace at Seen ∷ eol at Seen ∷ bodies n) (reading {xs = rest at Seen ∷ body at Seen ∷ []} l (ap (row_of body Seen 0) e) done)

pub bodies-refuse : {A : Type 0} (n : ℕ) {ys : List Marked} {old left new : List Lookahead} {t : Lookahead} → Looks Seen old t left → row file Seen t ≡ none → row body Seen t ≡ none → Advances {A = A} 0 (bodies n) old (Err (UnexpectedToken t.number)) ys new
bodies-refuse zero l e f = refusing l e
bodies-refuse {A = A} (suc n) {new = new} l e f = failed (beside (the EndBrace at Seen ∷ eol at Seen ∷ bodies n) (refusing {A = A} {s = body} {ys = []} {new = new} l f))

pub bodies-close : {A : Type 0} {a : A} (n : ℕ) {old left : List Lookahead} {t : Lookahead} → n ≢ 0 → Looks Seen old t left → t.class ≡ BraceClose → Advances 0 (bodies n) old (Ok a) (eol at Seen ∷ bodies (n - 1)) left
bodies-close zero h l e = absurd (h refl)
bodies-close {A = A} {a = a} (suc n) {old = old} {left = left} {t = t} h l e =
    let back : suc n - 1 ≡ n = omega arith in
    renamed (ap (λ k. eol at Seen ∷ bodies k) (sym back))
    (onward (beside (the EndBrace at Seen ∷ eol at Seen ∷ bodies n) (vanishing {a = a} {new = past_newlines Seen old} l (ap (row_of body Seen 0) e) refl))
    (beside (eol at Seen ∷ bodies n) (reading {xs = []} (again l) (ap (row_of (the EndBrace) Seen 0) e) done)))
  where
    again : {old : List Lookahead} {t : Lookahead} {ts : List Lookahead} → Looks Seen old t ts → Looks Seen (past_newlines Seen old) t ts
    again {old = old} l = record { is = sym (past_newlines-twice Seen old) ∙ l.is; kept = l.kept }

pub bodies-end : {A : Type 0} (n : ℕ) {ys : List Marked} {old new : List Lookahead} → n ≢ 0 → new ≡ past_newlines Seen old → None ≡ first new → Advances {A = A} 0 (bodies n) old (Err UnexpectedEnd) ys new
bodies-end zero h s f = absurd (h refl)
bodies-end {A = A} (suc n) {new = new} h s f = failed (beside (the EndBrace at Seen ∷ eol at Seen ∷ bodies n) (refusing-end {A = A} {s = body} {ys = []} {new = new} s f refl))

pub bodies-done : {A : Type 0} {a : A} (n : ℕ) {old new : List Lookahead} → n ≡ 0 → new ≡ past_newlines Seen old → None ≡ first new → Advances 0 (bodies n) old (Ok a) [] new
bodies-done zero h s f = vanishing-end s f refl
bodies-done (suc n) h s f = cc

-- a whole file's answer
pub whole-fault : {A : Type 0} {f : Refusal} {old new : List Lookahead} {ys : List Marked} → Advances {A = A} 0 (file at Seen ∷ []) old (Err f) ys new → run 0 (file at Seen ∷ []) old ≡ Some f
whole-fault h = h.same []

no-first : (l : List Lookahead) → None ≡ first l → l ≡ []
no-first [] e = refl
no-first (t ∷ ts) e = cc

pub whole : {A : Type 0} {a : A} {old new : List Lookahead} → Advances 0 (file at Seen ∷ []) old (Ok a) [] new → None ≡ first new → run 0 (file at Seen ∷ []) old ≡ None
whole {new = new} h e = h.same [] ∙ ap (λ l. run 0 [] l) (no-first new e) ∙ run-end 0 []

pub refuse-close : {A : Type 0} (n : ℕ) {ys : List Marked} {old left new : List Lookahead} {t : Lookahead} → n ≡ 0 → Looks Seen old t left → t.class ≡ BraceClose → Advances {A = A} 0 (bodies n) old (Err (UnexpectedToken t.number)) ys new
refuse-close zero h l e = refusing l (ap (row_of file Seen 0) e)
refuse-close (suc n) h l e = cc

pub whole-quits : {A B : Type 0} {f : Refusal} {w : Refused} {old new : List Lookahead} {ys : List Marked} (r : Result B Refused) → IsErrAnd r (λ e. e ≡ w) → Advances {A = A} 0 (file at Seen ∷ []) old (Err f) ys new → run 0 (file at Seen ∷ []) old ≡ outcome (with_refusal r f) None
whole-quits (Ok b) q h = absurd q
whole-quits (Err e) q h = h.same []

pub bodies-up : (n : ℕ) → bodies (suc n) ≡ bodies (n + 1)
bodies-up n = let e : suc n ≡ n + 1 = omega arith in ap (λ k. bodies k) e

-- For-expressions, and their conditions.
pub tuple-for : (m : Newlines) (c : Class) → fits ForWord c ≡ true → row_of tuple m 0 c ≡ reads (the Name at m ∷ names at m ∷ expr at m ∷ the Separator at m ∷ expr at m ∷ tuple_if at m ∷ [])
tuple-for m (Ident For) h = refl
tuple-for m _ h = absurd (false≢true h)

pub tuple-listed : (m : Newlines) (c : Class) → fits ForWord c ≡ false → row_of tuple m 0 c ≡ row_of tuple_item m 0 c
tuple-listed m (Ident For) h = cc
tuple-listed m BracketClose h = refl
tuple-listed m _ h = refl

pub tuple-if : (m : Newlines) (c : Class) → fits IfWord c ≡ true → row_of tuple_if m 0 c ≡ reads (expr at m ∷ the EndBracket at m ∷ [])
tuple-if m (Ident If) h = refl
tuple-if m _ h = absurd (false≢true h)

pub tuple-plain : (m : Newlines) (c : Class) → fits IfWord c ≡ false → row_of tuple_if m 0 c ≡ row_of (the EndBracket) m 0 c
tuple-plain m (Ident If) h = cc
tuple-plain m BracketClose h = refl
tuple-plain m _ h = refl

pub object-if : (m : Newlines) (c : Class) → fits IfWord c ≡ true → row_of object_if m 0 c ≡ reads (expr at m ∷ the EndBrace at m ∷ [])
object-if m (Ident If) h = refl
object-if m _ h = absurd (false≢true h)

pub object-plain : (m : Newlines) (c : Class) → fits IfWord c ≡ false → row_of object_if m 0 c ≡ row_of (the EndBrace) m 0 c
object-plain m (Ident If) h = cc
object-plain m BraceClose h = refl
object-plain m _ h = refl

pub group-dots : (m : Newlines) (c : Class) → fits Ellipses c ≡ true → row_of group m 0 c ≡ reads (object_if at m ∷ [])
group-dots m Ellipsis h = refl
group-dots m _ h = absurd (false≢true h)

pub group-plain : (m : Newlines) (c : Class) → fits Ellipses c ≡ false → row_of group m 0 c ≡ row_of object_if m 0 c
group-plain m Ellipsis h = cc
group-plain m _ h = refl

-- Objects: a symbol that reads newlines and stays skips them.
abbrev PassesNewlines : Symbol → Type 0
PassesNewlines s = (t : Lookahead) → drops Dropped t.class ≡ true → row s Seen t ≡ reads (s at Seen ∷ [])

pub object-passes : PassesNewlines object
object-passes t e = object-passes-at t.class e
  where
    object-passes-at : (c : Class) → drops Dropped c ≡ true → row_of object Seen 0 c ≡ reads (object at Seen ∷ [])
    object-passes-at Newline h = refl
    object-passes-at _ h = absurd (false≢true h)

pub item-passes : PassesNewlines object_item
item-passes t e = item-passes-at t.class e
  where
    item-passes-at : (c : Class) → drops Dropped c ≡ true → row_of object_item Seen 0 c ≡ reads (object_item at Seen ∷ [])
    item-passes-at Newline h = refl
    item-passes-at _ h = absurd (false≢true h)

passes-by : (count : ℕ) (s : Symbol) (ss : List Marked) (t : Lookahead) (ts : List Lookahead) (b : Bool) → drops Dropped t.class ≡ b → PassesNewlines s →
    run count (s at Seen ∷ ss) ts ≡ run count (s at Seen ∷ ss) (past_newlines Dropped ts) →
    run count (s at Seen ∷ ss) (t ∷ ts) ≡ run count (s at Seen ∷ ss) (cond b (past_newlines Dropped ts) (t ∷ ts))
passes-by count s ss t ts true e p h = run-row count s Seen ss t ts refl ∙ ap (λ r. next (row_effect count r ss (effect count ss t) t) (λ o rest. run o rest ts)) (p t e) ∙ h
passes-by count s ss t ts false e p h = refl

passes : (count : ℕ) (s : Symbol) (ss : List Marked) (ts : List Lookahead) → PassesNewlines s → run count (s at Seen ∷ ss) ts ≡ run count (s at Seen ∷ ss) (past_newlines Dropped ts)
passes count s ss [] p = refl
passes count s ss (t ∷ ts) p = passes-by count s ss t ts (drops Dropped t.class) refl p (passes count s ss ts p)

pub passing : {A : Type 0} {a : A} {count : ℕ} {s : Symbol} {xs : List Marked} (old : List Lookahead) → PassesNewlines s → Advances count (s at Seen ∷ xs) old (Ok a) (s at Seen ∷ xs) (past_newlines Dropped old)
passing {count = count} {s = s} {xs = xs} old p = record { same = λ after. passes count s (xs ++ after) old p }

-- if everything is shown, the rest stays as it was
seen-all : (l : List Lookahead) → past_newlines Seen l ≡ l
seen-all [] = refl
seen-all (t ∷ ts) = refl

looks-past : {old left : List Lookahead} {t : Lookahead} → Looks Dropped old t left → Looks Seen (past_newlines Dropped old) t left
looks-past {old = old} l = record { is = seen-all (past_newlines Dropped old) ∙ l.is; kept = refl }

pub object-for : (m : Newlines) (c : Class) → fits ForWord c ≡ true → row_of object m 0 c ≡ reads (the Name at Dropped ∷ names at Dropped ∷ expr at Dropped ∷ the Separator at Dropped ∷ expr at Dropped ∷ the FatArrow at Dropped ∷ expr at Dropped ∷ group at Dropped ∷ [])
object-for m (Ident For) h = refl
object-for m _ h = absurd (false≢true h)

pub object-listed : (m : Newlines) (c : Class) → fits ForWord c ≡ false → drops Dropped c ≡ false → row_of object m 0 c ≡ row_of object_item m 0 c
object-listed m (Ident For) h k = cc
object-listed m Newline h k = cc
object-listed m BraceClose h k = refl
object-listed m _ h k = refl

pub item-end : (m : Newlines) (c : Class) → fits EndBrace c ≡ true → row_of object_item m 0 c ≡ reads []
item-end m BraceClose h = refl
item-end m _ h = absurd (false≢true h)

pub item-else : (m : Newlines) (c : Class) → fits EndBrace c ≡ false → drops Dropped c ≡ false → row_of object_item m 0 c ≡ (row_of expr m 0 c then (separator at m ∷ expr at m ∷ object_next at m ∷ []))
item-else m BraceClose h k = cc
item-else m Newline h k = cc
item-else m _ h k = refl

pub past-reading : {A : Type 0} {count : ℕ} {s : Symbol} {xs ys : List Marked} {old left new : List Lookahead} {t : Lookahead} {r : Result A Refusal} →
    PassesNewlines s → Looks Dropped old t left → row s Seen t ≡ reads xs → Advances count xs left r ys new → Advances count (s at Seen ∷ []) old r ys new
past-reading {old = old} p l e h = onward (passing {a = tt {0}} old p) (reading (looks-past l) e h)

seen-first : (old new : List Lookahead) → new ≡ past_newlines Dropped old → new ≡ past_newlines Seen (past_newlines Dropped old)
seen-first old new e = e ∙ sym (seen-all (past_newlines Dropped old))

not-newline : (old new : List Lookahead) (t : Lookahead) → new ≡ past_newlines Dropped old → Some t ≡ first new → drops Dropped t.class ≡ false
not-newline old new t e f = kept Dropped old t (f ∙ ap first e)

pub past-alike : {A : Type 0} {a : A} {count : ℕ} {s s' : Symbol} {old mid : List Lookahead} → PassesNewlines s → ends s ≡ ends s' →
    ((t : Lookahead) → Some t ≡ first mid → drops Dropped t.class ≡ false → row s Seen t ≡ row s' Seen t) → mid ≡ past_newlines Dropped old → Advances count (s at Seen ∷ []) old (Ok a) (s' at Seen ∷ []) mid
past-alike {old = old} {mid = mid} p e f shows = onward (passing {a = tt {0}} old p) (alike e (λ t g. f t g (not-newline old mid t shows g)) (seen-first old mid shows))

pub past-begins : {A : Type 0} {count : ℕ} {s : Symbol} {ys zs : List Marked} {old mid new : List Lookahead} {r : Result A Refusal} → PassesNewlines s → ends s ≡ false →
    ((t : Lookahead) → Some t ≡ first mid → drops Dropped t.class ≡ false → row s Seen t ≡ (row expr Seen t then ys)) → mid ≡ past_newlines Dropped old → Advances count (expr at Seen ∷ ys) mid r zs new → Advances count (s at Seen ∷ []) old r zs new
past-begins {old = old} {mid = mid} p e f shows h = onward (passing {a = tt {0}} old p) (begins {s' = expr} e refl (expr-stays Seen) (λ t g. f t g (not-newline old mid t shows g)) (seen-first old mid shows) h)
