-- The openers that the predictor's states must close, over whole runs, and the numbers in its refusals and symbols.
use Rattle.std.proofs.Common.{◌≡◌, ℕ, ◌+◌, nat_lt, Bool, true, false, cond, List, [], ◌∷◌, ◌++◌, Some, None, refl, subst, sym}
use Rattle.std.proofs.lemmas.Bool.{false≢true}
use Rattle.hcl_tokens.specs.Lexemes.{Lexeme, Opener}
use Rattle.hcl_grammar.specs.declared.class.Class.{Class}
use Rattle.hcl_grammar.specs.declared.class.Class.TheVariants.{Newline, Trivia}
use Rattle.hcl_grammar.specs.declared.class.Lookahead.{Lookahead}
use Rattle.hcl_grammar.specs.declared.expected.Newlines.{Newlines}
use Rattle.hcl_grammar.specs.declared.expected.Newlines.TheVariants.{Seen, Dropped}
use Rattle.hcl_grammar.specs.declared.refusal.Refusal.{Refusal}
use Rattle.hcl_grammar.specs.declared.refusal.Refusal.TheVariants.{UnexpectedToken, UnexpectedEnd, TooDeep}
use Rattle.hcl_grammar.specs.Classes.{drops, is_trivia}
use Rattle.hcl_grammar.specs.Classes.{class_of, lookaheads_from}
use Rattle.hcl_grammar.specs.Grammar.{Symbol, directive, section_directive, Marked, ◌at◌, Action, none, nothing, reads, opens, closes, row}
use Rattle.hcl_grammar.specs.Predictor.{max_directives, Effect, on, stop, effect, row_effect, next, run}
use Rattle.hcl_grammar.specs.Verdict.{IsAccepted}
use Rattle.hcl_grammar.proofs.UnclosedLemmas.{unclosed_in, unclosed_in_all, Shift, HaveNumbers, RowMoves}
use Rattle.hcl_grammar.proofs.RowLemmas.{unclosed_in_all-append, numbers-append, shift-above, moves-row}

-- P holds of the number in a refusal, if it has one
abbrev pub Named : (ℕ → Type 0) → Refusal → Type 0
Named P (UnexpectedToken n) = P n
Named P UnexpectedEnd = Unit {0}
Named P (TooDeep n) = P n

abbrev pub EffectMoves : (ℕ → Type 0) → Effect → List Opener → Class → Type 0
EffectMoves P (on o ss) a c = Shift c a (unclosed_in_all ss) × HaveNumbers P ss
EffectMoves P (stop r) a c = Named P r

-- the numbers of the first symbol alone, and of those after it
first-number : (P : ℕ → Type 0) (s : Symbol) (m : Newlines) (ss : List Marked) → HaveNumbers P (s at m ∷ ss) → HaveNumbers P (s at m ∷ [])
first-number P (directive n) m ss h = (h.0, tt)
first-number P (section_directive e n) m ss h = (h.0, tt)
first-number P s m ss h = tt

more-numbers : (P : ℕ → Type 0) (s : Symbol) (m : Newlines) (ss : List Marked) → HaveNumbers P (s at m ∷ ss) → HaveNumbers P ss
more-numbers P (directive n) m ss h = h.1
more-numbers P (section_directive e n) m ss h = h.1
more-numbers P s m ss h = h

shift-dropped : (m : Newlines) (c : Class) (a : List Opener) → drops m c ≡ true → Shift c a a
shift-dropped Seen c a h = cc
shift-dropped Dropped Newline a h = refl
shift-dropped Dropped _ a h = absurd (false≢true h)

shift-after : (c : Class) (a : List Opener) (xs ss : List Marked) → Shift c a (unclosed_in_all xs) → Shift c (a ++ unclosed_in_all ss) (unclosed_in_all (xs ++ ss))
shift-after c a xs ss h = subst (λ l. Shift c (a ++ unclosed_in_all ss) l) (sym (unclosed_in_all-append xs ss)) (shift-above c a (unclosed_in_all xs) (unclosed_in_all ss) h)

taken-moves : (P : ℕ → Type 0) (count : ℕ) (r : Action) (a : List Opener) (ss : List Marked) (passed : Effect) (t : Lookahead) → RowMoves P r a t.class → P t.number → HaveNumbers P ss →
    EffectMoves P passed (unclosed_in_all ss) t.class → EffectMoves P (row_effect count r ss passed t) (a ++ unclosed_in_all ss) t.class
taken-moves P count none a ss passed t h p k q = p
taken-moves P count nothing a ss passed t h p k q = subst (λ l. EffectMoves P passed (l ++ unclosed_in_all ss) t.class) h q
taken-moves P count (reads xs) a ss passed t h p k q = (shift-after t.class a xs ss h.0, numbers-append P xs ss h.1 k)
taken-moves P count (opens n xs) a ss passed t h p k q = elim (nat_lt count max_directives) as (λ b. EffectMoves P (cond b (on (count + 1) (xs ++ ss)) (stop (TooDeep n))) (a ++ unclosed_in_all ss) t.class)
    [ true ↦ (shift-after t.class a xs ss h.0, numbers-append P xs ss h.1 k) | false ↦ h.2 ]
taken-moves P count (closes xs) a ss passed t h p k q = (shift-after t.class a xs ss h.0, numbers-append P xs ss h.1 k)

effect-by : (P : ℕ → Type 0) (count : ℕ) (s : Symbol) (m : Newlines) (ss : List Marked) (t : Lookahead) (b : Bool) → drops m t.class ≡ b → P t.number → HaveNumbers P (s at m ∷ ss) →
    EffectMoves P (effect count ss t) (unclosed_in_all ss) t.class → EffectMoves P (cond b (on count (s at m ∷ ss)) (row_effect count (row s m t) ss (effect count ss t) t)) (unclosed_in s ++ unclosed_in_all ss) t.class
effect-by P count s m ss t true e p h q = (shift-dropped m t.class (unclosed_in s ++ unclosed_in_all ss) e, h)
effect-by P count s m ss t false e p h q = taken-moves P count (row s m t) (unclosed_in s) ss (effect count ss t) t (moves-row P s m t.number t.class p (first-number P s m ss h)) p (more-numbers P s m ss h) q

pub effect-moves : (P : ℕ → Type 0) (count : ℕ) (ss : List Marked) (t : Lookahead) → P t.number → HaveNumbers P ss → EffectMoves P (effect count ss t) (unclosed_in_all ss) t.class
effect-moves P count [] t p h = p
effect-moves P count (s at m ∷ ss) t p h = effect-by P count s m ss t (drops m t.class) refl p h (effect-moves P count ss t p (more-numbers P s m ss h))

-- The tokens of a front turn the openers `a` into `b`.
abbrev pub Shifts : List Lexeme → List Opener → List Opener → Type 0
Shifts [] a b = a ≡ b
Shifts (t ∷ ts) a b = (mid : List Opener) × Shift (class_of t) a mid × Shifts ts mid b

shift-trivia : (c : Class) (a : List Opener) → is_trivia c ≡ true → Shift c a a
shift-trivia Trivia a h = refl
shift-trivia _ a h = absurd (false≢true h)

abbrev Fronts : List Lexeme → List Marked → Type 0
Fronts ps ss = (b : List Opener) × Shifts ps (unclosed_in_all ss) b

next-shifts : (w : Effect) (a : List Opener) (n : ℕ) (t : Lexeme) (ps qs : List Lexeme) → EffectMoves (λ i. Unit {0}) w a (class_of t) → next w (λ o rest. run o rest (lookaheads_from (n + 1) (ps ++ qs))) ≡ None →
    ((o : ℕ) (ss : List Marked) → HaveNumbers (λ i. Unit {0}) ss → run o ss (lookaheads_from (n + 1) (ps ++ qs)) ≡ None → Fronts ps ss) → (b : List Opener) × Shifts (t ∷ ps) a b
next-shifts (on o ss) a n t ps qs q e k = let w = k o ss q.1 e in (w.0, (unclosed_in_all ss, q.0, w.1))
next-shifts (stop f) a n t ps qs q e k = absurd (let h : Some f ≡ None = e in cc)

shifts-by : (count : ℕ) (ss : List Marked) (n : ℕ) (t : Lexeme) (ps qs : List Lexeme) (b : Bool) → is_trivia (class_of t) ≡ b → HaveNumbers (λ i. Unit {0}) ss →
    run count ss (cond b (lookaheads_from (n + 1) (ps ++ qs)) (record { class = class_of t; number = n } ∷ lookaheads_from (n + 1) (ps ++ qs))) ≡ None →
    ((o : ℕ) (us : List Marked) → HaveNumbers (λ i. Unit {0}) us → run o us (lookaheads_from (n + 1) (ps ++ qs)) ≡ None → Fronts ps us) → (b : List Opener) × Shifts (t ∷ ps) (unclosed_in_all ss) b
unfolding run
shifts-by count ss n t ps qs true is h e k = let w = k count ss h e in (w.0, (unclosed_in_all ss, shift-trivia (class_of t) (unclosed_in_all ss) is, w.1))
shifts-by count ss n t ps qs false is h e k = next-shifts (effect count ss (record { class = class_of t; number = n })) (unclosed_in_all ss) n t ps qs (effect-moves (λ i. Unit {0}) count ss (record { class = class_of t; number = n }) tt h) e k

run-shifts : (count : ℕ) (ss : List Marked) (n : ℕ) (ps qs : List Lexeme) → HaveNumbers (λ i. Unit {0}) ss → run count ss (lookaheads_from n (ps ++ qs)) ≡ None → Fronts ps ss
run-shifts count ss n [] qs h e = (unclosed_in_all ss, refl)
run-shifts count ss n (t ∷ ps) qs h e = shifts-by count ss n t ps qs (is_trivia (class_of t)) refl h e (λ o us q f. run-shifts o us (n + 1) ps qs q f)

pub accepted-shifts : (ps qs : List Lexeme) → IsAccepted (ps ++ qs) → (b : List Opener) × Shifts ps [] b
accepted-shifts ps qs e = run-shifts 0 _ 0 ps qs tt e
