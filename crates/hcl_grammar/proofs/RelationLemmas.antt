-- The relation and the function agree.
use Rattle.std.proofs.Common.{◌≡◌, ◌⊎◌, inl, inr, ℕ, ◌+◌, ◌-◌, ◌<◌, ◌≤◌, Bool, true, false, cond, List, [], ◌∷◌, ◌++◌, Option, Some, None, lt-ltb, le-ltb, refl, sym, subst, ap, ◌∙◌}
use Rattle.std.proofs.lemmas.Bool.{cases_lt}
use Rattle.hcl_grammar.specs.declared.class.Lookahead.{Lookahead}
use Rattle.hcl_grammar.specs.declared.expected.Newlines.{Newlines}
use Rattle.hcl_grammar.specs.declared.refusal.Refusal.{Refusal}
use Rattle.hcl_grammar.specs.declared.refusal.Refusal.TheVariants.{UnexpectedToken, UnexpectedEnd, TooDeep}
use Rattle.hcl_grammar.specs.Classes.{drops}
use Rattle.hcl_grammar.specs.Grammar.{Symbol, Marked, ◌at◌, Action, none, nothing, reads, opens, closes, row, ends}
use Rattle.hcl_grammar.specs.Predictor.{max_directives, ending, on, stop, opening_directive, row_effect, effect, next, run}
use Rattle.hcl_grammar.specs.Relation.{Step, dropped, read, opened, closed, gone, Refuses, nothing_waited_for, no_row, too_deep, past, Ending, complete, wanting, ended, ComesTo, at_end, step, refused}

effect-row : (count : ℕ) (s : Symbol) (m : Newlines) (ss : List Marked) (t : Lookahead) (r : Action) → drops m t.class ≡ false → row s m t ≡ r → effect count (s at m ∷ ss) t ≡ row_effect count r ss (effect count ss t) t
effect-row count s m ss t r d e = ap (λ b. cond b (on count (s at m ∷ ss)) (row_effect count (row s m t) ss (effect count ss t) t)) d ∙ ap (λ x. row_effect count x ss (effect count ss t) t) e

opener_count-on : (count n : ℕ) (xs : List Marked) → count < max_directives → opening_directive count n xs ≡ on (count + 1) xs
opener_count-on count n xs few = ap (λ b. cond b (on (count + 1) xs) (stop (TooDeep n))) (lt-ltb count max_directives few)

opener_count-stop : (count n : ℕ) (xs : List Marked) → max_directives ≤ count → opening_directive count n xs ≡ stop (TooDeep n)
opener_count-stop count n xs many = ap (λ b. cond b (on (count + 1) xs) (stop (TooDeep n))) (le-ltb count max_directives many)

step-effect : (count : ℕ) (ss : List Marked) (t : Lookahead) (later : ℕ) (us : List Marked) → Step count ss t later us → effect count ss t ≡ on later us
step-effect count ss t later us (dropped c s m vs u d) = ap (λ b. cond b (on c (s at m ∷ vs)) (row_effect c (row s m u) vs (effect c vs u) u)) d
step-effect count ss t later us (read c s m xs vs u d e) = effect-row c s m vs u (reads xs) d e
step-effect count ss t later us (opened c n s m xs vs u d e few) = effect-row c s m vs u (opens n xs) d e ∙ opener_count-on c n (xs ++ vs) few
step-effect count ss t later us (closed c s m xs vs u d e) = effect-row c s m vs u (closes xs) d e
step-effect count ss t later us (gone c s m vs u l ws d e h) = effect-row c s m vs u nothing d e ∙ step-effect c vs u l ws h

refuses-effect : (count : ℕ) (ss : List Marked) (t : Lookahead) (r : Refusal) → Refuses count ss t r → effect count ss t ≡ stop r
refuses-effect count ss t r (nothing_waited_for c u) = refl
refuses-effect count ss t r (no_row c s m vs u d e) = effect-row c s m vs u none d e
refuses-effect count ss t r (too_deep c n s m xs vs u d e many) = effect-row c s m vs u (opens n xs) d e ∙ opener_count-stop c n (xs ++ vs) many
refuses-effect count ss t r (past c s m vs u f d e h) = effect-row c s m vs u nothing d e ∙ refuses-effect c vs u f h

ending-is : (ss : List Marked) (o : Option Refusal) → Ending ss o → ending ss ≡ o
ending-is ss o complete = refl
ending-is ss o (wanting s m us e) = ap (λ b. cond b (ending us) (Some UnexpectedEnd)) e
ending-is ss o (ended s m us p e h) = ap (λ b. cond b (ending us) (Some UnexpectedEnd)) e ∙ ending-is us p h

-- A run of the relation is the function's answer.
pub computes : (count : ℕ) (ss : List Marked) (ts : List Lookahead) (o : Option Refusal) → ComesTo count ss ts o → run count ss ts ≡ o
unfolding run
computes count ss ts o (at_end c us p h) = ending-is us p h
computes count ss ts o (step c us t vs later ws p h k) = ap (λ w. next w (λ q rest. run q rest vs)) (step-effect c us t later ws h) ∙ computes later ws vs p k
computes count ss ts o (refused c us t vs r h) = ap (λ w. next w (λ q rest. run q rest vs)) (refuses-effect c us t r h)

-- Each state and token has a step, or is refused.
abbrev Moves : ℕ → List Marked → Lookahead → Type 0
Moves count ss t = ((later : ℕ) × (us : List Marked) × Step count ss t later us) ⊎ ((r : Refusal) × Refuses count ss t r)

moves-row : (count : ℕ) (s : Symbol) (m : Newlines) (ss : List Marked) (t : Lookahead) (r : Action) → drops m t.class ≡ false → row s m t ≡ r → Moves count ss t → Moves count (s at m ∷ ss) t
moves-row count s m ss t none d e k = inr (UnexpectedToken t.number, no_row count s m ss t d e)
moves-row count s m ss t nothing d e (inl k) = inl (k.0, k.1, gone count s m ss t k.0 k.1 d e k.2)
moves-row count s m ss t nothing d e (inr k) = inr (k.0, past count s m ss t k.0 d e k.1)
moves-row count s m ss t (reads xs) d e k = inl (count, xs ++ ss, read count s m xs ss t d e)
moves-row count s m ss t (opens n xs) d e k = opens-by count n s m xs ss t d e (cases_lt count max_directives)
  where
    opens-by : (count n : ℕ) (s : Symbol) (m : Newlines) (xs ss : List Marked) (t : Lookahead) → drops m t.class ≡ false → row s m t ≡ opens n xs → (count < max_directives) ⊎ (max_directives ≤ count) → Moves count (s at m ∷ ss) t
    opens-by count n s m xs ss t d e (inl few) = inl (count + 1, xs ++ ss, opened count n s m xs ss t d e few)
    opens-by count n s m xs ss t d e (inr many) = inr (TooDeep n, too_deep count n s m xs ss t d e many)
moves-row count s m ss t (closes xs) d e k = inl (count - 1, xs ++ ss, closed count s m xs ss t d e)

moves-by : (count : ℕ) (s : Symbol) (m : Newlines) (ss : List Marked) (t : Lookahead) (b : Bool) → drops m t.class ≡ b → Moves count ss t → Moves count (s at m ∷ ss) t
moves-by count s m ss t true d k = inl (count, s at m ∷ ss, dropped count s m ss t d)
moves-by count s m ss t false d k = moves-row count s m ss t (row s m t) d refl k

moves : (count : ℕ) (ss : List Marked) (t : Lookahead) → Moves count ss t
moves count [] t = inr (UnexpectedToken t.number, nothing_waited_for count t)
moves count (s at m ∷ ss) t = moves-by count s m ss t (drops m t.class) refl (moves count ss t)

ends-by : (s : Symbol) (m : Newlines) (ss : List Marked) (b : Bool) → ends s ≡ b → (o : Option Refusal) × Ending ss o → (o : Option Refusal) × Ending (s at m ∷ ss) o
ends-by s m ss true e h = (h.0, ended s m ss h.0 e h.1)
ends-by s m ss false e h = (Some UnexpectedEnd, wanting s m ss e)

has-ending : (ss : List Marked) → (o : Option Refusal) × Ending ss o
has-ending [] = (None, complete)
has-ending (s at m ∷ ss) = ends-by s m ss (ends s) refl (has-ending ss)

run-by : (count : ℕ) (ss : List Marked) (t : Lookahead) (ts : List Lookahead) → Moves count ss t → ((o : ℕ) (us : List Marked) → (p : Option Refusal) × ComesTo o us ts p) → (o : Option Refusal) × ComesTo count ss (t ∷ ts) o
run-by count ss t ts (inl h) k = let w = k h.0 h.1 in (w.0, step count ss t ts h.0 h.1 w.0 h.2 w.1)
run-by count ss t ts (inr h) k = (Some h.0, refused count ss t ts h.0 h.1)

has-run : (count : ℕ) (ss : List Marked) (ts : List Lookahead) → (o : Option Refusal) × ComesTo count ss ts o
has-run count ss [] = let w = has-ending ss in (w.0, at_end count ss w.0 w.1)
has-run count ss (t ∷ ts) = run-by count ss t ts (moves count ss t) (λ o us. has-run o us ts)

-- The function's answer has a run.
pub answers : (count : ℕ) (ss : List Marked) (ts : List Lookahead) → ComesTo count ss ts (run count ss ts)
answers count ss ts = let w = has-run count ss ts in subst (λ o. ComesTo count ss ts o) (sym (computes count ss ts w.0 w.1)) w.1
