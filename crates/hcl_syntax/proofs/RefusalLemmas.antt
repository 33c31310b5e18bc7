-- Which tokens the refusals of the predictor name.
use Rattle.std.proofs.Common.{◌≡◌, ℕ, ◌+◌, ◌<◌, ◌≤◌, Bool, true, false, cond, List, [], ◌∷◌, length, Some, arith, subst}
use Rattle.hcl_tokens.specs.Lexemes.{Lexeme, Opener}
use Rattle.hcl_grammar.specs.declared.class.Lookahead.{Lookahead}
use Rattle.hcl_grammar.specs.declared.refusal.Refusal.{Refusal}
use Rattle.hcl_grammar.specs.declared.refusal.Refusal.TheVariants.{UnexpectedToken, UnexpectedEnd, TooDeep}
use Rattle.hcl_grammar.specs.Classes.{class_of, is_trivia, lookaheads, lookaheads_from}
use Rattle.hcl_grammar.specs.Grammar.{Symbol, Marked, ◌at◌, ends}
use Rattle.hcl_grammar.specs.Predictor.{Effect, on, stop, effect, next, run, ending, refusal_of}
use Rattle.hcl_grammar.proofs.UnclosedLemmas.{unclosed_in_all, HaveNumbers}
use Rattle.hcl_grammar.proofs.MoveLemmas.{Named, EffectMoves, effect-moves}
use Rattle.hcl_syntax.specs.Inner.Parsing.{Names}

abbrev AllNumbered : (ℕ → Type 0) → List Lookahead → Type 0
AllNumbered P [] = Unit {0}
AllNumbered P (t ∷ ts) = P t.number × AllNumbered P ts

ending-named : (P : ℕ → Type 0) (ss : List Marked) (r : Refusal) → ending ss ≡ Some r → Named P r
ending-named P [] r h = cc
ending-named P (s at m ∷ ss) r h = at-end P s ss r (ends s) h (λ k. ending-named P ss r k)
  where
    at-end : (P : ℕ → Type 0) (s : Symbol) (ss : List Marked) (r : Refusal) (b : Bool) → cond b (ending ss) (Some UnexpectedEnd) ≡ Some r → (ending ss ≡ Some r → Named P r) → Named P r
    at-end P s ss r true h k = k h
    at-end P s ss r false h k = let e : UnexpectedEnd ≡ r = cc in subst (λ x. Named P x) e tt

next-named : (P : ℕ → Type 0) (w : Effect) (a : List Opener) (t : Lookahead) (ts : List Lookahead) (r : Refusal) → EffectMoves P w a t.class → next w (λ o rest. run o rest ts) ≡ Some r →
    ((o : ℕ) (ss : List Marked) → HaveNumbers P ss → run o ss ts ≡ Some r → Named P r) → Named P r
next-named P (on o ss) a t ts r q h k = k o ss q.1 h
next-named P (stop f) a t ts r q h k = let e : f ≡ r = cc in subst (λ x. Named P x) e q

run-named : (P : ℕ → Type 0) (count : ℕ) (ss : List Marked) (ts : List Lookahead) (r : Refusal) → HaveNumbers P ss → AllNumbered P ts → run count ss ts ≡ Some r → Named P r
unfolding run
run-named P count ss [] r h k e = ending-named P ss r e
run-named P count ss (t ∷ ts) r h k e = next-named P (effect count ss t) (unclosed_in_all ss) t ts r (effect-moves P count ss t k.0 h) e (λ o us q f. run-named P o us ts r q k.1 f)

all-numbered : (total n : ℕ) (ts : List Lexeme) → n + length ts ≤ total → AllNumbered (λ i. i < total) (lookaheads_from n ts)
all-numbered total n [] h = tt
all-numbered total n (t ∷ ts) h = numbered-by total n t ts (is_trivia (class_of t)) (omega arith) (all-numbered total (n + 1) ts (omega arith))
  where
    numbered-by : (total n : ℕ) (t : Lexeme) (ts : List Lexeme) (b : Bool) → n < total → AllNumbered (λ i. i < total) (lookaheads_from (n + 1) ts) →
        AllNumbered (λ i. i < total) (cond b (lookaheads_from (n + 1) ts) (record { class = class_of t; number = n } ∷ lookaheads_from (n + 1) ts))
    numbered-by total n t ts true h k = k
    numbered-by total n t ts false h k = (h, k)

named-is : (total : ℕ) (r : Refusal) → Named (λ i. i < total) r → Names r total
named-is total (UnexpectedToken n) h = h
named-is total UnexpectedEnd h = h
named-is total (TooDeep n) h = h

pub refusal-names : (ts : List Lexeme) (r : Refusal) → refusal_of (lookaheads ts) ≡ Some r → Names r (length ts)
refusal-names ts r e = named-is (length ts) r (run-named (λ i. i < length ts) 0 _ (lookaheads ts) r tt (all-numbered (length ts) 0 ts (omega arith)) e)
