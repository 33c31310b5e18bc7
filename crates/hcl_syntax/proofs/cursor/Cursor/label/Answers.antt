use Rattle.std.proofs.Common.{rules, refl, [], ◌∷◌}
use Rattle.hcl_grammar.specs.declared.expected.Newlines.TheVariants.{Seen}
use Rattle.hcl_grammar.specs.declared.expected.Terminal.TheVariants.{EndQuote}
use Rattle.hcl_grammar.specs.Grammar.{◌at◌, the}
use Rattle.hcl_syntax.proofs.LookaheadLemmas.{past_newlines-again}
use Rattle.hcl_syntax.proofs.CursorStepLemmas.{looks, reading, vanishing, refusing, refusing-end, onward, beside, failed, done, kept-refusal}
use Rattle.hcl_syntax.proofs.cursor.Cursor.label.Goals as goal

pub returns-in_default-clause-parses : goal.returns-in_default-clause-parses
returns-in_default-clause-parses c = kept-refusal c.keep_refusal.ensures.refusal (failed (beside (the EndQuote at Seen ∷ []) (refusing-end {A = Unit {0}} {ys = []} {new = c.look.new.self.left} c.look.ensures.left c.in_default.ensures.found refl)))

pub returns-in-Lit-clause-parses : goal.returns-in-Lit-clause-parses
returns-in-Lit-clause-parses c = onward (beside {ys = []} (the EndQuote at Seen ∷ []) (reading (looks _ _ _ _ _ c.look.ensures.left c.in-Some.ensures.found c.bump.ensures.left) (search rules) (done {a = tt {0}}))) (c.expect.ensures.parses _)

pub returns-in-QuoteClose-clause-parses : goal.returns-in-QuoteClose-clause-parses
returns-in-QuoteClose-clause-parses c = onward (beside (the EndQuote at Seen ∷ []) (vanishing {a = tt {0}} (looks _ _ _ _ _ c.look.ensures.left c.in-Some.ensures.found refl) (search rules) c.look.ensures.left)) (reading (looks _ _ _ _ _ (past_newlines-again Seen c.args.self.now.left c.look.new.self.left c.look.ensures.left) c.in-Some.ensures.found c.bump-in-QuoteClose.ensures.left) (search rules) done)

pub returns-in_default-class : goal.returns-in_default-class
returns-in_default-class c = record { parses = kept-refusal c.keep_refusal-in_default-class.ensures.refusal (failed (beside (the EndQuote at Seen ∷ []) (refusing {A = Unit {0}} {ys = []} {new = c.look.new.self.left} (looks _ _ _ _ _ c.look.ensures.left c.in-Some.ensures.found refl) (search rules)))); shorter = tt }
