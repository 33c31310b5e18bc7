use Rattle.std.proofs.Common.{Some, ap, sym, ◌∙◌}
use Rattle.hcl_grammar.specs.Predictor.{refusal_of}
use Rattle.hcl_syntax.proofs.RefusalLemmas.{refusal-names}
use Rattle.hcl_syntax.proofs.accepted.accepts.Goals as goal

pub fault_at-requires : goal.fault_at-requires
fault_at-requires c = refusal-names c.args.tokens.now.tokens c.refusal.result (ap (λ l. refusal_of l) (sym c.new-cursor.ensures) ∙ c.in-Err.ensures ∙ ap (λ r. Some r) (sym c.refusal.ensures))
