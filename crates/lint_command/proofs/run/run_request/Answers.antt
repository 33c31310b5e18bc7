use Rattle.std.proofs.Common.{List, ℕ, ap, map}
use Rattle.std.specs.Borrow.{Bor}
use Rattle.lint_command.specs.Inner.Asked.{request_of}
use Rattle.lint_command.proofs.RequestLemmas.{ends_named}
use Rattle.lint_command.proofs.run.run_request.Goals as goal

pub returns-clause-ends : goal.returns-clause-ends
returns-clause-ends g c =
    ends_named c.args.terminals (request_of c.args.options.now) _ _ _ _ _ _ _ c.if-options.false (ap (map (λ (name : Bor (List ℕ)). name.now)) c.as_slice.ensures.value) c.lint_named.ensures.ends
