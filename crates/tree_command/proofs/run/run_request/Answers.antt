use Rattle.std.proofs.Common.{List, ℕ, ap, map}
use Rattle.std.specs.Borrow.{Bor}
use Rattle.tree_command.specs.Inner.Asked.{request_of}
use Rattle.tree_command.proofs.ProgramRunLemmas.{ends_named}
use Rattle.tree_command.proofs.run.run_request.Goals as goal

pub returns-clause-ends : goal.returns-clause-ends
returns-clause-ends g c =
    ends_named (g.P.Progress.shows c.args.progress.now) (request_of c.args.options.now) _ _ _ _ _ _ _ c.if-given.false c.selection_of.ensures (ap (map (λ (name : Bor (List ℕ)). name.now)) c.as_slice.ensures.value)
    c.run_named.ensures.ends
