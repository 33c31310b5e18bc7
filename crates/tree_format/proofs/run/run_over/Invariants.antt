use Rattle.std.proofs.Common.{◌≡◌, false, ℕ, List, take}
use Rattle.std.specs.Prelude.{◌≢◌, All}
use Rattle.tree_format.specs.Runs.{MayBecome, Settled}
use Rattle.tree_format.specs.States.{state_of}
use Rattle.tree_format.proofs.FileRunLemmas.{SoFar}
use Rattle.tree_format.proofs.run.run_over.Given as goal

abbrev pub invariant-loop-found : goal.invariant-loop-found
invariant-loop-found g l =
    let old = g.T.Tree.files l.initial.tree in let now = g.T.Tree.files l.tree in
    (g.O.ByteSink.failed l.streams.out ≡ false) × (g.E.ByteSink.failed l.streams.err ≡ false)
    × ((name : List ℕ) → MayBecome l.mode (old.told name) (now.told name))
    × ((name : List ℕ) → now.real name ≡ old.real name)
    × (l.status ≢ 4 → All (λ f. Settled l.mode (old.told (old.real f.name.items)) (now.told (old.real f.name.items))) (take l.found-index l.all))
    × ((name : List ℕ) → All (λ f. name ≢ old.real f.name.items) l.all → now.told name ≡ old.told name)
    × SoFar l.shows l.mode (take l.found-index l.all) (state_of g.T.Tree l.initial.tree) (state_of g.T.Tree l.tree)
    (g.O.ByteSink.taken l.initial.streams.out) (g.O.ByteSink.taken l.streams.out) (g.E.ByteSink.taken l.initial.streams.err) (g.E.ByteSink.taken l.streams.err) l.status l.tally
