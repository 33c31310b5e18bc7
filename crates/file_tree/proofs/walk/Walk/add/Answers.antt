use Rattle.std.proofs.Common.{refl}
use Rattle.file_tree.proofs.walk.Walk.add.Goals as goal
use Rattle.file_tree.proofs.walk.Walk.add.Goals.{in-Ok, in-Err}

pub returns : goal.returns
returns c =
    elim c.match-push.branch [
      | in-Ok w ↦ rw w.result-is (record { f = record { name = c.args.name; fault = c.args.fault; file = c.args.file }; name_is = refl; fault_is = refl; file_is = refl; found = w.in-Ok.ensures.items; folders = refl })
      | in-Err w ↦ rw w.result-is tt
    ]
