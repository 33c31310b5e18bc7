use Rattle.std.proofs.Common.{◌≡◌}
use Rattle.module_config.specs.Configs.{AreRead}
use Rattle.module_config.proofs.config_file.read_all.Given as goal

abbrev pub invariant-loop-each : goal.invariant-loop-each
invariant-loop-each g l =
    (g.T.Tree.files l.tree ≡ g.T.Tree.files l.initial.tree) × (g.T.Tree.asked l.tree ≡ g.T.Tree.asked l.initial.tree)
    × AreRead (g.T.Tree.files l.initial.tree) l.yielded l.files.items (g.T.Tree.faults l.initial.tree) (g.T.Tree.faults l.tree)
