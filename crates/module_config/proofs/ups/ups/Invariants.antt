use Rattle.std.proofs.Common.{◌≡◌, ◌≤◌, ◌++◌, length, map}
use Rattle.module_config.specs.Governs.{ups, ups_to}
use Rattle.module_config.proofs.ups.ups.Given as goal

abbrev pub invariant-loop-end : goal.invariant-loop-end
invariant-loop-end l = (l.end ≤ length l.path) × (map (λ folder. folder.now) l.folders.items ++ ups_to l.path l.end ≡ ups l.path)

abbrev pub decreases-loop-end : goal.decreases-loop-end
decreases-loop-end l = l.end
