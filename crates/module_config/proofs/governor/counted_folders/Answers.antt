use Rattle.std.proofs.Common.{ap, length}
use Rattle.module_config.proofs.LookLemmas.{counted_top}
use Rattle.module_config.proofs.governor.counted_folders.Goals as goal

pub returns-then-top-as_slice : goal.returns-then-top-as_slice
returns-then-top-as_slice c = counted_top c.args.current.now c.args.folders.items c.truncate.new.self.items c.args.top (length c.as_slice.result.now) (ap length c.as_slice.ensures.value) c.if-top-as_slice.true c.truncate.ensures.items
