use Rattle.std.proofs.Common.{sym}
use Rattle.tree_devices.proofs.runs.is_told.Goals as goal

pub returns-in-Some : goal.returns-in-Some
returns-in-Some c = λ e. (c.in-Some.bytes.now, sym c.in-Some.ensures, c.format_or_fault.ensures)
