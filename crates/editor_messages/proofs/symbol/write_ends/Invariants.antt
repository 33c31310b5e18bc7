use Rattle.std.proofs.Common.{vec_len}
use Rattle.editor_messages.proofs.NestingLemmas.{IsClosing}
use Rattle.editor_messages.proofs.symbol.write_ends.Given as goal

abbrev pub invariant-loop-last : goal.invariant-loop-last
invariant-loop-last l = IsClosing l.level l.initial.levels.items l.levels.items l.initial.writer l.writer

abbrev pub decreases-loop-last : goal.decreases-loop-last
decreases-loop-last l = vec_len l.levels
