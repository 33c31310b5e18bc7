use Rattle.editor_messages.proofs.NestingLemmas.{AreNested}
use Rattle.editor_messages.proofs.symbol.write_symbols.Given as goal

abbrev pub invariant-loop-symbol : goal.invariant-loop-symbol
invariant-loop-symbol l = AreNested l.symbols l.symbol-index l.levels.items l.initial.writer l.writer
