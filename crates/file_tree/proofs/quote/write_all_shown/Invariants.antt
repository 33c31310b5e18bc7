use Rattle.std.proofs.Common.{◌≡◌, false, drop}
use Rattle.std.specs.Prelude.{flat_map}
use Rattle.command_line.proofs.WriterLemmas.{Goes}
use Rattle.file_tree.specs.Quotes.{shown_byte}
use Rattle.file_tree.proofs.quote.write_all_shown.Given as goal

-- the bytes taken of the rest from now on complete those of the whole
abbrev pub invariant-loop-byte : goal.invariant-loop-byte
invariant-loop-byte g l =
    (g.S.ByteSink.failed l.sink ≡ false)
    × Goes (g.S.ByteSink.taken l.initial.sink) (g.S.ByteSink.taken l.sink) (flat_map shown_byte (drop l.byte-index l.name)) (flat_map shown_byte l.name)
