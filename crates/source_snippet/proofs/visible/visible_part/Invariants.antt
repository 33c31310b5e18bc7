use Rattle.std.proofs.Common.{◌≡◌, map}
use Rattle.std.specs.Prelude.{encode_utf8_all}
use Rattle.source_snippet.specs.Snippets.{shown_char}
use Rattle.source_snippet.proofs.visible.visible_part.Given as goal

abbrev pub invariant-loop-c : goal.invariant-loop-c
invariant-loop-c l = l.text.bytes ≡ encode_utf8_all (map shown_char l.yielded)
