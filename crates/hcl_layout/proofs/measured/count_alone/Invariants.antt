use Rattle.std.proofs.Common.{◌≡◌, ◌+◌, IsUtf8, chars, length}
use Rattle.std.specs.Str.Iter.{chars_rest}
use Rattle.hcl_layout.specs.Inner.Simple.{are_alone}
use Rattle.hcl_layout.proofs.measured.count_alone.Given as goal

abbrev pub invariant-loop-c : goal.invariant-loop-c
invariant-loop-c l = IsUtf8 (chars_rest l.c-iterator)
    × (are_alone (chars (chars_rest l.c-iterator)) ≡ are_alone (chars l.text))
    × (l.count + length (chars (chars_rest l.c-iterator)) ≡ length (chars l.text))
