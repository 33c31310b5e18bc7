-- What a stream begins with, as far as it has come.
use Rattle.std.specs.Prelude.{ℕ, ◌+◌, ◌-◌, List, Option, Some, None, length, nat_lt, take, if◌then◌else◌}
use Rattle.tfls_command.specs.Frames.{head_length, max_head, told_length}
use Rattle.tfls_command.specs.declared.front.Front.{Front}
use Rattle.tfls_command.specs.declared.front.Front.TheVariants.{Message, Partial, Malformed}

-- by the offset at which the body begins, and the length that the head tells
abbrev pub front_by_length : List ℕ → ℕ → Option ℕ → Front
front_by_length stream from None = Malformed
front_by_length stream from (Some n) =
    if nat_lt (length stream - from) n then Partial else Message from (from + n)

-- by the length of the head
abbrev pub front_by_head : List ℕ → Option ℕ → Front
front_by_head stream None = if nat_lt (length stream) max_head then Partial else Malformed
front_by_head stream (Some n) = front_by_length stream (n + 4) (told_length (take n stream))

-- a message, the beginning of one, or what no message begins with
abbrev pub front_of : List ℕ → Front
front_of stream = front_by_head stream (head_length stream)
