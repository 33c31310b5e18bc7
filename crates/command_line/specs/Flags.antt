-- Flags, as clap's matches show them: a flag that is set has the text `true`.
use Rattle.std.specs.Prelude.{Bool, false, List, codes}
use Rattle.std.specs.Option.{option_map_or}
use Rattle.std.specs.Str.{bytes_eq}
use Rattle.clap.specs.Words.{Text, first_of}
use Rattle.clap.specs.Words as clap

-- whether the flag with this id was set
abbrev pub is_set : Text → List clap.Row → Bool
is_set id rows = option_map_or (λ text. bytes_eq text (codes "true")) (first_of id rows) false
