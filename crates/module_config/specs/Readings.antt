-- The result of reading, in the words of the definitions.
use Rattle.std.specs.Prelude.{map, string_bytes}
use Rattle.module_config.specs.Reads.{Read}
use Rattle.module_config.specs.Options.{options_of}
use Rattle.module_config.specs.declared.config_lines.Config.{Config}

abbrev pub read_of : Config → Read
read_of c =
    record {
      said = options_of c.said;
      lines = c.lines;
      faults = map (λ bad. (bad.line, string_bytes bad.text)) c.faults.items;
    }
