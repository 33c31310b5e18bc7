-- The parts of a line, in the words of the definitions.
use Rattle.std.specs.Prelude.{ℕ, List}
use Rattle.module_config.specs.declared.line_parts.OptionParts.{OptionParts}

abbrev pub cut_of : OptionParts → List ℕ × List ℕ
cut_of p = (p.name.now, p.value.now)
