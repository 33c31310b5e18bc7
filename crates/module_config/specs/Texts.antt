-- The messages about a bad line. Our own choice.
use Rattle.std.specs.Prelude.{ℕ, List, ◌++◌, codes}
use Rattle.std.specs.Str.Lossy.{utf8_lossy}
use Rattle.file_tree.specs.Quotes.{in_quotes}
use Rattle.module_config.specs.Lists.{unknown_in}
use Rattle.module_config.specs.Lines.{without_comment, parts}
use Rattle.module_config.specs.declared.line_fault.ConfigFault.{ConfigFault}
use Rattle.module_config.specs.declared.line_fault.ConfigFault.TheVariants.{UnknownOption, GivenTwice, UnknownRule, NoRuleLeft, UnknownNaming, UnknownSeverity}

abbrev pub reason : ConfigFault → List ℕ
reason UnknownOption = codes "no option of a project: "
reason GivenTwice = codes "given twice: "
reason UnknownRule = codes "unknown rule "
reason NoRuleLeft = codes "no rule is left by "
reason UnknownNaming = codes "unknown naming "
reason UnknownSeverity = codes "unknown severity "

-- the wrong word of an option's name and value: in a list of rules the name that isn't a rule's
abbrev pub word_in : ConfigFault → List ℕ × List ℕ → List ℕ
word_in UnknownOption (name, value) = name
word_in GivenTwice (name, value) = name
word_in UnknownRule (name, value) = unknown_in value
word_in _ (name, value) = value

-- the wrong word of a line
abbrev pub wrong_word : ConfigFault → List ℕ → List ℕ
wrong_word fault line = word_in fault (parts (without_comment line))

-- THE MESSAGE, with that word between double quotes: all of a line is UTF-8, so nothing is replaced
abbrev pub fault_words : ConfigFault → List ℕ → List ℕ
fault_words fault line = utf8_lossy (reason fault ++ in_quotes (wrong_word fault line))
