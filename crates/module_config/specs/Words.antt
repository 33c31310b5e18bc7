-- Messages about bad files, and about modules that aren't linted because of them. Our own choice.
use Rattle.std.specs.Prelude.{ℕ, ◌==◌, List, [], ◌++◌, Option, Some, None, codes, decimal, flat_map, string_bytes, if◌then◌else◌}
use Rattle.command_line.specs.Rows.{error, line}
use Rattle.file_tree.specs.FaultTexts.{tree_fault_text}
use Rattle.file_tree.specs.Files.{Name}
use Rattle.file_tree.specs.Quotes.{shown_name}
use Rattle.file_tree.specs.declared.fault.TreeFault.{TreeFault}
use Rattle.file_tree.specs.declared.walk.Found.{Found}
use Rattle.hcl_source.specs.FaultTexts.{fault_text}
use Rattle.module_config.specs.declared.config_lines.BadLine.{BadLine}
use Rattle.module_find.specs.Refusals.{refusal_line, refusal_of, tree_linter}
use Rattle.module_config.specs.Governors.{shown_from}
use Rattle.module_config.specs.declared.config_file.ConfigFile.{ConfigFile}
use Rattle.module_config.specs.declared.config_file.ConfigText.{ConfigText}
use Rattle.module_config.specs.declared.config_file.ConfigText.TheVariants.{Says, Refused, Unread}
use Rattle.module_config.specs.declared.configure.Configured.{Configured}
use Rattle.module_config.specs.declared.start.Start.{Start}

-- `tfrules-all: error: FILE:LINE: TEXT`
abbrev pub line_words : BadLine → List ℕ
line_words bad = codes ":" ++ (decimal bad.line ++ (codes ": " ++ line (string_bytes bad.text)))

abbrev pub bad_line : Name → BadLine → List ℕ
bad_line name bad = error tree_linter (shown_name name ++ line_words bad)

-- what is wrong with a file
abbrev pub text_lines : Name → ConfigText → List ℕ
text_lines name (Says config) = flat_map (bad_line name) config.faults.items
text_lines name (Refused fault) =
    refusal_line (record {
      name = name;
      at = Some fault.at;
      text = fault_text fault.kind;
      snippet = [];
    })
text_lines name (Unread fault) = refusal_line (refusal_of name (tree_fault_text fault))

abbrev pub config_lines : Start → ConfigFile → List ℕ
config_lines start file = text_lines (shown_from start file.name.items) file.text

abbrev pub fault_line : Name → Option TreeFault → List ℕ
fault_line name None = []
fault_line name (Some fault) = refusal_line (refusal_of name (tree_fault_text fault))

-- a failed call
abbrev pub failure_lines : Start → Found → List ℕ
failure_lines start f = fault_line (shown_from start f.name.items) f.fault

abbrev pub configured_words : Configured → List ℕ
configured_words c =
    flat_map (failure_lines c.start) c.failures.items
    ++ flat_map (config_lines c.start) c.files.items

-- how many modules aren't linted, if any
abbrev pub unlinted_line : ℕ → List ℕ
unlinted_line n =
    if n == 0 then []
    else (if n == 1 then codes "1 module not linted: its options aren't known\n"
    else decimal n ++ codes " modules not linted: their options aren't known\n")
