-- Bad files and failed calls, as refusals. Our own choice.
use Rattle.std.specs.Prelude.{ℕ, List, [], ◌∷◌, ◌++◌, Option, Some, None, flat_map, map, min, string_bytes}
use Rattle.file_tree.specs.FaultTexts.{tree_fault_text}
use Rattle.file_tree.specs.Files.{Name}
use Rattle.file_tree.specs.declared.fault.TreeFault.{TreeFault}
use Rattle.file_tree.specs.declared.walk.Found.{Found}
use Rattle.hcl_source.specs.FaultTexts.{fault_text}
use Rattle.module_config.specs.declared.config_lines.BadLine.{BadLine}
use Rattle.module_find.specs.Refusals.{Refusal, refusal_of}
use Rattle.module_config.specs.Governors.{shown_from}
use Rattle.module_config.specs.declared.config_file.ConfigFile.{ConfigFile}
use Rattle.module_config.specs.declared.config_file.ConfigText.{ConfigText}
use Rattle.module_config.specs.declared.config_file.ConfigText.TheVariants.{Says, Refused, Unread}
use Rattle.module_config.specs.declared.configure.Configured.{Configured}
use Rattle.module_config.specs.declared.start.Start.{Start}

-- the number of a line, if it fits
abbrev pub line_number : ℕ → ℕ
line_number line = min line 4294967295

abbrev pub line_refusal : Name → BadLine → Refusal
line_refusal name bad =
    record {
      name = name;
      at = Some (record { line = line_number bad.line; column = 1 });
      text = string_bytes bad.text;
      snippet = [];
    }

abbrev pub text_refusals : Name → ConfigText → List Refusal
text_refusals name (Says config) = map (line_refusal name) config.faults.items
text_refusals name (Refused fault) =
    record { name = name; at = Some fault.at; text = fault_text fault.kind; snippet = [] } ∷ []
text_refusals name (Unread fault) = refusal_of name (tree_fault_text fault) ∷ []

abbrev pub config_refusals : Start → ConfigFile → List Refusal
config_refusals start file = text_refusals (shown_from start file.name.items) file.text

abbrev pub fault_refusals : Name → Option TreeFault → List Refusal
fault_refusals name None = []
fault_refusals name (Some fault) = refusal_of name (tree_fault_text fault) ∷ []

abbrev pub failure_refusals : Start → Found → List Refusal
failure_refusals start f = fault_refusals (shown_from start f.name.items) f.fault

-- ALL OF THEM
abbrev pub configured_refusals : Configured → List Refusal
configured_refusals c =
    flat_map (failure_refusals c.start) c.failures.items
    ++ flat_map (config_refusals c.start) c.files.items
