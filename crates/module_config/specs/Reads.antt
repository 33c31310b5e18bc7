-- The lines of a `.tfrules` together. Our own choice.
use Rattle.std.specs.Prelude.{ℕ, ◌+◌, ◌==◌, List, [], ◌∷◌, ◌++◌, Result, Ok, Err, fold}
use Rattle.std.specs.List.{slice_split}
use Rattle.module_config.specs.Lines.{Options, no_options, with_line}
use Rattle.module_config.specs.Texts.{fault_words}
use Rattle.module_config.specs.declared.line_fault.ConfigFault.{ConfigFault}

-- the options so far, the number of lines, and the messages about wrong ones
pub record Read : Type 0 where
  pub said : Options
  pub lines : ℕ
  pub faults : List (ℕ × List ℕ)

abbrev pub read_by : Read → List ℕ → Result Options ConfigFault → Read
read_by r line (Ok said) = record { said = said; lines = r.lines + 1; faults = r.faults }
read_by r line (Err fault) =
    record {
      said = r.said;
      lines = r.lines + 1;
      faults = r.faults ++ (r.lines + 1, fault_words fault line) ∷ [];
    }

abbrev pub read_line : Read → List ℕ → Read
read_line r line = read_by r line (with_line r.said line)

-- THE CONTENTS OF A TEXT, and the message about each wrong line, which adds nothing
abbrev pub read_text : List ℕ → Read
read_text text =
    fold read_line (record {
      said = no_options;
      lines = 0;
      faults = [];
    }) (slice_split (λ b. b == 10) text)
