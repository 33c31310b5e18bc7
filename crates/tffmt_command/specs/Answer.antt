-- The answer of `tffmt` to a line of words and an input. Its texts, its statuses and the order of faults are our own
-- choice.
use Rattle.std.specs.Prelude.{◌≡◌, ◌⊎◌, ℕ, List, [], Result, Ok, Err, codes, length, nat_lt, if◌then◌else◌}
use Rattle.std.specs.Str.{bytes_eq}
use Rattle.hcl_source.specs.Load.{max_source, IsText, IsLoadFault, print_too_large}
use Rattle.hcl_tokens.specs.Scanned.{Scanned}
use Rattle.hcl_source.specs.declared.fault.Fault.{Fault}
use Rattle.hcl_grammar.specs.Verdict.{IsTextVerdict}
use Rattle.hcl_layout.specs.Print.{print}
use Rattle.command_line.specs.Rows.{Row, line, error, fault_words}
use Rattle.tffmt_command.specs.Rows.{formatter}
use Rattle.tffmt_command.specs.Line.{options_of}
use Rattle.tffmt_command.specs.declared.options.FmtOptions.{FmtOptions}
use Rattle.tffmt_command.specs.declared.options.Usage.{Usage}
use Rattle.tffmt_command.specs.declared.options.Usage.TheVariants as usage

-- `tffmt: error: LINE:COLUMN: TEXT`
abbrev pub fault_line : Fault → List ℕ
fault_line fault = error formatter (fault_words fault)

-- the row of a refused file: only its one fault line
abbrev pub refusal_row : Fault → Row
refusal_row fault = record { out = []; err = fault_line fault; status = 2 }

-- the row of an accepted file: a print of more than the bytes of a source is none
abbrev pub row_of_file : FmtOptions → Scanned → Row
row_of_file options s =
    if nat_lt max_source (length (print s.tokens)) then refusal_row print_too_large
    else (if options.check
    then record { out = []; err = []; status = if bytes_eq (print s.tokens) s.text then 0 else 3 }
    else record { out = print s.tokens; err = []; status = 0 })

abbrev pub row_by : FmtOptions → Result Scanned Fault → Row
row_by options (Ok s) = row_of_file options s
row_by options (Err fault) = refusal_row fault

-- the row of a source, by the verdict on it
abbrev pub IsTextAnswer : FmtOptions → List ℕ → Row → Type 0
IsTextAnswer options text row =
    (v : Result Scanned Fault) × IsTextVerdict text v × (row ≡ row_by options v)

-- the row of an input: that of its one load fault, or that of its text
abbrev pub IsFileAnswer : FmtOptions → List ℕ → Row → Type 0
IsFileAnswer options input row =
    ((fault : Fault) × IsLoadFault input fault × (row ≡ refusal_row fault))
    ⊎ (IsText input × IsTextAnswer options input row)

abbrev pub usage_line : List ℕ
usage_line = line (codes "usage: tffmt [--check] [--help]")

-- running out of memory is the usage of no line
abbrev pub IsAnswerBy : Result FmtOptions Usage → List ℕ → Row → Type 0
IsAnswerBy (Ok options) input row = IsFileAnswer options input row
IsAnswerBy (Err usage.Help) input row = row ≡ record { out = usage_line; err = []; status = 0 }
IsAnswerBy (Err usage.BadLine) input row = row ≡ record { out = []; err = usage_line; status = 2 }
IsAnswerBy (Err usage.OutOfMemory) input row = ⊥

-- THE ANSWER to a line of words and an input
abbrev pub IsAnswer : List (List ℕ) → List ℕ → Row → Type 0
IsAnswer words = IsAnswerBy (options_of words)
