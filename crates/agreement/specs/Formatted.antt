-- The files of a module formatted, and issues without their columns. Our own words, for the law `agree`.
use Rattle.std.specs.Prelude.{◌≡◌, ℕ, List, map}
use Rattle.hcl_tokens.specs.Lexemes.{Lexeme}
use Rattle.hcl_tokens.specs.Scans.{Scans}
use Rattle.hcl_layout.specs.Print.{print}
use Rattle.rule_set.specs.declared.rule.Rule.{Rule}
use Rattle.tf_rules.specs.declared.issue.Issue.{Issue}
use Rattle.tfrules_command.specs.Files.{NamedFile}

-- under the same name, the print of the file's tokens
pub record IsFormatted (file formatted : NamedFile) : Type 0 where
  pub name : file.name ≡ formatted.name
  pub tokens : List Lexeme
  pub scanned : Scans file.bytes tokens
  pub printed : formatted.bytes ≡ print tokens

-- an issue without its column
pub record WithoutColumn : Type 0 where
  pub file : ℕ
  pub line : ℕ
  pub rule : Rule
  pub message : List ℕ

abbrev pub without_column : Issue → WithoutColumn
without_column i = record { file = i.file; line = i.at.line; rule = i.rule; message = i.message }

abbrev pub without_columns : List Issue → List WithoutColumn
without_columns = map without_column
