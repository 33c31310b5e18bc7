-- Remarks on files.
use Rattle.std.specs.Prelude.{ℕ, List}
use Rattle.lint_forms.specs.declared.remark.Remark as code
use Rattle.lint_forms.specs.declared.subject.Subject.{Subject}

-- AN ISSUE, with its rule; a comment that is meant to silence a rule and doesn't, which is among the issues; or why a
-- file or a folder is refused: a refusal without a place in its file is at 1:1
pub record Remark : Type 0 where
  pub file : List ℕ
  pub line : ℕ
  pub column : ℕ
  pub subject : Subject
  pub text : List ℕ

-- a remark in the code's terms
abbrev pub said_by : code.Remark → Remark
said_by r =
    record {
      file = r.file.now;
      line = r.line;
      column = r.column;
      subject = r.subject;
      text = r.text.now;
    }
