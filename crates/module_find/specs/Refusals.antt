-- The messages about a module that isn't linted, line by line. Our own choice.
use Rattle.std.specs.Prelude.{ℕ, List, [], ◌++◌, Option, Some, None, codes, decimal}
use Rattle.command_line.specs.Rows.{Program, error, line}
use Rattle.file_tree.specs.Files.{Name}
use Rattle.file_tree.specs.Quotes.{shown_name}
use Rattle.file_tree.specs.declared.fault.TreeFault.{TreeFault}
use Rattle.file_tree.specs.declared.fault.TreeFault.TheVariants.{Missing, NoInput}
use Rattle.hcl_source.specs.declared.fault.Position.{Position}
use Rattle.module_find.specs.declared.refusal.Refusal as code

-- the program, for its messages
abbrev pub tree_linter : Program
tree_linter = record { name = codes "tfrules-all"; failure = 1 }

-- why a module isn't linted: the name of a file or a folder, the place in the file if there is one, the message, and
-- the part of the file that is shown there
pub record Refusal : Type 0 where
  pub name : Name
  pub at : Option Position
  pub text : List ℕ
  pub snippet : List ℕ

-- a refusal without a place
abbrev pub refusal_of : Name → List ℕ → Refusal
refusal_of name text = record { name = name; at = None; text = text; snippet = [] }

-- the view of a refusal
abbrev pub refusal_view : code.Refusal → Refusal
refusal_view r = record { name = r.name.now; at = r.at; text = r.text.now; snippet = r.snippet.now }

-- the text after the name, to the end of the line
abbrev pub refusal_words : Option Position → List ℕ → List ℕ
refusal_words None text = codes ": " ++ line text
refusal_words (Some at) text =
    codes ":"
    ++ (decimal at.line ++ (codes ":" ++ (decimal at.column ++ (codes ": " ++ line text))))

-- `NAME: TEXT`, or `NAME:LINE:COLUMN: TEXT`, and below it the part of the file that is shown
abbrev pub named_words : Refusal → List ℕ
named_words r = shown_name r.name ++ (refusal_words r.at r.text ++ r.snippet)

-- the line of a refusal, which begins with the name of the program, and below it the part of the file that is shown
abbrev pub refusal_line : Refusal → List ℕ
refusal_line r = error tree_linter (named_words r)

-- the fault that is reported: `-` is a missing name like any other
abbrev pub reported_fault : TreeFault → TreeFault
reported_fault NoInput = Missing
reported_fault fault = fault
