-- The comments of a file that were checked so far.
use Rattle.std.specs.Prelude.{◌≡◌, ◌≤◌, ℕ, List, ◌++◌, Some, map, slice_get}
use Rattle.hcl_grammar.specs.Numbered.{Numbered}
use Rattle.hcl_grammar.specs.Verdict.{start_of}
use Rattle.hcl_tokens.specs.Lexemes.{Lexeme}
use Rattle.hcl_tokens.specs.Scanned.{Scanned}
use Rattle.tf_rules.specs.Issues.{File}
use Rattle.tf_rules.specs.Walked.{Walked}
use Rattle.tree_lint.specs.CommentFaults.{fault_of, fault_view}
use Rattle.tree_lint.specs.declared.comment_fault.CommentFault as code

-- a token under a number
abbrev pub number_of : ℕ → Lexeme → Numbered
number_of n t = record { number = n; kind = t.kind; text = t.text }

-- a file's token of this number was checked
abbrev pub Adds : File → ℕ → List code.CommentFault → List code.CommentFault → Type 0
Adds file n old new = (t : Lexeme) → slice_get file.source.tokens n ≡ Some t → map fault_view new ≡ map fault_view old ++ fault_of file (number_of n t)

-- the walk is in this text, and not after the token of this number
pub record IsBefore (source : Scanned) (n : ℕ) (walk : Walked) : Type 0 where
  pub text : walk.text ≡ source.text
  pub reached : walk.reached ≤ start_of source.tokens n
