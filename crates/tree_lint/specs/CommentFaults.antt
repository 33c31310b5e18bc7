-- The comments of files that are meant to silence a rule and don't, each at its place.
use Rattle.std.specs.Prelude.{ℕ, ◌&&◌, Bool, true, false, List, [], ◌∷◌, if◌then◌else◌, string_bytes}
use Rattle.std.specs.List.{flat_map}
use Rattle.std.specs.Str.Lossy.{utf8_lossy}
use Rattle.hcl_grammar.specs.Numbered.{Numbered}
use Rattle.hcl_source.specs.declared.fault.Position.{Position}
use Rattle.hcl_tokens.specs.Kinds.{is}
use Rattle.hcl_tokens.specs.declared.token.Kind.TheVariants.{LineComment}
use Rattle.tf_rules.specs.Issues.{File, place_in, tokens_of}
use Rattle.tree_lint.specs.CommentTexts.{fault_text}
use Rattle.tree_lint.specs.declared.comment_fault.CommentFault as code

-- the number of the comment's file, its place, and its message
pub record CommentFault : Type 0 where
  pub file : ℕ
  pub at : Position
  pub text : List ℕ

-- such a comment in the code's terms
abbrev pub fault_view : code.CommentFault → CommentFault
fault_view f = record { file = f.file; at = f.at; text = string_bytes f.text }

abbrev pub is_some_text : List ℕ → Bool
is_some_text [] = false
is_some_text (b ∷ bs) = true

-- the fault of a token, if it is such a comment: all of its text is UTF-8, so nothing is replaced
abbrev pub fault_of : File → Numbered → List CommentFault
fault_of file t =
    if is LineComment t.kind && is_some_text (fault_text t.text)
    then record {
      file = file.number;
      at = (place_in file t.number).at;
      text = utf8_lossy (fault_text t.text);
    } ∷ []
    else []

-- THOSE of a file, in order
abbrev pub faults_in : File → List CommentFault
faults_in file = flat_map (fault_of file) (tokens_of file)

-- those of a module
abbrev pub comment_faults : List File → List CommentFault
comment_faults files = flat_map faults_in files
