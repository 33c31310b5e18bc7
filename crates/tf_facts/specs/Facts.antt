-- The facts of a file: the line comments that rules need, the places of two patterns of tokens, and the declarations.
use Rattle.std.specs.Prelude.{ℕ, List}
use Rattle.hcl_grammar.specs.Numbered.{Numbered}
use Rattle.tf_facts.specs.Comments.{Comment, comments}
use Rattle.tf_facts.specs.Declarations.{Declaration, declarations}
use Rattle.tf_facts.specs.Patterns.{legacy_indexes, wrapped_interpolations}

-- The facts of files except references, by the places of tokens.
pub record Facts (P : Type 0) : Type 0 where
  pub comments : List (Comment P)
  pub indexes : List P
  pub interpolations : List P
  pub declarations : List (Declaration P)

-- THE FACTS of numbered tokens, by their numbers
abbrev pub facts_of : List Numbered → Facts ℕ
facts_of ts =
    record {
      comments = comments ts;
      indexes = legacy_indexes ts;
      interpolations = wrapped_interpolations ts;
      declarations = declarations ts;
    }
