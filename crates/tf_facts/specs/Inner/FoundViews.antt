-- The contracts' views of the facts that the code finds on its way through a file.
use Rattle.std.specs.Prelude.{ℕ, List, [], ◌∷◌, Option, Some, None}
use Rattle.tf_facts.specs.Comments.{Comment}
use Rattle.tf_facts.specs.Declarations.{Declaration, Declarer}
use Rattle.tf_facts.specs.Found.{comment, declaration}
use Rattle.tf_facts.specs.Inner.Blocks.{block_view}
use Rattle.tf_facts.specs.References.{VariableSpan}
use Rattle.tf_facts.specs.declared.found.Declared.{Declared}
use Rattle.tf_facts.specs.declared.found.Declarer as found
use Rattle.tf_facts.specs.declared.found.FoundComment.{FoundComment}
use Rattle.tf_facts.specs.declared.variable_block.VariableBlock.{VariableBlock}

abbrev pub declarer_of : found.Declarer → Declarer
declarer_of d = record { kind = d.kind; labels = d.labels }

-- a list of one declaration or none
abbrev pub declared_list : Option Declared → List (Declaration ℕ)
declared_list None = []
declared_list (Some d) = declaration d ∷ []

abbrev pub blocks_listed : Option VariableBlock → List VariableSpan
blocks_listed None = []
blocks_listed (Some o) = block_view o ∷ []

abbrev pub comment_listed : Option FoundComment → List (Comment ℕ)
comment_listed None = []
comment_listed (Some c) = comment c ∷ []
