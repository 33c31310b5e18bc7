-- The facts that the code finds in a file, and their views.
use Rattle.std.specs.Prelude.{ℕ, List, [], ◌∷◌, map}
use Rattle.std.specs.Option.{option_map}
use Rattle.tf_facts.specs.Comments.{Comment}
use Rattle.tf_facts.specs.Declarations.{Declaration, SourceAt}
use Rattle.tf_facts.specs.Facts.{Facts}
use Rattle.rule_set.specs.RuleSets.{rules_of}
use Rattle.tf_facts.specs.Sources.{Source}
use Rattle.tf_facts.specs.Sources as seen
use Rattle.tf_facts.specs.declared.file_facts.FileFacts.{FileFacts}
use Rattle.tf_facts.specs.declared.found.Declared.{Declared}
use Rattle.tf_facts.specs.declared.found.FoundComment.{FoundComment}
use Rattle.tf_facts.specs.declared.found.FoundSource.{FoundSource}
use Rattle.tf_facts.specs.declared.module_source.ModuleSource.{ModuleSource}
use Rattle.tf_facts.specs.declared.module_source.ModuleSource.TheVariants.{Other, NotPinned, DefaultBranch, Registry}
use Rattle.tf_facts.specs.declared.names.Names.{Names}
use Rattle.tf_facts.specs.declared.names.Names.TheVariants as names

-- the labels, if there are at most two
abbrev pub texts_of : Names → List (List ℕ)
texts_of names.None = []
texts_of (names.One name) = name.now ∷ []
texts_of (names.Two first second) = first.now ∷ second.now ∷ []
texts_of names.More = []

abbrev pub source : ModuleSource → Source
source Other = seen.Other
source NotPinned = seen.NotPinned
source (DefaultBranch branch) = seen.DefaultBranch branch.now
source Registry = seen.Registry

abbrev pub found_source : FoundSource → SourceAt ℕ
found_source s = record { source = source s.source; at = s.at }

abbrev pub declaration : Declared → Declaration ℕ
declaration d = record {
  kind = d.kind;
  names = texts_of d.names;
  at = d.at;
  described = d.is_described;
  typed = d.is_typed;
  versioned = d.is_versioned;
  source = option_map found_source d.source;
}

abbrev pub comment : FoundComment → Comment ℕ
comment c = record { at = c.at; slashes = c.has_slashes; silences = rules_of c.silences }

-- THE FACTS that were found
abbrev pub facts : FileFacts → Facts ℕ
facts f =
    record {
      comments = map comment f.comments.items;
      indexes = f.indexes.items;
      interpolations = f.interpolations.items;
      declarations = map declaration f.declarations.items;
    }
