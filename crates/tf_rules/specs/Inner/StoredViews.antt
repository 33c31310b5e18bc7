-- The contracts' views of the stored facts of files.
use Rattle.std.specs.Prelude.{ℕ, List, [], ◌∷◌}
use Rattle.std.specs.Option.{option_map}
use Rattle.std.specs.String.{string_bytes}
use Rattle.tf_facts.specs.Comments.{Comment}
use Rattle.tf_facts.specs.Declarations.{Declaration, SourceAt}
use Rattle.tf_rules.specs.Issues.{Place}
use Rattle.rule_set.specs.RuleSets.{rules_of}
use Rattle.tf_facts.specs.Found.{source}
use Rattle.tf_rules.specs.declared.stored.StoredComment.{StoredComment}
use Rattle.tf_rules.specs.declared.stored.StoredDeclaration.{StoredDeclaration}
use Rattle.tf_rules.specs.declared.stored.StoredName.{StoredName}
use Rattle.tf_rules.specs.declared.stored.StoredName.TheVariants.{Short, Long}
use Rattle.tf_rules.specs.declared.stored.StoredNames.{StoredNames}
use Rattle.tf_rules.specs.declared.stored.StoredNames.TheVariants.{None, One, Two, More}
use Rattle.tf_rules.specs.declared.stored.StoredSource.{StoredSource}
use Rattle.tf_rules.specs.declared.stored.TokenPlace.{TokenPlace}

abbrev pub place_of : TokenPlace → Place
place_of p = record { file = p.file; token = p.token; at = p.at }

abbrev pub stored_comment : StoredComment → Comment Place
stored_comment c = record { at = place_of c.at; slashes = c.has_slashes; silences = rules_of c.silences }

abbrev pub stored_name : StoredName → List ℕ
stored_name (Short text) = text.bytes
stored_name (Long text) = string_bytes text

abbrev pub stored_names : StoredNames → List (List ℕ)
stored_names None = []
stored_names (One name) = stored_name name ∷ []
stored_names (Two first second) = stored_name first ∷ stored_name second ∷ []
stored_names More = []

abbrev pub stored_source : StoredSource → SourceAt Place
stored_source s = record { source = source s.source; at = place_of s.at }

abbrev pub stored_declaration : StoredDeclaration → Declaration Place
stored_declaration d = record {
  kind = d.kind;
  names = stored_names d.names;
  at = place_of d.at;
  described = d.is_described;
  typed = d.is_typed;
  versioned = d.is_versioned;
  source = option_map stored_source d.source;
}
