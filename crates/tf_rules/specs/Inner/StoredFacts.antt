-- The contracts' views of the stored facts of one file.
use Rattle.std.specs.Prelude.{ℕ, List, map}
use Rattle.std.specs.Str.{bytes_eq}
use Rattle.indexmap.specs.IndexSet.{insert_all}
use Rattle.tf_facts.specs.Facts.{Facts}
use Rattle.tf_rules.specs.Issues.{Place}
use Rattle.tf_rules.specs.Stored.{Stored, append_facts}
use Rattle.tf_rules.specs.Inner.StoredViews.{stored_comment, stored_declaration, place_of}
use Rattle.tf_rules.specs.declared.stored_file.StoredFile.{StoredFile}

abbrev pub stored_facts : StoredFile → Facts Place
stored_facts f = record { comments = map stored_comment f.comments.items; indexes = map place_of f.indexes.items; interpolations = map place_of f.interpolations.items; declarations = map stored_declaration f.declarations.items }

-- the stored facts with those of one more file
abbrev pub with_found : Stored → Facts Place → List (List ℕ) → Stored
with_found kept found texts = record { facts = append_facts kept.facts found; references = insert_all bytes_eq kept.references texts }
