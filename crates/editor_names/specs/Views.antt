-- Names and their ranges as the code has them.
use Rattle.std.specs.Prelude.{Option, map, option_map, string_bytes}
use Rattle.tf_names.specs.Names.{Name, Variable, Local, Data, Module}
use Rattle.tf_names.specs.Views.{name_seen}
use Rattle.editor_messages.specs.Views.{document_ranges_seen}
use Rattle.editor_names.specs.Modules.{NameRanges}
use Rattle.editor_names.specs.Names.{NamedRange, Query}
use Rattle.editor_names.specs.declared.named.NameAt.{NameAt}
use Rattle.editor_names.specs.declared.owned_name.OwnedName.{OwnedName}
use Rattle.editor_names.specs.declared.owned_name.OwnedName.TheVariants as owned
use Rattle.editor_names.specs.declared.query.Query.{Query as QueryOf}
use Rattle.editor_names.specs.declared.search.NameRanges.{NameRanges as NameRangesOf}

abbrev pub owned_seen : OwnedName → Name
owned_seen (owned.Variable n) = Variable (string_bytes n)
owned_seen (owned.Local n) = Local (string_bytes n)
owned_seen (owned.Data t n) = Data (string_bytes t) (string_bytes n)
owned_seen (owned.Module n) = Module (string_bytes n)

abbrev pub name_at_seen : NameAt → NamedRange
name_at_seen n = record { name = owned_seen n.name; range = n.range }

abbrev pub named_seen : Option NameAt → Option NamedRange
named_seen found = option_map name_at_seen found

abbrev pub query_seen : QueryOf → Query
query_seen q = record { name = name_seen q.name; wanted = q.wanted; units = q.units }

abbrev pub found_seen : NameRangesOf → NameRanges
found_seen f = record {
  documents = map document_ranges_seen f.documents.items;
  is_declared = f.is_declared;
  is_whole = f.is_whole;
}
