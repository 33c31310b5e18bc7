-- The items of an outline, as they are stored.
use Rattle.std.specs.Prelude.{List, map}
use Rattle.hcl_grammar.specs.declared.item.Item.{Item}
use Rattle.hcl_grammar.specs.declared.item.Item.TheVariants as item
use Rattle.hcl_grammar.specs.declared.entry.ItemEntry.{ItemEntry}
use Rattle.hcl_grammar.specs.declared.entry.ItemEntry.TheVariants as entry

-- the item that an entry stores
abbrev pub item_in : ItemEntry → Item
item_in (entry.Attribute level name first end) = item.Attribute level name first end
item_in (entry.Block level kind end) = item.Block level kind end
item_in (entry.Label first last) = item.Label (record { first = first; last = last })

abbrev pub items_in : List ItemEntry → List Item
items_in entries = map item_in entries
