-- The text of a JSON value, without blanks, and a list of values.
use Rattle.std.specs.Prelude.{ℕ, List, [], ◌∷◌}
use Rattle.json.specs.Json.{Items, Json, item, no_items}
use Rattle.json.specs.Print.{print}
use Rattle.json.specs.Tree.{json_tokens}

abbrev pub json_items : List Json → Items
json_items [] = no_items
json_items (j ∷ js) = item j (json_items js)

abbrev pub json_text : Json → List ℕ
json_text j = print (json_tokens j)
