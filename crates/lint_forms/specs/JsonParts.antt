-- The tokens of parts.
use Rattle.std.specs.Prelude.{[], ◌∷◌, List, decimal}
use Rattle.json.specs.Token.{Token, begin_array, begin_object, boolean, end_array, end_object, key, number, string}
use Rattle.lint_forms.specs.declared.json_part.JsonPart.{JsonPart}
use Rattle.lint_forms.specs.declared.json_part.JsonPart.TheVariants as part

abbrev pub part_tokens : JsonPart → List Token
part_tokens part.Object = begin_object ∷ []
part_tokens part.EndObject = end_object ∷ []
part_tokens part.Array = begin_array ∷ []
part_tokens part.EndArray = end_array ∷ []
part_tokens (part.Key k) = key k.now ∷ []
part_tokens (part.ObjectAt k) = key k.now ∷ begin_object ∷ []
part_tokens (part.ArrayAt k) = key k.now ∷ begin_array ∷ []
part_tokens (part.TextAt k s) = key k.now ∷ string s.now ∷ []
part_tokens (part.NumberAt k n) = key k.now ∷ number (decimal n) ∷ []
part_tokens (part.FlagAt k b) = key k.now ∷ boolean b ∷ []
