-- Values in a JSON array, as they are written in turn.
use Rattle.std.specs.Prelude.{ℕ, Bool, true, false, List, [], ◌∷◌, ◌++◌}
use Rattle.json.specs.Json.{Json}
use Rattle.lint_forms.specs.JsonValues.{json_text}

abbrev pub comma : Bool → List ℕ
comma false = []
comma true = 44 ∷ []

-- THE TEXT of values after another one, or as the first
abbrev pub array_text : Bool → List Json → List ℕ
array_text is_after [] = []
array_text is_after (j ∷ js) = comma is_after ++ (json_text j ++ array_text true js)
