-- Parts of the text before the results.
use Rattle.std.specs.Prelude.{ℕ, List, [], ◌∷◌, codes, flat_map}
use Rattle.json.specs.Tree.{json_tokens}
use Rattle.rule_set.specs.declared.rule.Rule.{Rule}
use Rattle.lint_forms.specs.Sarif.{rule_json}
use Rattle.json.specs.Token.{Token, begin_array, begin_object, end_array, end_object, key, string}

abbrev pub sarif_start : List ℕ → List Token
sarif_start version =
    begin_object ∷ key (codes "$schema") ∷ string (codes "https://json.schemastore.org/sarif-2.1.0.json") ∷ key (codes "version") ∷ string (codes "2.1.0")
    ∷ key (codes "runs") ∷ begin_array ∷ begin_object ∷ key (codes "tool") ∷ begin_object ∷ key (codes "driver") ∷ begin_object
    ∷ key (codes "name") ∷ string (codes "tfrules") ∷ key (codes "version") ∷ string version ∷ key (codes "rules") ∷ begin_array ∷ []

abbrev pub results_head : List Token
results_head = end_array ∷ end_object ∷ end_object ∷ key (codes "results") ∷ begin_array ∷ []

abbrev pub rules_tokens : List Rule → List Token
rules_tokens rules = flat_map (λ rule. json_tokens (rule_json rule)) rules
