-- The tokens before the results of SARIF, part by part.
use Rattle.std.proofs.Common.{◌≡◌, ◌∙◌, ◌++◌, ◌∷◌, [], ℕ, List, ap, append_assoc, codes, map, refl, sym}
use Rattle.json.specs.Token.{Token, begin_array, begin_object, end_array, end_object, key, string}
use Rattle.json.specs.Tree.{items_tokens, json_tokens}
use Rattle.rule_set.specs.Rules.{all_rules, rule_name}
use Rattle.rule_set.specs.declared.rule.Rule.{Rule}
use Rattle.lint_forms.specs.Inner.SarifParts.{results_head, rules_tokens, sarif_start}
use Rattle.lint_forms.specs.RuleTexts.{reason, reports}
use Rattle.lint_forms.specs.Sarif.{comment_json, described_rule, full_text, page_of, refusal_json, rule_json, sarif_head}
use Rattle.lint_forms.specs.JsonValues.{json_items}
use Rattle.lint_forms.specs.Words.{level_word}
use Rattle.lint_forms.specs.declared.subject.Subject.TheVariants as subject

abbrev other_tokens : List Token
other_tokens = json_tokens refusal_json ++ json_tokens comment_json

described_tokens : (rules : List Rule) → rules_tokens rules ++ (other_tokens ++ end_array ∷ []) ≡ items_tokens (json_items (map rule_json rules ++ refusal_json ∷ comment_json ∷ []))
described_tokens [] = refl
described_tokens (rule ∷ rules) =
    append_assoc (json_tokens (rule_json rule)) (rules_tokens rules) (other_tokens ++ end_array ∷ [])
    ∙ ap (λ l. json_tokens (rule_json rule) ++ l) (described_tokens rules)

abbrev start_then : List ℕ → List Token → List Token
start_then version ts =
    begin_object ∷ key (codes "$schema") ∷ string (codes "https://json.schemastore.org/sarif-2.1.0.json") ∷ key (codes "version") ∷ string (codes "2.1.0")
    ∷ key (codes "runs") ∷ begin_array ∷ begin_object ∷ key (codes "tool") ∷ begin_object ∷ key (codes "driver") ∷ begin_object
    ∷ key (codes "name") ∷ string (codes "tfrules") ∷ key (codes "version") ∷ string version ∷ key (codes "rules") ∷ begin_array ∷ ts

abbrev last_two : List Token
last_two = key (codes "results") ∷ begin_array ∷ []

-- all parts together
joined : (version : List ℕ) (rules : List Rule)
    → start_then version (((rules_tokens rules ++ json_tokens refusal_json) ++ json_tokens comment_json) ++ (end_array ∷ end_object ∷ end_object ∷ last_two))
    ≡ start_then version (((items_tokens (json_items (map rule_json rules ++ refusal_json ∷ comment_json ∷ [])) ++ end_object ∷ []) ++ end_object ∷ []) ++ last_two)
joined version rules =
    let items = items_tokens (json_items (map rule_json rules ++ refusal_json ∷ comment_json ∷ [])) in
    ap (start_then version)
    (ap (λ l. l ++ (end_array ∷ end_object ∷ end_object ∷ last_two)) (append_assoc (rules_tokens rules) (json_tokens refusal_json) (json_tokens comment_json))
    ∙ append_assoc (rules_tokens rules) other_tokens (end_array ∷ end_object ∷ end_object ∷ last_two)
    ∙ sym (append_assoc (rules_tokens rules) (other_tokens ++ end_array ∷ []) (end_object ∷ end_object ∷ last_two))
    ∙ ap (λ l. l ++ (end_object ∷ end_object ∷ last_two)) (described_tokens rules)
    ∙ sym (append_assoc items (end_object ∷ []) (end_object ∷ last_two))
    ∙ sym (append_assoc (items ++ end_object ∷ []) (end_object ∷ []) last_two))

pub head_tokens : (version : List ℕ) → (((sarif_start version ++ rules_tokens all_rules) ++ json_tokens refusal_json) ++ json_tokens comment_json) ++ results_head ≡ sarif_head version
head_tokens version = joined version all_rules

-- ---- the description of a rule

pub rule_by : (rule : Rule) (n s f w p l : List ℕ) → n ≡ rule_name rule → s ≡ reports rule → f ≡ full_text s w → w ≡ reason rule → p ≡ page_of n → l ≡ level_word (subject.Rule rule)
    → json_tokens (described_rule n s f w p l) ≡ json_tokens (rule_json rule)
rule_by rule n s f w p l en es ef ew ep el =
    let full : f ≡ full_text (reports rule) (reason rule) = ef ∙ (λ i. full_text (es i) (ew i)) in
    let page : p ≡ page_of (rule_name rule) = ep ∙ ap page_of en in
    λ i. json_tokens (described_rule (en i) (es i) (full i) (ew i) (page i) (el i))
