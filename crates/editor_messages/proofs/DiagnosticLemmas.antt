-- The tokens of diagnostics that are written in turn.
use Rattle.std.proofs.Common.{◌≡◌, ◌∙◌, ◌+◌, ◌<◌, ◌++◌, ◌∷◌, [], ℕ, List, ap, append-nil, append_assoc, get_or, length, map, sym, take}
use Rattle.std.proofs.lemmas.List.{map-append, take_more}
use Rattle.std.proofs.lemmas.List.Concat.{flat_map-append}
use Rattle.std.specs.Prelude.{Option, Some, None, codes}
use Rattle.json.specs.Token.{end_array, end_object, key, string}
use Rattle.text_places.specs.declared.ranges.Range.{Range}
use Rattle.rule_set.specs.declared.rule.Rule.{Rule}
use Rattle.json.specs.Tree.{items_tokens, json_tokens}
use Rattle.lint_forms.specs.JsonValues.{json_items}
use Rattle.editor_messages.specs.Diagnostics.{Diagnostic as SpecDiagnostic, diagnostic_json, diagnostics_json, severity_by}
use Rattle.editor_messages.specs.Inner.Heads.{diagnostics_head, diagnostics_tokens, front_tokens, rule_tokens}
use Rattle.editor_messages.specs.Views.{diagnostic_seen}
use Rattle.editor_messages.specs.declared.diagnostic.Diagnostic.{Diagnostic}
use Rattle.editor_messages.proofs.EditTokenLemmas.{array_tokens}

pub one_more_diagnostic : (ds : List Diagnostic) (n : ℕ) (d : Diagnostic) → n < length ds
    → diagnostics_tokens (map diagnostic_seen (take n ds)) ++ json_tokens (diagnostic_json (diagnostic_seen (get_or ds n d))) ≡ diagnostics_tokens (map diagnostic_seen (take (n + 1) ds))
one_more_diagnostic ds n d within = sym more
  where
    next : Diagnostic
    next = get_or ds n d

    more : diagnostics_tokens (map diagnostic_seen (take (n + 1) ds)) ≡ diagnostics_tokens (map diagnostic_seen (take n ds)) ++ json_tokens (diagnostic_json (diagnostic_seen next))
    more =
        ap (λ l. diagnostics_tokens (map diagnostic_seen l)) (take_more ds n d within)
        ∙ ap diagnostics_tokens (map-append diagnostic_seen (take n ds) (next ∷ []))
        ∙ flat_map-append (λ e. json_tokens (diagnostic_json e)) (map diagnostic_seen (take n ds)) (diagnostic_seen next ∷ [])
        ∙ ap (λ l. diagnostics_tokens (map diagnostic_seen (take n ds)) ++ l) (append-nil (json_tokens (diagnostic_json (diagnostic_seen next))))

pub message_tokens : (uri : List ℕ) (ds : List SpecDiagnostic) → (diagnostics_head uri ++ diagnostics_tokens ds) ++ (end_array ∷ end_object ∷ end_object ∷ []) ≡ json_tokens (diagnostics_json uri ds)
message_tokens uri ds =
    let ends = end_object ∷ [] in
    append_assoc (diagnostics_head uri) (diagnostics_tokens ds) (end_array ∷ end_object ∷ ends)
    ∙ ap (λ l. diagnostics_head uri ++ l)
    (sym (append_assoc (diagnostics_tokens ds) (end_array ∷ []) (end_object ∷ ends)) ∙ ap (λ l. l ++ end_object ∷ ends) (sym (array_tokens diagnostic_json ds))
    ∙ sym (append_assoc (items_tokens (json_items (map diagnostic_json ds))) ends ends))

pub one_diagnostic : (range : Range) (rule : Option Rule) (text : List ℕ) (severity : ℕ) → severity ≡ severity_by rule
    → (front_tokens range severity ++ rule_tokens rule) ++ (key (codes "source") ∷ string (codes "tfls") ∷ key (codes "message") ∷ string text ∷ end_object ∷ [])
    ≡ json_tokens (diagnostic_json (record { range = range; rule = rule; text = text }))
one_diagnostic range None text severity e = ap (λ n. (front_tokens range n ++ []) ++ (key (codes "source") ∷ string (codes "tfls") ∷ key (codes "message") ∷ string text ∷ end_object ∷ [])) e
one_diagnostic range (Some rule) text severity e = ap (λ n. (front_tokens range n ++ rule_tokens (Some rule)) ++ (key (codes "source") ∷ string (codes "tfls") ∷ key (codes "message") ∷ string text ∷ end_object ∷ [])) e
