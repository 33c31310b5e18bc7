-- Parts of replies and of other messages.
use Rattle.std.specs.Prelude.{ℕ, List, [], ◌∷◌, ◌++◌, Bool, Option, Some, None, codes, decimal, flat_map}
use Rattle.json.specs.Json.{Json}
use Rattle.json.specs.Token.{Token, begin_array, begin_object, boolean, end_object, key, number, string}
use Rattle.json.specs.Tree.{json_tokens}
use Rattle.text_places.specs.PlacedEdits.{PlacedEdit}
use Rattle.editor_messages.specs.Diagnostics.{Diagnostic, diagnostic_json}
use Rattle.editor_messages.specs.Replies.{edit_json, range_json}
use Rattle.text_places.specs.declared.ranges.Range.{Range}
use Rattle.lint_forms.specs.Sarif.{page_of}
use Rattle.rule_set.specs.Rules.{rule_name}
use Rattle.rule_set.specs.declared.rule.Rule.{Rule}

-- a reply up to the member of this name
abbrev pub reply_head : Json → List ℕ → List Token
reply_head id name =
    begin_object ∷ key (codes "jsonrpc") ∷ string (codes "2.0") ∷ key (codes "id") ∷ (json_tokens id ++ key name ∷ [])

-- what the server can do up to how it can change names, and the rest
abbrev pub capabilities_head : List ℕ → List Token
capabilities_head encoding =
    begin_object ∷ key (codes "capabilities") ∷ begin_object ∷ key (codes "positionEncoding") ∷ string encoding ∷ key (codes "textDocumentSync")
    ∷ begin_object ∷ key (codes "openClose") ∷ boolean Bool.true ∷ key (codes "change") ∷ number (decimal 1) ∷ end_object
    ∷ key (codes "documentFormattingProvider") ∷ boolean Bool.true ∷ key (codes "documentSymbolProvider") ∷ boolean Bool.true ∷ key (codes "foldingRangeProvider") ∷ boolean Bool.true
    ∷ key (codes "definitionProvider") ∷ boolean Bool.true ∷ key (codes "referencesProvider") ∷ boolean Bool.true ∷ key (codes "renameProvider") ∷ []

abbrev pub capabilities_tail : List ℕ → List Token
capabilities_tail version =
    end_object ∷ key (codes "serverInfo") ∷ begin_object ∷ key (codes "name") ∷ string (codes "tfls") ∷ key (codes "version") ∷ string version ∷ end_object ∷ end_object ∷ []

abbrev pub edits_tokens : List PlacedEdit → List Token
edits_tokens edits = flat_map (λ edit. json_tokens (edit_json edit)) edits

-- a message of diagnostics up to these
abbrev pub diagnostics_head : List ℕ → List Token
diagnostics_head uri =
    begin_object ∷ key (codes "jsonrpc") ∷ string (codes "2.0") ∷ key (codes "method") ∷ string (codes "textDocument/publishDiagnostics") ∷ key (codes "params")
    ∷ begin_object ∷ key (codes "uri") ∷ string uri ∷ key (codes "diagnostics") ∷ begin_array ∷ []

-- a diagnostic up to its severity
abbrev pub front_tokens : Range → ℕ → List Token
front_tokens range severity = begin_object ∷ key (codes "range") ∷ (json_tokens (range_json range.start range.end) ++ key (codes "severity") ∷ number (decimal severity) ∷ [])

abbrev pub rule_tokens : Option Rule → List Token
rule_tokens None = []
rule_tokens (Some rule) =
    key (codes "code") ∷ string (rule_name rule) ∷ key (codes "codeDescription") ∷ begin_object ∷ key (codes "href") ∷ string (page_of (rule_name rule)) ∷ end_object ∷ []

abbrev pub diagnostics_tokens : List Diagnostic → List Token
diagnostics_tokens ds = flat_map (λ d. json_tokens (diagnostic_json d)) ds
