-- The text of a run over modules, in the JSON forms, is that of its document.
use Rattle.std.proofs.Common.{◌≡◌, ◌∙◌, ◌<◌, ◌^◌, ◌++◌, ◌∷◌, ◌||◌, [], ℕ, Bool, false, List, All, ap, append-nil, append_assoc, codes, flat_map, fold, map, refl, sym}
use Rattle.std.proofs.lemmas.List.{map-append}
use Rattle.std.specs.List.{list_any}
use Rattle.std.specs.Prelude.{Some}
use Rattle.std.proofs.lemmas.List.Sums.{fold-append}
use Rattle.json.specs.Json.{Json, document}
use Rattle.json.specs.Print.{ends, print, print_from}
use Rattle.json.specs.Token.{Token, begin_array, begin_object, end_array, end_object, key}
use Rattle.json.specs.Token as token
use Rattle.json.specs.Tree.{items_tokens, json_tokens}
use Rattle.json.proofs.Printed.Tokens.{print_from-append}
use Rattle.json.proofs.Printed.Trees.{document-print}
use Rattle.lint_forms.specs.Forms.{form_foot, form_head, module_text, tflint_foot}
use Rattle.lint_forms.specs.Documents.{is_some, modules_text, run_text}
use Rattle.lint_forms.specs.Gitlab.{quality_json}
use Rattle.lint_forms.specs.Documents.{gitlab_json}
use Rattle.lint_forms.specs.Laws.{HasSmallNumbers}
use Rattle.lint_forms.specs.Marks.{MarkedRemark, entries}
use Rattle.lint_forms.specs.Remarks.{Remark}
use Rattle.lint_forms.specs.Sarif.{invocation_json, result_json, sarif_foot, sarif_head, tool_json}
use Rattle.lint_forms.specs.Documents.{sarif_json}
use Rattle.lint_forms.specs.Tflint.{error_json, issue_json}
use Rattle.lint_forms.specs.Documents.{tflint_json}
use Rattle.lint_forms.specs.JsonValues.{json_items}
use Rattle.lint_forms.specs.Values.{array_text}
use Rattle.lint_forms.specs.declared.kind.Form.{Form}
use Rattle.lint_forms.specs.declared.kind.Form.TheVariants.{Gitlab, Json as TflintForm, Sarif}
use Rattle.lint_forms.proofs.NumberLemmas.{all_small, gitlab_numbers, gitlab_shallow, of_all_small, sarif_numbers, sarif_shallow, tflint_numbers, tflint_shallow}
use Rattle.lint_forms.proofs.ValuesLemmas.{has_values, has_values-append, print-values, values-append}

-- ---- modules

-- a form in which these values represent the issues of a module
pub record IsOfValues (form : Form) (f : List Remark → List Json) : Type 0 where
  pub text : (b : Bool) (rs : List Remark) → module_text form b rs ≡ array_text b (f rs)
  pub some : (rs : List Remark) → is_some rs ≡ has_values (f rs)

modules-values : (form : Form) (f : List Remark → List Json) → IsOfValues form f → (b : Bool) (ms : List (List Remark)) → modules_text form b ms ≡ array_text b (flat_map f ms)
modules-values form f h b [] = refl
modules-values form f h b (rs ∷ ms) =
    ap (λ t. t ++ modules_text form (b || is_some rs) ms) (h.text b rs)
    ∙ ap (λ c. array_text b (f rs) ++ modules_text form (b || c) ms) (h.some rs)
    ∙ ap (λ l. array_text b (f rs) ++ l) (modules-values form f h (b || has_values (f rs)) ms)
    ∙ sym (values-append b (f rs) (flat_map f ms))

some-values : (form : Form) (f : List Remark → List Json) → IsOfValues form f → (ms : List (List Remark)) → list_any is_some ms ≡ has_values (flat_map f ms)
some-values form f h [] = refl
some-values form f h (rs ∷ ms) =
    ap (λ c. c || list_any is_some ms) (h.some rs) ∙ ap (λ c. has_values (f rs) || c) (some-values form f h ms) ∙ sym (has_values-append (f rs) (flat_map f ms))

tflint_values : IsOfValues TflintForm (map issue_json)
tflint_values = record { text = λ b rs. refl; some = some }
  where
    some : (rs : List Remark) → is_some rs ≡ has_values (map issue_json rs)
    some [] = refl
    some (r ∷ rs) = refl

sarif_values : IsOfValues Sarif (λ rs. map result_json (entries rs))
sarif_values = record { text = λ b rs. refl; some = some }
  where
    some : (rs : List Remark) → is_some rs ≡ has_values (map result_json (entries rs))
    some [] = refl
    some (r ∷ rs) = refl

gitlab_values : IsOfValues Gitlab (λ rs. map quality_json (entries rs))
gitlab_values = record { text = λ b rs. refl; some = some }
  where
    some : (rs : List Remark) → is_some rs ≡ has_values (map quality_json (entries rs))
    some [] = refl
    some (r ∷ rs) = refl

mapped : {A B C : Type 0} (g : B → C) (f : A → List B) (xs : List A) → flat_map (λ x. map g (f x)) xs ≡ map g (flat_map f xs)
mapped g f [] = refl
mapped g f (x ∷ xs) = ap (λ l. map g (f x) ++ l) (mapped g f xs) ∙ sym (map-append g (f x) (flat_map f xs))

-- ---- arrays

abbrev ended : List Token → Bool
ended ts = fold (λ _ t. ends t) false ts

-- tokens whose last one opens an array, its values, and the tokens after it
print-array : (before : List Token) (js : List Json) (later : List Token) → ended before ≡ false
    → print (before ++ (items_tokens (json_items js) ++ later)) ≡ print before ++ (array_text false js ++ print (end_array ∷ later))
print-array before js later opened =
    print_from-append false before (items_tokens (json_items js) ++ later)
    ∙ ap (λ b. print before ++ print_from b (items_tokens (json_items js) ++ later)) opened
    ∙ ap (λ l. print before ++ l) (print-values false js later)

-- a whole of three parts
framed : (form : Form) (version : List ℕ) (status : ℕ) (ms : List (List Remark)) (rs : List Remark) (f : List Remark → List Json) (j : Json) → IsOfValues form f
    → print (json_tokens j) ≡ form_head form version ++ (array_text false (flat_map f ms) ++ form_foot form status (has_values (flat_map f ms)) rs)
    → run_text form version status ms rs ≡ print (json_tokens j)
framed form version status ms rs f j h parts =
    ap (λ l. form_head form version ++ (l ++ form_foot form status (list_any is_some ms) rs)) (modules-values form f h false ms)
    ∙ ap (λ b. form_head form version ++ (array_text false (flat_map f ms) ++ form_foot form status b rs)) (some-values form f h ms)
    ∙ sym parts

-- ---- TFLint

tflint_parts : (issues refusals : List Remark)
    → print (json_tokens (tflint_json issues refusals)) ≡ print (begin_object ∷ key (codes "issues") ∷ begin_array ∷ []) ++ (array_text false (map issue_json issues) ++ tflint_foot refusals)
tflint_parts issues refusals =
    let errors = map error_json refusals in
    let before = begin_object ∷ key (codes "issues") ∷ begin_array ∷ [] in
    print-array before (map issue_json issues) (key (codes "errors") ∷ begin_array ∷ (items_tokens (json_items errors) ++ end_object ∷ [])) refl
    ∙ ap (λ l. print before ++ (array_text false (map issue_json issues) ++ l)) (print-array (end_array ∷ key (codes "errors") ∷ begin_array ∷ []) errors (end_object ∷ []) refl)

pub tflint_back : (version : List ℕ) (status : ℕ) (ms : List (List Remark)) (rs : List Remark) → status < 2 ^ 64 → All (All HasSmallNumbers) ms → All HasSmallNumbers rs
    → document (run_text TflintForm version status ms rs) ≡ Some (tflint_json (flat_map (λ issues. issues) ms) rs)
tflint_back version status ms rs low small less =
    let issues = flat_map (λ issues. issues) ms in
    let parts = tflint_parts issues rs ∙ ap (λ js. print (begin_object ∷ key (codes "issues") ∷ begin_array ∷ []) ++ (array_text false js ++ tflint_foot rs)) (sym (mapped issue_json (λ issues. issues) ms)) in
    ap document (framed TflintForm version status ms rs (map issue_json) (tflint_json issues rs) tflint_values parts)
    ∙ document-print (tflint_json issues rs) (tflint_numbers issues rs (of_all_small HasSmallNumbers (λ issues. issues) (λ issues h. h) ms small) less) (tflint_shallow issues rs)

-- ---- values of modules and of refusals

joined : (f : MarkedRemark → Json) (ms : List (List Remark)) (rs : List Remark) (before end : List ℕ)
    → before ++ (array_text false (map f (flat_map entries ms ++ entries rs)) ++ end)
    ≡ before ++ (array_text false (flat_map (λ issues. map f (entries issues)) ms) ++ (array_text (has_values (flat_map (λ issues. map f (entries issues)) ms)) (map f (entries rs)) ++ end))
joined f ms rs before end =
    let js = flat_map (λ issues. map f (entries issues)) ms in
    ap (λ l. before ++ (array_text false l ++ end)) (map-append f (flat_map entries ms) (entries rs) ∙ ap (λ l. l ++ map f (entries rs)) (sym (mapped f entries ms)))
    ∙ ap (λ l. before ++ (l ++ end)) (values-append false js (map f (entries rs)))
    ∙ ap (λ l. before ++ l) (append_assoc (array_text false js) (array_text (has_values js) (map f (entries rs))) end)

-- ---- GitLab

gitlab_parts : (es : List MarkedRemark) → print (json_tokens (gitlab_json es)) ≡ print (begin_array ∷ []) ++ (array_text false (map quality_json es) ++ print (end_array ∷ []))
gitlab_parts es =
    ap (λ l. print (begin_array ∷ l)) (sym (append-nil (items_tokens (json_items (map quality_json es))))) ∙ print-array (begin_array ∷ []) (map quality_json es) [] refl

pub gitlab_back : (version : List ℕ) (status : ℕ) (ms : List (List Remark)) (rs : List Remark) → status < 2 ^ 64 → All (All HasSmallNumbers) ms → All HasSmallNumbers rs
    → document (run_text Gitlab version status ms rs) ≡ Some (gitlab_json (flat_map entries ms ++ entries rs))
gitlab_back version status ms rs low small less =
    let es = flat_map entries ms ++ entries rs in
    ap document (framed Gitlab version status ms rs (λ issues. map quality_json (entries issues)) (gitlab_json es) gitlab_values
    (gitlab_parts es ∙ joined quality_json ms rs (print (begin_array ∷ [])) (print (end_array ∷ []))))
    ∙ document-print (gitlab_json es) (gitlab_numbers es (all_small ms rs small less)) (gitlab_shallow es)

-- ---- SARIF

abbrev front : List Token → List Token
front ts =
    begin_object ∷ key (codes "$schema") ∷ token.string (codes "https://json.schemastore.org/sarif-2.1.0.json") ∷ key (codes "version") ∷ token.string (codes "2.1.0")
    ∷ key (codes "runs") ∷ begin_array ∷ begin_object ∷ key (codes "tool") ∷ ts

abbrev middle : List Token → List Token
middle ts = key (codes "results") ∷ begin_array ∷ ts

abbrev later_of : ℕ → List Token
later_of status = key (codes "invocations") ∷ begin_array ∷ (json_tokens (invocation_json status) ++ end_array ∷ end_object ∷ end_array ∷ end_object ∷ [])

abbrev in_run : ℕ → List Token
in_run status = key (codes "invocations") ∷ begin_array ∷ ((json_tokens (invocation_json status) ++ end_array ∷ []) ++ end_object ∷ [])

split : (tool results : List Token) (status : ℕ)
    → ((tool ++ middle (results ++ in_run status)) ++ end_array ∷ []) ++ end_object ∷ [] ≡ (tool ++ middle []) ++ (results ++ later_of status)
split tool results status =
    append_assoc (tool ++ middle (results ++ in_run status)) (end_array ∷ []) (end_object ∷ [])
    ∙ append_assoc tool (middle (results ++ in_run status)) (end_array ∷ end_object ∷ [])
    ∙ ap (λ l. tool ++ middle l) (append_assoc results (in_run status) (end_array ∷ end_object ∷ []))
    ∙ sym (append_assoc tool (middle []) (results ++ later_of status))

sarif_parts : (version : List ℕ) (status : ℕ) (es : List MarkedRemark)
    → print (json_tokens (sarif_json version status es)) ≡ print (sarif_head version) ++ (array_text false (map result_json es) ++ print (sarif_foot status))
sarif_parts version status es =
    let results = map result_json es in
    ap (λ l. print (front l)) (split (json_tokens (tool_json version)) (items_tokens (json_items results)) status)
    ∙ print-array (sarif_head version) results (later_of status) (fold-append (λ _ t. ends t) false (json_tokens (tool_json version)) (middle []))

pub sarif_back : (version : List ℕ) (status : ℕ) (ms : List (List Remark)) (rs : List Remark) → status < 2 ^ 64 → All (All HasSmallNumbers) ms → All HasSmallNumbers rs
    → document (run_text Sarif version status ms rs) ≡ Some (sarif_json version status (flat_map entries ms ++ entries rs))
sarif_back version status ms rs low small less =
    let es = flat_map entries ms ++ entries rs in
    ap document (framed Sarif version status ms rs (λ issues. map result_json (entries issues)) (sarif_json version status es) sarif_values
    (sarif_parts version status es ∙ joined result_json ms rs (print (sarif_head version)) (print (sarif_foot status))))
    ∙ document-print (sarif_json version status es) (sarif_numbers version status es low (all_small ms rs small less)) (sarif_shallow version status es)
