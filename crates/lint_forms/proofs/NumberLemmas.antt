-- The numbers of the documents are numbers, and the documents aren't deeply nested.
use Rattle.std.proofs.Common.{◌≤◌, ◌<◌, ◌^◌, ◌++◌, ◌∷◌, [], ℕ, All, List, arith, flat_map, lit<, map}
use Rattle.std.proofs.lemmas.List.Elements.{All-append, All-cons, All-head, All-nil, All-tail}
use Rattle.std.specs.Prelude.{decimal}
use Rattle.json.specs.Json.{Json}
use Rattle.json.specs.Json as json
use Rattle.json.specs.Tree.{HasNumbers, ItemsHaveNumbers, depth, items_depth}
use Rattle.json.proofs.Printed.Decimals.{IsNumber-decimal}
use Rattle.rule_set.specs.Rules.{all_rules}
use Rattle.rule_set.specs.declared.rule.Rule.{Rule}
use Rattle.rule_set.specs.declared.rule.Rule.TheVariants.{CommentSyntax, DeprecatedIndex, DeprecatedInterpolation, DocumentedOutputs, DocumentedVariables, ModulePinnedSource, ModuleVersion, NamingConvention, TypedVariables, UnusedDeclarations}
use Rattle.lint_forms.specs.Gitlab.{quality_json}
use Rattle.lint_forms.specs.Documents.{gitlab_json}
use Rattle.lint_forms.specs.Laws.{HasSmallNumbers}
use Rattle.lint_forms.specs.Marks.{MarkedRemark, entries, entries_after, entry_after}
use Rattle.lint_forms.specs.Places.{uri}
use Rattle.lint_forms.specs.Remarks.{Remark}
use Rattle.lint_forms.specs.Sarif.{comment_json, location_json, refusal_json, region_json, result_json, rule_index, rule_json}
use Rattle.lint_forms.specs.Documents.{sarif_json}
use Rattle.lint_forms.specs.Tflint.{error_json, issue_json, place_json, range_json}
use Rattle.lint_forms.specs.Documents.{tflint_json}
use Rattle.lint_forms.specs.JsonValues.{json_items}
use Rattle.lint_forms.specs.declared.subject.Subject.{Subject}
use Rattle.lint_forms.specs.declared.subject.Subject.TheVariants as subject

-- ---- lists of values

items_numbers : {A : Type 0} (P : A → Type 0) (f : A → Json) → ((a : A) → P a → HasNumbers (f a)) → (xs : List A) → All P xs → ItemsHaveNumbers (json_items (map f xs))
items_numbers P f each [] all = tt
items_numbers P f each (x ∷ xs) all = (each x (All-head P x xs all), items_numbers P f each xs (All-tail P x xs all))

items_shallow : {A : Type 0} (f : A → Json) (n : ℕ) → ((a : A) → depth (f a) ≤ n) → (xs : List A) → items_depth (json_items (map f xs)) ≤ n
items_shallow f n each [] = omega arith
items_shallow f n each (x ∷ xs) = omega (arith, each x, items_shallow f n each xs)

-- ---- one remark

number_of : (n : ℕ) → n < 2 ^ 64 → HasNumbers (json.number (decimal n))
number_of n h = IsNumber-decimal n h

place_numbers : (line column : ℕ) → line < 2 ^ 64 → column < 2 ^ 64 → HasNumbers (place_json line column)
place_numbers line column h k = (number_of line h, (number_of column k, tt))

range_numbers : (r : Remark) → HasSmallNumbers r → HasNumbers (range_json r)
range_numbers r h = (tt, (place_numbers r.line r.column h.line h.column, (place_numbers r.line r.column h.line h.column, tt)))

issue_numbers : (r : Remark) → HasSmallNumbers r → HasNumbers (issue_json r)
issue_numbers r h = ((tt, (tt, (tt, tt))), (tt, (range_numbers r h, (tt, tt))))

error_numbers : (r : Remark) → HasSmallNumbers r → HasNumbers (error_json r)
error_numbers r h = (tt, (tt, (range_numbers r h, tt)))

abbrev pub IsSmall : MarkedRemark → Type 0
IsSmall e = HasSmallNumbers e.said

quality_numbers : (e : MarkedRemark) → IsSmall e → HasNumbers (quality_json e)
quality_numbers e h = (tt, (tt, (tt, (tt, ((tt, ((number_of e.said.line h.line, tt), tt)), tt)))))

index_small : (s : Subject) → rule_index s < 2 ^ 64
index_small subject.Refusal = lit< tt
index_small subject.Comment = lit< tt
index_small (subject.Rule CommentSyntax) = lit< tt
index_small (subject.Rule DeprecatedIndex) = lit< tt
index_small (subject.Rule DeprecatedInterpolation) = lit< tt
index_small (subject.Rule DocumentedOutputs) = lit< tt
index_small (subject.Rule DocumentedVariables) = lit< tt
index_small (subject.Rule ModulePinnedSource) = lit< tt
index_small (subject.Rule ModuleVersion) = lit< tt
index_small (subject.Rule NamingConvention) = lit< tt
index_small (subject.Rule TypedVariables) = lit< tt
index_small (subject.Rule UnusedDeclarations) = lit< tt

region_numbers : (r : Remark) → HasSmallNumbers r → HasNumbers (region_json r)
region_numbers r h = (number_of r.line h.line, tt)

location_numbers : (uri : List ℕ) (r : Remark) → HasSmallNumbers r → HasNumbers (location_json uri r)
location_numbers uri r h = (((tt, tt), (region_numbers r h, tt)), tt)

result_numbers : (e : MarkedRemark) → IsSmall e → HasNumbers (result_json e)
result_numbers e h =
    (tt, (number_of (rule_index e.said.subject) (index_small e.said.subject), (tt, ((tt, tt), ((location_numbers (uri e.said.file) e.said h, tt), ((tt, (tt, tt)), tt))))))

-- ---- entries

entries_small : (before rs : List Remark) → All HasSmallNumbers rs → All IsSmall (entries_after before rs)
entries_small before [] h = All-nil IsSmall
entries_small before (r ∷ rs) h =
    All-cons IsSmall (entry_after before r) (entries_after (before ++ r ∷ []) rs) (All-head HasSmallNumbers r rs h)
    (entries_small (before ++ r ∷ []) rs (All-tail HasSmallNumbers r rs h))

pub of_all_small : {A : Type 0} (P : A → Type 0) (f : List Remark → List A) → ((rs : List Remark) → All HasSmallNumbers rs → All P (f rs))
    → (ms : List (List Remark)) → All (All HasSmallNumbers) ms → All P (flat_map f ms)
of_all_small P f each [] h = All-nil P
of_all_small P f each (rs ∷ ms) h =
    All-append P (f rs) (flat_map f ms) (each rs (All-head (All HasSmallNumbers) rs ms h)) (of_all_small P f each ms (All-tail (All HasSmallNumbers) rs ms h))

pub all_small : (ms : List (List Remark)) (rs : List Remark) → All (All HasSmallNumbers) ms → All HasSmallNumbers rs → All IsSmall (flat_map entries ms ++ entries rs)
all_small ms rs h k = All-append IsSmall (flat_map entries ms) (entries rs) (of_all_small IsSmall entries (entries_small []) ms h) (entries_small [] rs k)

-- ---- the documents

pub tflint_numbers : (issues refusals : List Remark) → All HasSmallNumbers issues → All HasSmallNumbers refusals → HasNumbers (tflint_json issues refusals)
tflint_numbers issues refusals h k =
    (items_numbers HasSmallNumbers issue_json issue_numbers issues h, (items_numbers HasSmallNumbers error_json error_numbers refusals k, tt))

pub gitlab_numbers : (es : List MarkedRemark) → All IsSmall es → HasNumbers (gitlab_json es)
gitlab_numbers es h = items_numbers IsSmall quality_json quality_numbers es h

rule_numbers : (rule : Rule) → HasNumbers (rule_json rule)
rule_numbers rule = (tt, ((tt, tt), ((tt, tt), ((tt, (tt, tt)), (tt, ((tt, tt), tt))))))

described_numbers : (rules : List Rule) → ItemsHaveNumbers (json_items (map rule_json rules ++ refusal_json ∷ comment_json ∷ []))
described_numbers [] = ((tt, ((tt, tt), ((tt, tt), tt))), ((tt, ((tt, tt), ((tt, tt), tt))), tt))
described_numbers (rule ∷ rules) = (rule_numbers rule, described_numbers rules)

pub sarif_numbers : (version : List ℕ) (status : ℕ) (es : List MarkedRemark) → status < 2 ^ 64 → All IsSmall es → HasNumbers (sarif_json version status es)
sarif_numbers version status es small h = (
  tt,
  (
    tt,
    (
      (
        (
          ((tt, (tt, (described_numbers all_rules, tt))), tt),
          (items_numbers IsSmall result_json result_numbers es h, (((tt, (number_of status small, tt)), tt), tt)),
        ),
        tt,
      ),
      tt,
    ),
  ),
)

-- ---- depths

described_shallow : (rules : List Rule) → items_depth (json_items (map rule_json rules ++ refusal_json ∷ comment_json ∷ [])) ≤ 2
described_shallow [] = omega arith
described_shallow (rule ∷ rules) = omega (arith, described_shallow rules)

pub tflint_shallow : (issues refusals : List Remark) → depth (tflint_json issues refusals) ≤ 128
tflint_shallow issues refusals = omega (arith, items_shallow issue_json 3 (λ r. omega arith) issues, items_shallow error_json 3 (λ r. omega arith) refusals)

pub gitlab_shallow : (es : List MarkedRemark) → depth (gitlab_json es) ≤ 128
gitlab_shallow es = omega (arith, items_shallow quality_json 3 (λ e. omega arith) es)

pub sarif_shallow : (version : List ℕ) (status : ℕ) (es : List MarkedRemark) → depth (sarif_json version status es) ≤ 128
sarif_shallow version status es = omega (arith, described_shallow all_rules, items_shallow result_json 5 (λ e. omega arith) es)
