-- The elements of a JSON array of some remarks, shape by shape.
use Rattle.std.proofs.Common.{◌≡◌, ◌∙◌, ◌++◌, ◌∷◌, [], ℕ, List, ap, append_assoc, flat_map, map, refl}
use Rattle.std.proofs.lemmas.List.Concat.{flat_map_single}
use Rattle.std.specs.Prelude.{IfOk, Result, Ok, Err}
use Rattle.json.specs.Tree.{json_tokens}
use Rattle.lint_forms.specs.Gitlab.{quality_by, quality_json}
use Rattle.lint_forms.specs.Inner.Shapes.{entry_by, shape_json, shape_values}
use Rattle.lint_forms.specs.Marks.{entries}
use Rattle.lint_forms.specs.Places.{uri}
use Rattle.lint_forms.specs.Remarks.{Remark}
use Rattle.lint_forms.specs.Sarif.{result_by, result_json, rule_index}
use Rattle.lint_forms.specs.Tflint.{error_json, issue_json}
use Rattle.lint_forms.specs.Words.{level_word, quality_word, rule_id}
use Rattle.lint_forms.specs.declared.entry.MarkedRemark as code
use Rattle.lint_forms.specs.declared.shape.Shape.{Shape}
use Rattle.lint_forms.specs.declared.shape.Shape.TheVariants as shape
use Rattle.lint_forms.proofs.NumberingLemmas.{said_again}

-- ---- a result as it is, or rewritten

pub ok_as : {V E : Type 0} (items : V → List ℕ) (r : Result V E) (xs ys : List ℕ) → xs ≡ ys → IfOk r (λ v. items v ≡ xs) → IfOk r (λ v. items v ≡ ys)
ok_as items (Ok v) xs ys e is = is ∙ e
ok_as items (Err f) xs ys e is = tt

-- a text in four steps, the first from nothing
pub in_steps : (n s l p v w e : List ℕ) → n ≡ [] → s ≡ n ++ p → l ≡ s ++ v → v ≡ w → l ++ e ≡ p ++ (w ++ e)
in_steps n s l p v w e none started longer same =
    ap (λ x. x ++ e) (longer ∙ ap (λ x. x ++ v) (started ∙ ap (λ x. x ++ p) none)) ∙ append_assoc p v e ∙ ap (λ x. p ++ (x ++ e)) same

-- ---- one entry

pub entry_tokens : (r : Remark) (m n s k : List ℕ) → n ≡ rule_id r.subject → s ≡ quality_word r.subject → k ≡ m
    → json_tokens (quality_by n s (record { said = r; mark = k })) ≡ json_tokens (quality_json (record { said = r; mark = m }))
entry_tokens r m n s k e f g = λ i. json_tokens (quality_by (e i) (f i) (record { said = r; mark = g i }))

pub result_words : (r : Remark) (m u n : List ℕ) (k : ℕ) (l : List ℕ) → n ≡ rule_id r.subject → k ≡ rule_index r.subject → l ≡ level_word r.subject
    → json_tokens (result_by n k l u (record { said = r; mark = m })) ≡ json_tokens (result_by (rule_id r.subject) (rule_index r.subject) (level_word r.subject) u (record { said = r; mark = m }))
result_words r m u n k l e f g = λ i. json_tokens (result_by (e i) (f i) (g i) u (record { said = r; mark = m }))

pub result_tokens : (r : Remark) (m u k : List ℕ) → u ≡ uri r.file → k ≡ m
    → json_tokens (result_by (rule_id r.subject) (rule_index r.subject) (level_word r.subject) u (record { said = r; mark = k })) ≡ json_tokens (result_json (record { said = r; mark = m }))
result_tokens r m u k e f = λ i. json_tokens (result_by (rule_id r.subject) (rule_index r.subject) (level_word r.subject) (e i) (record { said = r; mark = f i }))

-- ---- all of them

pub all_shown : (s : Shape) (es : List code.MarkedRemark) (rs : List Remark) → map entry_by es ≡ entries rs → flat_map (shape_values s) es ≡ map (shape_json s) (entries rs)
all_shown s es rs is = flat_map_single (λ e. shape_json s (entry_by e)) es ∙ fused es ∙ ap (map (shape_json s)) is
  where
    fused : (es : List code.MarkedRemark) → map (λ e. shape_json s (entry_by e)) es ≡ map (shape_json s) (map entry_by es)
    fused [] = refl
    fused (e ∷ es) = ap (λ l. shape_json s (entry_by e) ∷ l) (fused es)

pub shown_issues : (rs : List Remark) → map (shape_json shape.TflintIssue) (entries rs) ≡ map issue_json rs
shown_issues rs = said_again issue_json rs

pub shown_errors : (rs : List Remark) → map (shape_json shape.TflintError) (entries rs) ≡ map error_json rs
shown_errors rs = said_again error_json rs
