-- The rules that are silenced on a line, comment by comment.
use Rattle.std.proofs.Common.{◌≡◌, ◌∙◌, ap, sym, refl, ℕ, ◌+◌, ◌-◌, ◌≤◌, ◌<◌, Bool, true, false, cond, List, [], ◌∷◌, ◌++◌, map, take, filter, length, get_or, arith, inl, inr}
use Rattle.std.specs.Prelude.{◌⊎◌, ◌==◌, ◌&&◌, ◌||◌, Option, Some}
use Rattle.std.specs.List.{list_any}
use Rattle.std.specs.Map.{lookup}
use Rattle.std.proofs.lemmas.Bool.{and_left, and_right, cases_eq, cases_lt, eq-eqb, ne_eqb, or_from}
use Rattle.std.proofs.lemmas.List.{map-append, take_more}
use Rattle.std.proofs.lemmas.List.Elements.{filter-append}
use Rattle.std.proofs.lemmas.List.Folds.{list_any-append}
use Rattle.indexmap.specs.IndexMap.{IndexMap, index_map_len}
use Rattle.tf_facts.specs.Comments.{Comment, is_any}
use Rattle.tf_rules.specs.Issues.{Issue, Place, covers, is_silenced}
use Rattle.rule_set.specs.Rules.{all_rules, is_rule}
use Rattle.rule_set.specs.RuleSets.{holds, rules_of}
use Rattle.tf_rules.specs.Inner.Entries.{issue_of, issues_of}
use Rattle.tf_rules.specs.Inner.StoredViews.{stored_comment}
use Rattle.tf_rules.specs.Inner.SilencedLines.{is_in_set, is_on, same_line, silenced_at}
use Rattle.tf_rules.specs.declared.entry.IssueEntry.{IssueEntry}
use Rattle.tf_rules.specs.declared.stored.StoredComment.{StoredComment}
use Rattle.rule_set.specs.declared.rule.Rule.{Rule}
use Rattle.rule_set.specs.declared.rule.Rule.TheVariants.{CommentSyntax, DeprecatedIndex, DeprecatedInterpolation, DocumentedOutputs, DocumentedVariables, ModulePinnedSource, ModuleVersion, NamingConvention, TypedVariables, UnusedDeclarations}
use Rattle.rule_set.specs.declared.rule_set.RuleSet.{RuleSet}

or_false : (b : Bool) → (b || false) ≡ b
or_false true = refl
or_false false = refl

or_true : (b : Bool) → (b || true) ≡ true
or_true true = refl
or_true false = refl

-- ---- sets

any_filter : (p q : Rule → Bool) (xs : List Rule) → list_any p (filter q xs) ≡ list_any (λ x. p x && q x) xs
any_filter p q [] = refl
any_filter p q (x ∷ xs) = by (q x) (p x) (any_filter p q xs)
  where
    by : (b v : Bool) → list_any p (filter q xs) ≡ list_any (λ y. p y && q y) xs → list_any p (cond b (x ∷ filter q xs) (filter q xs)) ≡ ((p x && b) || list_any (λ y. p y && q y) xs)
    by true v h = shuffle (p x) (list_any p (filter q xs)) (list_any (λ y. p y && q y) xs) h
      where
        shuffle : (a c d : Bool) → c ≡ d → (a || c) ≡ ((a && true) || d)
        shuffle true c d e = refl
        shuffle false c d e = e
    by false v h = shuffle (p x) (list_any p (filter q xs)) (list_any (λ y. p y && q y) xs) h
      where
        shuffle : (a c d : Bool) → c ≡ d → c ≡ ((a && false) || d)
        shuffle true c d e = e
        shuffle false c d e = e

pub among : (set : RuleSet) (rule : Rule) → list_any (is_rule rule) (rules_of set) ≡ holds set rule
among set CommentSyntax = any_filter (is_rule CommentSyntax) (holds set) all_rules ∙ or_false (holds set CommentSyntax)
among set DeprecatedIndex = any_filter (is_rule DeprecatedIndex) (holds set) all_rules ∙ or_false (holds set DeprecatedIndex)
among set DeprecatedInterpolation = any_filter (is_rule DeprecatedInterpolation) (holds set) all_rules ∙ or_false (holds set DeprecatedInterpolation)
among set DocumentedOutputs = any_filter (is_rule DocumentedOutputs) (holds set) all_rules ∙ or_false (holds set DocumentedOutputs)
among set DocumentedVariables = any_filter (is_rule DocumentedVariables) (holds set) all_rules ∙ or_false (holds set DocumentedVariables)
among set ModulePinnedSource = any_filter (is_rule ModulePinnedSource) (holds set) all_rules ∙ or_false (holds set ModulePinnedSource)
among set ModuleVersion = any_filter (is_rule ModuleVersion) (holds set) all_rules ∙ or_false (holds set ModuleVersion)
among set NamingConvention = any_filter (is_rule NamingConvention) (holds set) all_rules ∙ or_false (holds set NamingConvention)
among set TypedVariables = any_filter (is_rule TypedVariables) (holds set) all_rules ∙ or_false (holds set TypedVariables)
among set UnusedDeclarations = any_filter (is_rule UnusedDeclarations) (holds set) all_rules ∙ or_false (holds set UnusedDeclarations)

none_among : (p : Rule → Bool) (rules : List Rule) → is_any rules ≡ false → list_any p rules ≡ false
none_among p [] e = refl
none_among p (r ∷ rules) e = absurd (cc)

-- ---- one more comment

pub silence_step : (old new : Option RuleSet) (both rules : RuleSet) (here : Bool) (rule : Rule) → new ≡ cond here (Some both) old → (here ≡ true → holds both rule ≡ (is_in_set old rule || holds rules rule))
    → is_in_set new rule ≡ (is_in_set old rule || (here && holds rules rule))
silence_step old new both rules true rule e h = ap (λ o. is_in_set o rule) e ∙ h refl
silence_step old new both rules false rule e h = ap (λ o. is_in_set o rule) e ∙ sym (or_false (is_in_set old rule))

module _ (comments : List (Comment Place)) (c : StoredComment) (file line : ℕ) (rule : Rule) where
  with_one : list_any (is_on file line rule) (comments ++ stored_comment c ∷ []) ≡ (list_any (is_on file line rule) comments || is_on file line rule (stored_comment c))
  with_one = list_any-append (is_on file line rule) comments (stored_comment c ∷ []) ∙ ap (λ b. list_any (is_on file line rule) comments || b) (or_false (is_on file line rule (stored_comment c)))

  pub on_more : (list_any (is_on file line rule) comments || ((c.at.file == file) && (c.at.at.line == line) && holds c.silences rule)) ≡ list_any (is_on file line rule) (comments ++ stored_comment c ∷ [])
  on_more = ap (λ b. list_any (is_on file line rule) comments || ((c.at.file == file) && (c.at.at.line == line) && b)) (sym (among c.silences rule)) ∙ sym with_one

pub stored_more : (xs : List StoredComment) (i : ℕ) (d : StoredComment) → i < length xs → map stored_comment (take i xs) ++ stored_comment (get_or xs i d) ∷ [] ≡ map stored_comment (take (i + 1) xs)
stored_more xs i d less = sym (ap (map stored_comment) (take_more xs i d less) ∙ map-append stored_comment (take i xs) (get_or xs i d ∷ []))

-- ---- an issue's line, and the line above

module _ {X : Type 0} (p q : X → Bool) where
  any_same : ((x : X) → p x ≡ q x) → (xs : List X) → list_any p xs ≡ list_any q xs
  any_same h [] = refl
  any_same h (x ∷ xs) = ap (λ b. b || list_any p xs) (h x) ∙ ap (λ b. q x || b) (any_same h xs)

  any_either : (xs : List X) → list_any (λ x. p x || q x) xs ≡ (list_any p xs || list_any q xs)
  any_either [] = refl
  any_either (x ∷ xs) = ap (λ b. (p x || q x) || b) (any_either xs) ∙ shuffle (p x) (q x) (list_any p xs) (list_any q xs)
    where
      shuffle : (a b c d : Bool) → ((a || b) || (c || d)) ≡ ((a || c) || (b || d))
      shuffle true b c d = refl
      shuffle false true c d = sym (or_true c)
      shuffle false false c d = refl

-- the comment is on the line above
abbrev pub is_under : ℕ → ℕ → Rule → Comment Place → Bool
is_under file line rule c = (c.at.file == file) && (c.at.at.line + 1 == line) && list_any (is_rule rule) c.silences

spread : (a b d s : Bool) → (a && (b || d) && s) ≡ ((a && b && s) || (a && d && s))
spread false b d s = refl
spread true false d s = refl
spread true true d true = refl
spread true true true false = refl
spread true true false false = refl

pub silenced_both : (comments : List (Comment Place)) (i : Issue)
    → is_silenced comments i ≡ (list_any (is_on i.place.file i.place.at.line i.rule) comments || list_any (is_under i.place.file i.place.at.line i.rule) comments)
silenced_both comments i =
    let on : Comment Place → Bool = is_on i.place.file i.place.at.line i.rule in
    let under : Comment Place → Bool = is_under i.place.file i.place.at.line i.rule in
    any_same (covers i.place.file i.place.at.line i.rule) (λ c. on c || under c)
    (λ c. spread (c.at.file == i.place.file) (c.at.at.line == i.place.at.line) (c.at.at.line + 1 == i.place.at.line) (list_any (is_rule i.rule) c.silences)) comments
    ∙ any_either on under comments

shifted : (own line above : ℕ) → line ≡ above + 1 → (own + 1 == line) ≡ (own == above)
shifted own line above e = by (cases_eq own above)
  where
    by : (own ≡ above) ⊎ (own ≡ above → ⊥) → (own + 1 == line) ≡ (own == above)
    by (inl same) = eq-eqb (own + 1) line (omega (arith, same, e)) ∙ sym (eq-eqb own above same)
    by (inr other) = ne_eqb (own + 1) line (λ f. other (omega (arith, f, e))) ∙ sym (ne_eqb own above other)

pub under_above : (file line above : ℕ) (rule : Rule) (comments : List (Comment Place)) → line ≡ above + 1 → list_any (is_under file line rule) comments ≡ list_any (is_on file above rule) comments
under_above file line above rule comments e =
    any_same (is_under file line rule) (is_on file above rule) (λ c. ap (λ b. (c.at.file == file) && b && list_any (is_rule rule) c.silences) (shifted c.at.at.line line above e)) comments

pub under_none : (file line : ℕ) (rule : Rule) (comments : List (Comment Place)) → line ≡ 0 → list_any (is_under file line rule) comments ≡ false
under_none file line rule [] e = refl
under_none file line rule (c ∷ comments) e =
    or_from (is_under file line rule c) (list_any (is_under file line rule) comments)
    (and_left ((c.at.file == file) && (c.at.at.line + 1 == line)) (list_any (is_rule rule) c.silences) (and_right (c.at.file == file) (c.at.at.line + 1 == line) (ne_eqb (c.at.at.line + 1) line (λ f. omega (arith, f, e)))))
    (under_none file line rule comments e)

-- ---- no line is silenced

pub none_silenced : {S : Type 0} (lines : IndexMap (ℕ × ℕ) RuleSet S) → index_map_len lines ≡ 0 → (file line : ℕ) (rule : Rule) → silenced_at lines file line rule ≡ false
none_silenced lines none file line rule = by lines.entries none
  where
    by : (es : List ((ℕ × ℕ) × RuleSet)) → length es ≡ 0 → is_in_set (lookup (same_line (file, line)) es) rule ≡ false
    by [] e = refl
    by (x ∷ es) e = absurd (omega (arith, e))

pub unsilenced : (comments : List (Comment Place)) (i : Issue) → ((file line : ℕ) (rule : Rule) → list_any (is_on file line rule) comments ≡ false) → false ≡ is_silenced comments i
unsilenced comments i none =
    sym (silenced_both comments i
    ∙ ap (λ b. b || list_any (is_under i.place.file i.place.at.line i.rule) comments) (none i.place.file i.place.at.line i.rule)
    ∙ above (cases_lt 0 i.place.at.line))
  where
    above : (0 < i.place.at.line) ⊎ (i.place.at.line ≤ 0) → list_any (is_under i.place.file i.place.at.line i.rule) comments ≡ false
    above (inl some) =
        under_above i.place.file i.place.at.line (i.place.at.line - 1) i.rule comments (omega (arith, some)) ∙ none i.place.file (i.place.at.line - 1) i.rule
    above (inr zero) = under_none i.place.file i.place.at.line i.rule comments (omega (arith, zero))

-- ---- the issues that are shown

pub filter_all : {X : Type 0} (p : X → Bool) → ((x : X) → p x ≡ true) → (xs : List X) → filter p xs ≡ xs
filter_all p h [] = refl
filter_all p h (x ∷ xs) = ap (λ b. cond b (x ∷ filter p xs) (filter p xs)) (h x) ∙ ap (λ r. x ∷ r) (filter_all p h xs)

pub shown_more : (p : Issue → Bool) (xs : List IssueEntry) (i : ℕ) (x : IssueEntry) → i < length xs → x ≡ get_or xs i x
    → filter p (issues_of (take i xs)) ++ filter p (issue_of x ∷ []) ≡ filter p (issues_of (take (i + 1) xs))
shown_more p xs i x less at =
    sym (filter-append p (issues_of (take i xs)) (issue_of x ∷ []))
    ∙ ap (filter p) (sym (map-append issue_of (take i xs) (x ∷ [])))
    ∙ ap (λ es. filter p (issues_of es)) (ap (λ y. take i xs ++ y ∷ []) at ∙ sym (take_more xs i x less))
