-- The issues of files are those of their stored facts.
use Rattle.std.proofs.Common.{◌≡◌, ◌∙◌, ap, ap₂, sym, refl, true≢false, ℕ, Bool, true, false, cond, not, List, [], ◌∷◌, ◌++◌, map, append_assoc}
use Rattle.std.specs.Prelude.{fold, filter, ◌||◌}
use Rattle.std.specs.List.{list_any, flat_map}
use Rattle.std.specs.Str.{bytes_eq}
use Rattle.std.proofs.lemmas.List.{append-nil}
use Rattle.std.proofs.lemmas.List.Folds.{list_any-append}
use Rattle.std.proofs.lemmas.List.Sums.{fold-append}
use Rattle.std.proofs.lemmas.Slice.Eq.{bytes_eq-Decides}
use Rattle.indexmap.specs.IndexSet.{insert_all, insert_key}
use Rattle.tf_facts.specs.References.{references}
use Rattle.tf_facts.specs.Comments.{Comment, comments}
use Rattle.tf_rules.specs.Findings.{Finding, findings}
use Rattle.tf_facts.specs.Facts.{facts_of}
use Rattle.tf_rules.specs.Issues.{Asked, File, Place, tokens_of, place_in, all_references, all_comments, comment_at, is_silenced, issues_in, reported_issues, issues}
use Rattle.tf_rules.specs.Stored.{Stored, no_facts, with_file, stored_of, facts_at, issue_at}
use Rattle.tf_rules.specs.StoredIssues.{reported_of_stored, issues_of_stored}
use Rattle.tf_rules.proofs.FindingLemmas.{map-map, map-flat_map, flat_map_same, finding_at, findings-at, findings-append_facts, SameTexts, findings_same}
use Rattle.rule_set.specs.declared.rule.Rule.{Rule}
use Rattle.rule_set.specs.declared.rule.Rule.TheVariants.{CommentSyntax, DeprecatedIndex, DeprecatedInterpolation, DocumentedOutputs, DocumentedVariables, ModulePinnedSource, ModuleVersion, NamingConvention, TypedVariables, UnusedDeclarations}
use Rattle.tf_rules.specs.declared.naming.Naming.{Naming}

pub stored_of_more : (files : List File) (file : File) → stored_of (files ++ file ∷ []) ≡ with_file (stored_of files) file
stored_of_more files file = fold-append with_file no_facts files (file ∷ [])

-- ---- references

or_assoc : (a b c : Bool) → ((a || b) || c) ≡ (a || (b || c))
or_assoc true b c = refl
or_assoc false b c = refl

or_false : (a : Bool) → (a || false) ≡ a
or_false true = refl
or_false false = refl

-- if a text of the list equals one that passes, some text passes
or_true : (b : Bool) → (b || true) ≡ true
or_true true = refl
or_true false = refl

any_equal : (p : List ℕ → Bool) (k : List ℕ) (ks : List (List ℕ)) → list_any (bytes_eq k) ks ≡ true → p k ≡ true → list_any p ks ≡ true
any_equal p k [] e passes = absurd (true≢false (sym e))
any_equal p k (x ∷ ks) e passes = by_first (bytes_eq k x) refl (λ h. any_equal p k ks h passes)
  where
    by_first : (b : Bool) → bytes_eq k x ≡ b → (list_any (bytes_eq k) ks ≡ true → list_any p ks ≡ true) → (p x || list_any p ks) ≡ true
    by_first true same rest = ap (λ b. b || list_any p ks) (sym (ap p ((bytes_eq-Decides k x).0 same)) ∙ passes)
    by_first false other rest = ap (λ b. p x || b) (rest (sym (ap (λ b. b || list_any (bytes_eq k) ks) other) ∙ e)) ∙ or_true (p x)

inserted_any : (p : List ℕ → Bool) (ks : List (List ℕ)) (k : List ℕ) → list_any p (insert_key bytes_eq ks k) ≡ (list_any p ks || p k)
inserted_any p ks k = by_there (list_any (bytes_eq k) ks) refl
  where
    absorbed : (a b : Bool) → (b ≡ true → a ≡ true) → a ≡ (a || b)
    absorbed true b h = refl
    absorbed false true h = absurd (true≢false (sym (h refl)))
    absorbed false false h = refl

    by_there : (b : Bool) → list_any (bytes_eq k) ks ≡ b → list_any p (cond b ks (ks ++ k ∷ [])) ≡ (list_any p ks || p k)
    by_there true there = absorbed (list_any p ks) (p k) (any_equal p k ks there)
    by_there false absent = list_any-append p ks (k ∷ []) ∙ ap (λ b. list_any p ks || b) (or_false (p k))

pub all_inserted : (p : List ℕ → Bool) (ks xs : List (List ℕ)) → list_any p (insert_all bytes_eq ks xs) ≡ (list_any p ks || list_any p xs)
all_inserted p ks [] = sym (or_false (list_any p ks))
all_inserted p ks (x ∷ xs) =
    all_inserted p (insert_key bytes_eq ks x) xs ∙ ap (λ b. b || list_any p xs) (inserted_any p ks x) ∙ or_assoc (list_any p ks) (p x) (list_any p xs)

stored_any : (p : List ℕ → Bool) (kept : Stored) (files : List File) → list_any p (fold with_file kept files).references ≡ (list_any p kept.references || list_any p (all_references files))
stored_any p kept [] = sym (or_false (list_any p kept.references))
stored_any p kept (file ∷ files) =
    stored_any p (with_file kept file) files
    ∙ ap (λ b. b || list_any p (all_references files)) (all_inserted p kept.references (references (tokens_of file)))
    ∙ or_assoc (list_any p kept.references) (list_any p (references (tokens_of file))) (list_any p (all_references files))
    ∙ ap (λ b. list_any p kept.references || b) (sym (list_any-append p (references (tokens_of file)) (all_references files)))

pub same_references : (files : List File) → SameTexts (all_references files) (stored_of files).references
same_references files text = sym (stored_any (bytes_eq text) no_facts files)

-- ---- findings, file by file

abbrev found_in : Naming → List (List ℕ) → Rule → File → List (Finding Place)
found_in naming used rule file = findings naming used (facts_at (place_in file) (facts_of (tokens_of file))) rule

found_kept : (naming : Naming) (used : List (List ℕ)) (rule : Rule) (kept : Stored) (files : List File)
    → findings naming used (fold with_file kept files).facts rule ≡ findings naming used kept.facts rule ++ flat_map (found_in naming used rule) files
found_kept naming used rule kept [] = sym (append-nil (findings naming used kept.facts rule))
found_kept naming used rule kept (file ∷ files) =
    found_kept naming used rule (with_file kept file) files
    ∙ ap (λ r. r ++ flat_map (found_in naming used rule) files) (findings-append_facts naming used kept.facts (facts_at (place_in file) (facts_of (tokens_of file))) rule)
    ∙ append_assoc (findings naming used kept.facts rule) (found_in naming used rule file) (flat_map (found_in naming used rule) files)

none_found : (naming : Naming) (used : List (List ℕ)) (rule : Rule) → findings naming used no_facts.facts rule ≡ []
none_found naming used CommentSyntax = refl
none_found naming used DeprecatedIndex = refl
none_found naming used DeprecatedInterpolation = refl
none_found naming used DocumentedOutputs = refl
none_found naming used DocumentedVariables = refl
none_found naming used ModulePinnedSource = refl
none_found naming used ModuleVersion = refl
none_found naming used NamingConvention = refl
none_found naming used TypedVariables = refl
none_found naming used UnusedDeclarations = refl

issues_found : (asked : Asked) (used : List (List ℕ)) (rule : Rule) (file : File) → map (issue_at rule) (found_in asked.naming used rule file) ≡ issues_in asked used rule file
issues_found asked used rule file =
    ap (map (issue_at rule)) (findings-at (place_in file) asked.naming used (facts_of (tokens_of file)) rule)
    ∙ map-map (issue_at rule) (finding_at (place_in file)) (findings asked.naming used (facts_of (tokens_of file)) rule)

by_rule : (asked : Asked) (files : List File) (rule : Rule)
    → flat_map (issues_in asked (all_references files) rule) files ≡ map (issue_at rule) (findings asked.naming (stored_of files).references (stored_of files).facts rule)
by_rule asked files rule =
    let used = all_references files in
    sym (
    ap (map (issue_at rule)) (
    sym (findings_same asked.naming used (stored_of files).references (same_references files) (stored_of files).facts rule)
    ∙ found_kept asked.naming used rule no_facts files
    ∙ ap (λ r. r ++ flat_map (found_in asked.naming used rule) files) (none_found asked.naming used rule))
    ∙ map-flat_map (issue_at rule) (found_in asked.naming used rule) files
    ∙ flat_map_same (λ file. map (issue_at rule) (found_in asked.naming used rule file)) (issues_in asked used rule) (issues_found asked used rule) files)

pub reported_is : (asked : Asked) (files : List File) → reported_issues asked files ≡ reported_of_stored asked (stored_of files)
reported_is asked files =
    flat_map_same (λ rule. flat_map (issues_in asked (all_references files) rule) files)
    (λ rule. map (issue_at rule) (findings asked.naming (stored_of files).references (stored_of files).facts rule)) (by_rule asked files) asked.rules

-- ---- comments

stored_comments : (kept : Stored) (files : List File) → (fold with_file kept files).facts.comments ≡ kept.facts.comments ++ all_comments files
stored_comments kept [] = sym (append-nil kept.facts.comments)
stored_comments kept (file ∷ files) =
    stored_comments (with_file kept file) files
    ∙ append_assoc kept.facts.comments (map (comment_at (place_in file)) (comments (tokens_of file))) (all_comments files)

pub issues_of_kept_is : (asked : Asked) (files : List File) → issues asked files ≡ issues_of_stored asked (stored_of files)
issues_of_kept_is asked files =
    ap₂ (λ (cs : List (Comment Place)) is. filter (λ i. not (is_silenced cs i)) is) (sym (stored_comments no_facts files)) (reported_is asked files)
