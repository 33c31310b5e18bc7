-- The report of a module, after other reports.
use Rattle.std.proofs.Common.{◌≡◌, ◌∙◌, ◌++◌, ℕ, Bool, true, false, List, [], ◌∷◌, ap, arith, eqb-true, length, refl, sym}
use Rattle.std.specs.Prelude.{◌==◌, codes, decimal}
use Rattle.std.specs.List.{flat_map}
use Rattle.command_line.specs.Rows.{line}
use Rattle.file_tree.specs.Files.{Name}
use Rattle.tf_rules.specs.declared.issue.Issue.{Issue}
use Rattle.tfrules_command.specs.Report.{issue_count, issue_line, report_by}
use Rattle.tree_lint.specs.Parted.{after_empty_line}
use Rattle.tree_lint.specs.Runs.{report_of, shown_issue}
use Rattle.tree_lint.specs.Verdicts.{Linted}

abbrev is_some_text : List ℕ → Bool
is_some_text [] = false
is_some_text (b ∷ bs) = true

-- ---- texts that aren't empty

text_after : (x y : List ℕ) → is_some_text y ≡ true → is_some_text (x ++ y) ≡ true
text_after [] y h = h
text_after (b ∷ x) y h = refl

text_before : (x y : List ℕ) → is_some_text x ≡ true → is_some_text (x ++ y) ≡ true
text_before [] y h = absurd (cc)
text_before (b ∷ x) y h = refl

parted_some : (t : List ℕ) → is_some_text t ≡ true → after_empty_line true t ≡ 10 ∷ t
parted_some [] h = absurd (cc)
parted_some (b ∷ bs) h = refl

-- ---- a report, by the text for each issue

module _ (said : Issue → List ℕ) where
  some_by : (i : Issue) (is : List Issue) → is_some_text (report_by said (i ∷ is)) ≡ true
  some_by i is =
      text_before (issue_count (length (i ∷ is))) (flat_map said (i ∷ is))
      (text_after (decimal (length (i ∷ is))) (line (line (codes " issue(s) found:"))) refl)

  parted_by : (issues : List Issue) (e : Bool) → e ≡ (length issues == 0) → e ≡ false → after_empty_line true (report_by said issues) ≡ 10 ∷ report_by said issues
  parted_by [] e is f = absurd (cc)
  parted_by (i ∷ is) e same f = parted_some (report_by said (i ∷ is)) (some_by i is)

  pub none_by : (issues : List Issue) (e : Bool) → e ≡ (length issues == 0) → e ≡ true → report_by said issues ≡ []
  none_by [] e is f = refl
  none_by (i ∷ is) e same f = absurd (omega (arith, eqb-true (length (i ∷ is)) 0 (sym same ∙ f)))

  pub some_report : (issues : List Issue) (e : Bool) → e ≡ (length issues == 0) → e ≡ false → report_by said issues ≡ issue_count (length issues) ++ flat_map said issues
  some_report [] e is f = absurd (cc)
  some_report (i ∷ is) e same f = refl

-- ---- the report of a module, with lines of its files and without

pub parted_report : (shows : Bool) (names : List Name) (linted : Linted) (e : Bool) → e ≡ (length linted.issues == 0) → e ≡ false → after_empty_line true (report_of shows names linted) ≡ 10 ∷ report_of shows names linted
parted_report true names linted e is f = parted_by (shown_issue names linted.texts) linted.issues e is f
parted_report false names linted e is f = parted_by (issue_line names) linted.issues e is f

pub none_reported : (shows : Bool) (names : List Name) (linted : Linted) (e : Bool) → e ≡ (length linted.issues == 0) → e ≡ true → after_empty_line true (report_of shows names linted) ≡ []
none_reported true names linted e is f = ap (after_empty_line true) (none_by (shown_issue names linted.texts) linted.issues e is f)
none_reported false names linted e is f = ap (after_empty_line true) (none_by (issue_line names) linted.issues e is f)

-- ---- no issue

pub nothing_parted : (v : Bool) → after_empty_line v [] ≡ []
nothing_parted true = refl
nothing_parted false = refl
