-- Status 4 comes from a failed look.
use Rattle.std.proofs.Common.{◌≡◌, ◌∙◌, ◌⊎◌, ◌∷◌, [], ◌<◌, ℕ, Bool, true, false, List, inl, inr, lit<, ap, arith, map, max, refl, sym}
use Rattle.std.specs.Prelude.{◌≢◌, ◌||◌, ◌==◌, fold, if◌then◌else◌}
use Rattle.std.specs.List.{list_any}
use Rattle.std.proofs.lemmas.Bool.Decides.{eqb_tells}
use Rattle.command_line.specs.Rows.{End}
use Rattle.file_tree.specs.Files.{Name}
use Rattle.tree_format.specs.States.{State}
use Rattle.file_tree.specs.declared.tree.Replaced.{Replaced}
use Rattle.file_tree.specs.declared.walk.Found.{Found}
use Rattle.tree_format.specs.Reports.{report_of, worse_status, worst_status}
use Rattle.tree_format.specs.Runs.{IsRun, LooksAtAll, is_failed, reports_of}
use Rattle.tree_format.specs.declared.mode.Mode.{Mode}
use Rattle.tree_format.specs.declared.mode.Mode.TheVariants.{Write, Check, List as Listed, Diff}
use Rattle.tree_format.specs.declared.outcome.Outcome.{Outcome}
use Rattle.tree_format.specs.declared.outcome.Outcome.TheVariants as outcome

worse_four : (one other : ℕ) → worse_status one other ≡ 4 → (one ≡ 4) ⊎ (other ≡ 4)
worse_four one other e = by (eqb_tells one 4) (eqb_tells other 4)
  where
    none : (v : Bool) → one ≢ 4 → other ≢ 4 → (if v then 2 else max one other) ≡ 4 → ⊥
    none true p q h = omega (arith, h)
    none false p q h = omega (arith, p, q, h)

    by : (((one == 4) ≡ true) × (one ≡ 4)) ⊎ (((one == 4) ≡ false) × (one ≢ 4)) → (((other == 4) ≡ true) × (other ≡ 4)) ⊎ (((other == 4) ≡ false) × (other ≢ 4)) → (one ≡ 4) ⊎ (other ≡ 4)
    by (inl p) q = inl p.1
    by (inr p) (inl q) = inr q.1
    by (inr p) (inr q) =
        let both : (one == 4 || other == 4) ≡ false = ap (λ v. v || other == 4) p.0 ∙ q.0 in
        absurd (none (one == 2 || other == 2) p.1 q.1 (sym (ap (λ (v : Bool). if v then 4 else (if one == 2 || other == 2 then 2 else max one other)) both) ∙ e))

pub not_four : (n : ℕ) → n < 4 → n ≢ 4
not_four n lt h = omega (arith, lt, h)

changed_good : (mode : Mode) (how : Replaced) (name : Name) → (report_of mode name (outcome.Changed how)).status ≢ 4
changed_good (Write writing) how name = not_four 0 (lit< tt)
changed_good Check how name = not_four 3 (lit< tt)
changed_good (Listed ending) how name = not_four 3 (lit< tt)
changed_good Diff how name = not_four 3 (lit< tt)

status_good : (mode : Mode) (name : Name) (answer : Outcome) → is_failed answer ≡ false → (report_of mode name answer).status ≢ 4
status_good mode name outcome.Formatted good = not_four 0 (lit< tt)
status_good mode name (outcome.Changed how) good = changed_good mode how name
status_good mode name (outcome.Differs text) good = not_four 3 (lit< tt)
status_good mode name (outcome.Refused fault snippet) good = not_four 2 (lit< tt)
status_good mode name (outcome.Failed fault) good = absurd (no good)
  where
    no : true ≡ false → ⊥
    no h = cc

worse_good : (one other : ℕ) → one ≢ 4 → other ≢ 4 → worse_status one other ≢ 4
worse_good one other p q e = by (worse_four one other e)
  where
    by : (one ≡ 4) ⊎ (other ≡ 4) → ⊥
    by (inl h) = p h
    by (inr h) = q h

pub fold_four : (shows : Bool) (mode : Mode) (seen : List Found) (answers : List Outcome) (a b : State) (n : ℕ) → n ≢ 4 → LooksAtAll shows mode seen answers a b
    → fold worse_status n (map (λ r. r.status) (reports_of mode seen answers)) ≡ 4 → list_any is_failed answers ≡ true
fold_four shows mode [] [] a b n good l e = absurd (good e)
fold_four shows mode [] (x ∷ answers) a b n good l e = absurd l
fold_four shows mode (f ∷ seen) [] a b n good l e = absurd l
fold_four shows mode (f ∷ seen) (x ∷ answers) a b n good l e =
    by
    (λ h. fold_four shows mode seen answers l.0 b (worse_status n (report_of mode f.name.items x).status) (worse_good n (report_of mode f.name.items x).status good (status_good mode f.name.items x h)) l.2 e)
    (is_failed x) refl
  where
    by : (is_failed x ≡ false → list_any is_failed answers ≡ true) → (v : Bool) → is_failed x ≡ v → list_any is_failed (x ∷ answers) ≡ true
    by rest true h = ap (λ v. v || list_any is_failed answers) h
    by rest false h = ap (λ v. v || list_any is_failed answers) h ∙ rest h

pub real_failures : (shows : Bool) (mode : Mode) (found : List Found) (last : List Outcome → List ℕ) (before after : State) (end : End) (run : IsRun shows mode found last before after end) → end.status ≡ 4
    → (end.out.failed || end.err.failed) ≡ false → list_any is_failed run.answers ≡ true
real_failures shows mode found last before after end run four good =
    fold_four shows mode run.seen run.answers before after 0 (not_four 0 (lit< tt)) run.looks
    (sym (run.exit ∙ ap (λ (v : Bool). if v then 4 else worst_status (map (λ r. r.status) (reports_of mode run.seen run.answers))) good) ∙ four)
