-- A run over found names, one look after another.
use Rattle.std.proofs.Common.{◌≡◌, ◌∙◌, ◌++◌, ◌∷◌, [], ◌<◌, ◌+◌, ℕ, Bool, true, false, List, Option, Some, None, ap, append_assoc, append-nil, arith, cond, drop, length, length-append, map, refl, subst, suc, sym, take}
use Rattle.std.specs.Prelude.{◌≢◌, ◌||◌, ◌==◌, ◌-◌, fold, max, if◌then◌else◌}
use Rattle.std.specs.List.{concat, count_by}
use Rattle.std.proofs.lemmas.List.{map-append, take-append-drop, take-append-le, take_all}
use Rattle.std.proofs.lemmas.List.Folds.{concat-append}
use Rattle.std.proofs.lemmas.List.Sums.{count_by-le-length, sum_by-append}
use Rattle.std.specs.Io.KnownBytes.{Appends}
use Rattle.command_line.specs.Rows.{End, TookBy, Writer}
use Rattle.file_tree.specs.Files.{Name}
use Rattle.tree_format.specs.States.{State}
use Rattle.file_tree.specs.declared.walk.Found.{Found}
use Rattle.command_line.specs.Rows.{Row}
use Rattle.tree_format.specs.Reports.{report_of, worse_status, worst_status}
use Rattle.tree_format.specs.Inner.Counts.{CanGrow, tally_with}
use Rattle.tree_format.specs.Runs.{HasWhole, LooksAtAll, Sees, but_last, is_failed, reports_of}
use Rattle.tree_format.specs.Tally.{Tallies, is_changed, is_formatted, is_refused, tally_of}
use Rattle.tree_format.specs.declared.tally.Tally.{Tally}
use Rattle.tree_format.specs.declared.mode.Mode.{Mode}
use Rattle.tree_format.specs.declared.outcome.Outcome.{Outcome}
use Rattle.tree_format.specs.declared.outcome.Outcome.TheVariants as outcome
use Rattle.command_line.proofs.WriterLemmas.{appends_nothing, appends_then, took_after}

-- ---- the worst status

or_true : (v : Bool) → (v || true) ≡ true
or_true true = refl
or_true false = refl

pub first_good : (one other : ℕ) → worse_status one other ≢ 4 → one ≢ 4
first_good one other bad e = bad (ap (λ n. worse_status n other) e)

pub second_good : (one other : ℕ) → worse_status one other ≢ 4 → other ≢ 4
second_good one other bad e = bad (ap (λ n. worse_status one n) e ∙ ap (λ (v : Bool). if v then 4 else (if one == 2 || 4 == 2 then 2 else max one 4)) (or_true (one == 4)))

pub good_answer : (mode : Mode) (name : Name) (answer : Outcome) → (report_of mode name answer).status ≢ 4 → is_failed answer ≡ false
good_answer mode name outcome.Formatted good = refl
good_answer mode name (outcome.Changed how) good = refl
good_answer mode name (outcome.Differs text) good = refl
good_answer mode name (outcome.Refused fault snippet) good = refl
good_answer mode name (outcome.Failed fault) good = absurd (good refl)

-- ---- one more look

pub looked_more : (shows : Bool) (mode : Mode) (seen : List Found) (answers : List Outcome) (found : Found) (answer : Outcome) (a b c : State)
    → LooksAtAll shows mode seen answers a b → Sees shows mode found answer b c → LooksAtAll shows mode (seen ++ found ∷ []) (answers ++ answer ∷ []) a c
looked_more shows mode [] [] found answer a b c l s = (c, subst (λ (x : State). Sees shows mode found answer x c) l s, refl)
looked_more shows mode [] (y ∷ answers) found answer a b c l s = absurd l
looked_more shows mode (x ∷ seen) [] found answer a b c l s = absurd l
looked_more shows mode (x ∷ seen) (y ∷ answers) found answer a b c l s = (l.0, l.1, looked_more shows mode seen answers found answer l.0 b c l.2 s)

reports_more : (shows : Bool) (mode : Mode) (seen : List Found) (answers : List Outcome) (found : Found) (answer : Outcome) (a b : State) → LooksAtAll shows mode seen answers a b
    → reports_of mode (seen ++ found ∷ []) (answers ++ answer ∷ []) ≡ reports_of mode seen answers ++ report_of mode found.name.items answer ∷ []
reports_more shows mode [] [] found answer a b l = refl
reports_more shows mode [] (y ∷ answers) found answer a b l = absurd l
reports_more shows mode (x ∷ seen) [] found answer a b l = absurd l
reports_more shows mode (x ∷ seen) (y ∷ answers) found answer a b l = ap (λ rs. report_of mode x.name.items y ∷ rs) (reports_more shows mode seen answers found answer l.0 b l.2)

one_text : (f : Row → List ℕ) (rs : List Row) (r : Row) → concat (map f (rs ++ r ∷ [])) ≡ concat (map f rs) ++ f r
one_text f [] r = append-nil (f r)
one_text f (x ∷ rs) r = ap (λ t. f x ++ t) (one_text f rs r) ∙ sym (append_assoc (f x) (concat (map f rs)) (f r))

fold_more : (n : ℕ) (rs : List Row) (r : Row) → fold worse_status n (map (λ r. r.status) (rs ++ r ∷ [])) ≡ worse_status (fold worse_status n (map (λ r. r.status) rs)) r.status
fold_more n [] r = refl
fold_more n (x ∷ rs) r = fold_more (worse_status n x.status) rs r

-- the texts of the run so far, and its statuses

abbrev outs : Mode → List Found → List Outcome → List ℕ
outs mode seen answers = concat (map (λ r. r.out) (reports_of mode seen answers))

abbrev errs : Mode → List Found → List Outcome → List ℕ
errs mode seen answers = concat (map (λ r. r.err) (reports_of mode seen answers))

abbrev statuses : Mode → List Found → List Outcome → ℕ
statuses mode seen answers = worst_status (map (λ r. r.status) (reports_of mode seen answers))

-- ---- the tally

count_more : (p : Outcome → Bool) (xs : List Outcome) (x : Outcome) (v : Bool) → p x ≡ v → count_by p (xs ++ x ∷ []) ≡ count_by p xs + (0 + cond v 1 0)
count_more p xs x v e = sum_by-append (λ y. cond (p y) 1 0) xs (x ∷ []) ∙ ap (λ w. count_by p xs + (0 + cond w 1 0)) e

tally_more : (answers : List Outcome) (answer : Outcome) → tally_of (answers ++ answer ∷ []) ≡ tally_with (tally_of answers) answer
tally_more xs x = by x refl
  where
    at : (c u r f : ℕ) → count_by is_changed (xs ++ x ∷ []) ≡ c → count_by is_formatted (xs ++ x ∷ []) ≡ u → count_by is_refused (xs ++ x ∷ []) ≡ r → count_by is_failed (xs ++ x ∷ []) ≡ f
        → tally_of (xs ++ x ∷ []) ≡ record { changed = c; unchanged = u; refused = r; failed = f }
    at c u r f ec eu er ef = λ i. record { changed = ec i; unchanged = eu i; refused = er i; failed = ef i }

    more : (p : Outcome → Bool) → p x ≡ true → count_by p (xs ++ x ∷ []) ≡ count_by p xs + 1
    more p e = count_more p xs x true e

    same : (p : Outcome → Bool) → p x ≡ false → count_by p (xs ++ x ∷ []) ≡ count_by p xs
    same p e = count_more p xs x false e ∙ omega arith

    by : (y : Outcome) → x ≡ y → tally_of (xs ++ x ∷ []) ≡ tally_with (tally_of xs) x
    by outcome.Formatted e = at _ _ _ _ (same is_changed (ap is_changed e)) (more is_formatted (ap is_formatted e)) (same is_refused (ap is_refused e)) (same is_failed (ap is_failed e)) ∙ sym (ap (tally_with (tally_of xs)) e)
    by (outcome.Changed how) e = at _ _ _ _ (more is_changed (ap is_changed e)) (same is_formatted (ap is_formatted e)) (same is_refused (ap is_refused e)) (same is_failed (ap is_failed e)) ∙ sym (ap (tally_with (tally_of xs)) e)
    by (outcome.Differs text) e = at _ _ _ _ (more is_changed (ap is_changed e)) (same is_formatted (ap is_formatted e)) (same is_refused (ap is_refused e)) (same is_failed (ap is_failed e)) ∙ sym (ap (tally_with (tally_of xs)) e)
    by (outcome.Refused fault snippet) e = at _ _ _ _ (same is_changed (ap is_changed e)) (same is_formatted (ap is_formatted e)) (more is_refused (ap is_refused e)) (same is_failed (ap is_failed e)) ∙ sym (ap (tally_with (tally_of xs)) e)
    by (outcome.Failed fault) e = at _ _ _ _ (same is_changed (ap is_changed e)) (same is_formatted (ap is_formatted e)) (same is_refused (ap is_refused e)) (more is_failed (ap is_failed e)) ∙ sym (ap (tally_with (tally_of xs)) e)

answers_of : (shows : Bool) (mode : Mode) (seen : List Found) (answers : List Outcome) (a b : State) → LooksAtAll shows mode seen answers a b → length answers ≡ length seen
answers_of shows mode [] [] a b l = refl
answers_of shows mode [] (y ∷ answers) a b l = absurd l
answers_of shows mode (x ∷ seen) [] a b l = absurd l
answers_of shows mode (x ∷ seen) (y ∷ answers) a b l = ap suc (answers_of shows mode seen answers l.0 b l.2)

-- ---- the run so far: no writer failed

pub record SoFar (shows : Bool) (mode : Mode) (seen : List Found) (a b : State) (out out' err err' : Option (List ℕ)) (status : ℕ) (tally : Tally) : Type 0 where
  pub answers : List Outcome
  pub looks : LooksAtAll shows mode seen answers a b
  pub output : Appends out out' (concat (map (λ r. r.out) (reports_of mode seen answers)))
  pub message : Appends err err' (concat (map (λ r. r.err) (reports_of mode seen answers)))
  pub exit : status ≡ worst_status (map (λ r. r.status) (reports_of mode seen answers))
  pub counts : tally ≡ tally_of answers

pub so_far_none : (shows : Bool) (mode : Mode) (a : State) (out err : Option (List ℕ)) (tally : Tally) → tally ≡ tally_of [] → SoFar shows mode [] a a out out err err 0 tally
so_far_none shows mode a out err tally e = record { answers = []; looks = refl; output = appends_nothing out; message = appends_nothing err; exit = refl; counts = e }

pub so_far_more : (shows : Bool) (mode : Mode) (seen more : List Found) (found : Found) (answer : Outcome) (a b c : State) (o o' o'' e e' e'' : Option (List ℕ)) (s s' : ℕ) (t t' : Tally) (f g : Bool)
    → more ≡ seen ++ found ∷ [] → SoFar shows mode seen a b o o' e e' s t → t' ≡ tally_with t answer → Sees shows mode found answer b c → f ≡ false → TookBy f o' o'' (report_of mode found.name.items answer).out → g ≡ false
    → TookBy g e' e'' (report_of mode found.name.items answer).err → s' ≡ worse_status s (report_of mode found.name.items answer).status → SoFar shows mode more a c o o'' e e'' s' t'
so_far_more shows mode seen more found answer a b c o o' o'' e e' e'' s s' t t' f g all before tallied sees good out good' err status =
    subst (λ l. SoFar shows mode l a c o o'' e e'' s' t') (sym all) (record {
      answers = before.answers ++ answer ∷ [];
      looks = looked_more shows mode seen before.answers found answer a b c before.looks sees;
      output = text (λ r. r.out) o o' o'' before.output (subst (λ v. TookBy v o' o'' (report_of mode found.name.items answer).out) good out);
      message = text (λ r. r.err) e e' e'' before.message (subst (λ v. TookBy v e' e'' (report_of mode found.name.items answer).err) good' err);
      exit = status ∙ ap (λ n. worse_status n (report_of mode found.name.items answer).status) before.exit
          ∙ sym (ap (λ rs. worst_status (map (λ r. r.status) rs)) reports ∙ fold_more 0 (reports_of mode seen before.answers) (report_of mode found.name.items answer));
      counts = tallied ∙ ap (λ (u : Tally). tally_with u answer) before.counts ∙ sym (tally_more before.answers answer);
    })
  where
    reports : reports_of mode (seen ++ found ∷ []) (before.answers ++ answer ∷ []) ≡ reports_of mode seen before.answers ++ report_of mode found.name.items answer ∷ []
    reports = reports_more shows mode seen before.answers found answer a b before.looks

    text : (f : Row → List ℕ) (x y z : Option (List ℕ)) → Appends x y (concat (map f (reports_of mode seen before.answers))) → Appends y z (f (report_of mode found.name.items answer))
        → Appends x z (concat (map f (reports_of mode (seen ++ found ∷ []) (before.answers ++ answer ∷ []))))
    text f x y z p q = subst (Appends x z) (sym (ap (λ rs. concat (map f rs)) reports ∙ one_text f (reports_of mode seen before.answers) (report_of mode found.name.items answer))) (appends_then x y z _ _ p q)

-- one more file can be counted
pub can_grow : (shows : Bool) (mode : Mode) (seen : List Found) (a b : State) (o o' e e' : Option (List ℕ)) (s : ℕ) (t : Tally) → SoFar shows mode seen a b o o' e e' s t → length seen < 18446744073709551615 → CanGrow t
can_grow shows mode seen a b o o' e e' s t before lt = subst CanGrow (sym before.counts) (record {
  changed = below is_changed;
  unchanged = below is_formatted;
  refused = below is_refused;
  failed = below is_failed;
})
  where
    below : (p : Outcome → Bool) → count_by p before.answers + 1 < 18446744073709551616
    below p = omega (arith, count_by-le-length p before.answers, answers_of shows mode seen before.answers a b before.looks, lt)

-- ---- the end of a run

failed_either : (f g : Bool) → (f || g) ≡ true → (f || g) ≡ false → ⊥
failed_either f g h k = cc

take_front : (xs : List Row) (x : Row) → but_last (xs ++ x ∷ []) ≡ xs
take_front xs x =
    let size : length (xs ++ x ∷ []) - 1 ≡ length xs = omega (arith, length-append xs (x ∷ [])) in
    ap (λ n. take n (xs ++ x ∷ [])) size ∙ take-append-le (length xs) xs (x ∷ []) (omega arith) ∙ take_all (length xs) xs (omega arith)

-- if a writer took a text whole, it took each front of it whole
whole_part : (w : Writer) (all text rest : List ℕ) → all ≡ text ++ rest → w.failed ≡ false → Appends w.before w.after all → HasWhole w text
whole_part w all text rest e good took = by w.before w.after refl refl (subst (Appends w.before w.after) e took)
  where
    at : (a c : Option (List ℕ)) → w.before ≡ a → w.after ≡ c → (between : Option (List ℕ)) → Appends a between text → Appends between c rest → HasWhole w text
    at a c ea ec between p q = record {
      more = rest;
      between = between;
      whole = subst (λ x. Appends x between text) (sym ea) p;
      later = subst (λ v. TookBy v between w.after rest) (sym good) (subst (λ x. Appends between x rest) (sym ec) q);
    }

    by : (a c : Option (List ℕ)) → w.before ≡ a → w.after ≡ c → Appends a c (text ++ rest) → HasWhole w text
    by None c ea ec p = at None c ea ec None tt tt
    by (Some a) None ea ec p = absurd p
    by (Some a) (Some c) ea ec p = at (Some a) (Some c) ea ec (Some (a ++ text)) refl (p ∙ sym (append_assoc a text rest))

-- the writer took all reports of a list but the last one whole
whole_reports : (w : Writer) (f : Row → List ℕ) (rs : List Row) → w.failed ≡ false → Appends w.before w.after (concat (map f rs)) → HasWhole w (concat (map f (but_last rs)))
whole_reports w f rs good took =
    whole_part w (concat (map f rs)) (concat (map f (but_last rs))) (concat (map f (drop (length rs - 1) rs)))
    (ap (λ l. concat (map f l)) (sym (take-append-drop (length rs - 1) rs)) ∙ ap concat (map-append f (but_last rs) (drop (length rs - 1) rs)) ∙ concat-append (map f (but_last rs)) (map f (drop (length rs - 1) rs)))
    good took

-- the run ended because a report couldn't be written
pub run_cut : (shows : Bool) (mode : Mode) (found seen rest : List Found) (here : Found) (answer : Outcome) (a b c : State) (o' e' : Option (List ℕ)) (s : ℕ) (t t' : Tally) (out err : Writer)
    → found ≡ seen ++ here ∷ rest → SoFar shows mode seen a b out.before o' err.before e' s t → t' ≡ tally_with t answer → Sees shows mode here answer b c → (out.failed || err.failed) ≡ true
    → TookBy out.failed o' out.after (report_of mode here.name.items answer).out → TookBy err.failed e' err.after (report_of mode here.name.items answer).err
    → Tallies shows mode found a c (record { out = out; err = err; status = 4 }) t'
run_cut shows mode found seen rest here answer a b c o' e' s t t' out err all before tallied sees bad output message = (
  record {
    seen = seen ++ here ∷ [];
    rest = rest;
    all = all ∙ sym (append_assoc seen (here ∷ []) rest);
    whole = λ good. absurd (failed_either out.failed err.failed bad good);
    answers = before.answers ++ answer ∷ [];
    looks = looked_more shows mode seen before.answers here answer a b c before.looks sees;
    output = text (λ r. r.out) out.failed out.before o' out.after before.output output;
    message = subst (TookBy err.failed err.before err.after) (sym (append-nil (concat (map (λ r. r.err) (reports_of mode (seen ++ here ∷ []) (before.answers ++ answer ∷ []))))))
        (text (λ r. r.err) err.failed err.before e' err.after before.message message);
    stops = record { output = stop (λ r. r.out) out o' before.output output; message = stop (λ r. r.err) err e' before.message message };
    exit = sym (ap (λ (v : Bool). if v then 4 else worst_status (map (λ r. r.status) (reports_of mode (seen ++ here ∷ []) (before.answers ++ answer ∷ [])))) bad);
  },
  tallied ∙ ap (λ (u : Tally). tally_with u answer) before.counts ∙ sym (tally_more before.answers answer),
)
  where
    reports : reports_of mode (seen ++ here ∷ []) (before.answers ++ answer ∷ []) ≡ reports_of mode seen before.answers ++ report_of mode here.name.items answer ∷ []
    reports = reports_more shows mode seen before.answers here answer a b before.looks

    text : (f : Row → List ℕ) (v : Bool) (x y z : Option (List ℕ)) → Appends x y (concat (map f (reports_of mode seen before.answers))) → TookBy v y z (f (report_of mode here.name.items answer))
        → TookBy v x z (concat (map f (reports_of mode (seen ++ here ∷ []) (before.answers ++ answer ∷ []))))
    text f v x y z p q =
        subst (TookBy v x z) (sym (ap (λ rs. concat (map f rs)) reports ∙ one_text f (reports_of mode seen before.answers) (report_of mode here.name.items answer)))
        (took_after x y z v (concat (map f (reports_of mode seen before.answers))) (f (report_of mode here.name.items answer)) p q)

    stop : (f : Row → List ℕ) (w : Writer) (y : Option (List ℕ)) → Appends w.before y (concat (map f (reports_of mode seen before.answers))) → TookBy w.failed y w.after (f (report_of mode here.name.items answer))
        → HasWhole w (concat (map f (but_last (reports_of mode (seen ++ here ∷ []) (before.answers ++ answer ∷ [])))))
    stop f w y p q = record {
      more = f (report_of mode here.name.items answer);
      between = y;
      whole = subst (λ rs. Appends w.before y (concat (map f rs))) (sym (ap but_last reports ∙ take_front (reports_of mode seen before.answers) (report_of mode here.name.items answer))) p;
      later = q;
    }

-- the run reported all files
pub run_whole : (shows : Bool) (mode : Mode) (found : List Found) (a c : State) (s : ℕ) (t : Tally) (out err : Writer) → SoFar shows mode found a c out.before out.after err.before err.after s t → out.failed ≡ false → err.failed ≡ false
    → Tallies shows mode found a c (record { out = out; err = err; status = s }) t
run_whole shows mode found a c s t out err before good good' = (
  record {
    seen = found;
    rest = [];
    all = sym (append-nil found);
    whole = λ _. refl;
    answers = before.answers;
    looks = before.looks;
    output = subst (λ v. TookBy v out.before out.after (outs mode found before.answers)) (sym good) before.output;
    message = subst (TookBy err.failed err.before err.after) (sym (append-nil (errs mode found before.answers))) (subst (λ v. TookBy v err.before err.after (errs mode found before.answers)) (sym good') before.message);
    stops = record { output = whole_reports out (λ r. r.out) (reports_of mode found before.answers) good before.output; message = whole_reports err (λ r. r.err) (reports_of mode found before.answers) good' before.message };
    exit = before.exit ∙ sym (ap (λ (v : Bool). if v then 4 else statuses mode found before.answers) (ap (λ v. v || err.failed) good ∙ good'));
  },
  before.counts,
)

pub run_all : (shows : Bool) (mode : Mode) (found seen : List Found) (a c : State) (s : ℕ) (t : Tally) (out err : Writer) → seen ≡ found → SoFar shows mode seen a c out.before out.after err.before err.after s t → out.failed ≡ false → err.failed ≡ false
    → Tallies shows mode found a c (record { out = out; err = err; status = s }) t
run_all shows mode found seen a c s t out err same before good good' =
    run_whole shows mode found a c s t out err (subst (λ l. SoFar shows mode l a c out.before out.after err.before err.after s t) same before) good good'

pub tallies_as : (shows is : Bool) (mode : Mode) (found : List Found) (a c : State) (end : End) (t : Tally) → shows ≡ is → Tallies shows mode found a c end t → Tallies is mode found a c end t
tallies_as shows is mode found a c end t e = subst (λ v. Tallies v mode found a c end t) e

-- ---- whether a report was written

pub left_good : (v w f g : Bool) → v ≡ (f || g) → w ≡ v → w ≡ false → f ≡ false
left_good v w false g e h k = refl
left_good v w true g e h k = absurd (no (sym e ∙ sym h ∙ k))
  where
    no : true ≡ false → ⊥
    no q = cc

pub right_good : (v w f g : Bool) → v ≡ (f || g) → w ≡ v → w ≡ false → g ≡ false
right_good v w false g e h k = sym e ∙ sym h ∙ k
right_good v w true g e h k = absurd (no (sym e ∙ sym h ∙ k))
  where
    no : true ≡ false → ⊥
    no q = cc

pub one_bad : (v w f g : Bool) → v ≡ (f || g) → w ≡ v → w ≡ true → (f || g) ≡ true
one_bad v w f g e h k = sym e ∙ sym h ∙ k
