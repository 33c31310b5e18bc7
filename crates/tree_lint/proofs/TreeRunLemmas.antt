-- A run over modules, one after another.
use Rattle.std.proofs.Common.{◌≡◌, ◌∙◌, ◌++◌, ◌∷◌, ◌+◌, ◌*◌, ◌<◌, ◌≤◌, [], ℕ, Bool, true, false, List, Option, ap, append_assoc, append-nil, arith, cond, flat_map, length, length-append, map, refl, subst, suc, sym}
use Rattle.std.specs.Prelude.{◌||◌, ◌==◌, ◌&&◌, Ok, Err, fold, if◌then◌else◌, not, sum_by}
use Rattle.std.specs.List.{count_by, list_any}
use Rattle.std.proofs.lemmas.Grind.{flat_map-append}
use Rattle.std.proofs.lemmas.List.{map-append}
use Rattle.std.proofs.lemmas.List.Sums.{count_by-le-length, sum_by-append}
use Rattle.std.specs.Io.KnownBytes.{Appends}
use Rattle.hcl_source.specs.declared.device.Flushes.{Flushes}
use Rattle.command_line.specs.Rows.{TookBy, Writer}
use Rattle.command_line.proofs.WriterLemmas.{all_taken, appends_nothing, took_after}
use Rattle.file_tree.specs.Files.{Faults, Files}
use Rattle.tfrules_command.specs.Report.{weighs}
use Rattle.tree_lint.specs.Inner.Growth.{HasRoom, counts_with, one_if}
use Rattle.tree_lint.specs.Inner.Showing.{Shows}
use Rattle.module_find.specs.KeptRefusals.{HoldsAll, KeepsAll, refusal_remark}
use Rattle.tree_lint.specs.Numbers.{counts_of, has_issues, is_module, is_refused, issue_count}
use Rattle.tree_lint.specs.Runs.{AreJudged, IsLintRun, is_shown, is_some, messages, refusals_of, reports_after, verdict_message, statuses, verdict_output, verdict_status, worse_status, worst_status}
use Rattle.module_find.specs.Refusals.{Refusal}
use Rattle.tree_lint.specs.Verdicts.{IsVerdict, Verdict}
use Rattle.lint_forms.specs.declared.kind.Form.{Form}
use Rattle.tree_lint.specs.declared.counts.Counts.{Counts}
use Rattle.tree_lint.specs.declared.counts.Ended.{Ended}
use Rattle.module_find.specs.declared.policy.Governed.{Governed}
use Rattle.module_find.specs.declared.kept.KeptRefusals.{KeptRefusals}
use Rattle.module_find.specs.declared.policy.Policy.{Policy}
use Rattle.tree_lint.specs.declared.run.RunEnd.{RunEnd}
use Rattle.tree_lint.specs.declared.written.Manner.{Manner}
use Rattle.tree_lint.specs.declared.written.Terminals.{Terminals}
use Rattle.tree_lint.proofs.ShownLemmas.{untouched}

or_false : (a : Bool) → (a || false) ≡ a
or_false true = refl
or_false false = refl

or_assoc : (a b c : Bool) → ((a || b) || c) ≡ (a || (b || c))
or_assoc true b c = refl
or_assoc false b c = refl

pub first_good : (v f g : Bool) → v ≡ (f || g) → v ≡ false → f ≡ false
first_good v true g e h = absurd (cc)
first_good v false g e h = refl

pub second_good : (v f g : Bool) → v ≡ (f || g) → v ≡ false → g ≡ false
second_good v true g e h = absurd (cc)
second_good v false g e h = sym e ∙ h

any_more : (f : Option Form) (vs : List Verdict) (v : Verdict) → list_any (is_shown f) (vs ++ v ∷ []) ≡ (list_any (is_shown f) vs || is_shown f v)
any_more f [] v = or_false (is_shown f v)
any_more f (x ∷ vs) v = ap (λ b. is_shown f x || b) (any_more f vs v) ∙ sym (or_assoc (is_shown f x) (list_any (is_shown f) vs) (is_shown f v))

refusals_more : (vs : List Verdict) (v : Verdict) → flat_map refusals_of (vs ++ v ∷ []) ≡ flat_map refusals_of vs ++ refusals_of v
refusals_more vs v = flat_map-append refusals_of vs (v ∷ []) ∙ ap (λ t. flat_map refusals_of vs ++ t) (append-nil (refusals_of v))

pub held_more : (old new : KeptRefusals) (rs qs : List Refusal) → HoldsAll old rs → KeepsAll old new qs → HoldsAll new (rs ++ qs)
held_more old new rs qs holds keeps whole =
    (keeps whole).1 ∙ ap (λ l. l ++ map refusal_remark qs) (holds (keeps whole).0) ∙ sym (map-append refusal_remark rs qs)

worst_from : (n : ℕ) (xs : List ℕ) (x : ℕ) → fold worse_status n (xs ++ x ∷ []) ≡ worse_status (fold worse_status n xs) x
worst_from n [] x = refl
worst_from n (y ∷ xs) x = worst_from (worse_status n y) xs x

-- ---- the numbers

count_more : {A : Type 0} (p : A → Bool) (xs : List A) (x : A) → count_by p (xs ++ x ∷ []) ≡ count_by p xs + one_if (p x)
count_more p xs x = sum_by-append (λ y. cond (p y) 1 0) xs (x ∷ []) ∙ last (count_by p xs) (p x)
  where
    last : (n : ℕ) (v : Bool) → n + (0 + cond v 1 0) ≡ n + one_if v
    last n true = refl
    last n false = refl

issues_more : (vs : List Verdict) (v : Verdict) → sum_by issue_count (vs ++ v ∷ []) ≡ sum_by issue_count vs + issue_count v
issues_more vs v = sum_by-append issue_count vs (v ∷ []) ∙ omega arith

refused_so : (policy : Policy) (v : Verdict) → (verdict_status policy v == 1) ≡ is_refused v
refused_so policy (Err refusals) = refl
refused_so policy (Ok linted) = by (not policy.force && is_some linted.comments) (not policy.force && list_any (weighs policy.minimum) linted.issues)
  where
    by : (a b : Bool) → ((if a then 2 else (if b then 2 else 0)) == 1) ≡ false
    by true b = refl
    by false true = refl
    by false false = refl

counts_more : (seen : List Governed) (m : Governed) (vs : List Verdict) (v : Verdict) (counts : Counts) (status n : ℕ) → counts ≡ counts_of seen vs → status ≡ verdict_status m.policy v → n ≡ issue_count v
    → counts_with counts (is_module m.module) status n ≡ counts_of (seen ++ m ∷ []) (vs ++ v ∷ [])
counts_more seen m vs v counts status n e es en =
    (λ i. counts_with (e i) (is_module m.module) (es i) (en i))
    ∙ (λ i. record {
      modules = sym (count_more (λ (g : Governed). is_module g.module) seen m) i;
      refused = (ap (λ b. count_by is_refused vs + one_if b) (refused_so m.policy v) ∙ sym (count_more is_refused vs v)) i;
      reported = sym (count_more has_issues vs v) i;
      issues = sym (issues_more vs v) i;
    })

more_small : (n m seen more : ℕ) → n ≤ m + 18446744073709551615 → m ≤ 18446744073709551615 * seen → more ≡ seen + 1 → n ≤ 18446744073709551615 * more
more_small n m seen more h k e = omega (arith, h, k, e)

both : (v : Bool) → v ≡ true → v ≡ false → ⊥
both v h k = cc

module _ (files : Files) where
  judged_length : (ends : Terminals) (ms : List Governed) (vs : List Verdict) (was is : Faults) → AreJudged files ends ms vs was is → length vs ≡ length ms
  judged_length ends [] [] was is j = refl
  judged_length ends [] (v ∷ vs) was is j = absurd j
  judged_length ends (m ∷ ms) [] was is j = absurd j
  judged_length ends (m ∷ ms) (v ∷ vs) was is j = ap suc (judged_length ends ms vs j.0 is j.2)

  judged_more : (ends : Terminals) (ms : List Governed) (vs : List Verdict) (m : Governed) (v : Verdict) (was between is : Faults) → AreJudged files ends ms vs was between → IsVerdict files ends m.policy m.module between is v → AreJudged files ends (ms ++ m ∷ []) (vs ++ v ∷ []) was is
  judged_more ends [] [] m v was between is j h = (is, subst (λ (w : Faults). IsVerdict files ends m.policy m.module w is v) j h, refl)
  judged_more ends [] (w ∷ vs) m v was between is j h = absurd j
  judged_more ends (x ∷ ms) [] m v was between is j h = absurd j
  judged_more ends (x ∷ ms) (w ∷ vs) m v was between is j h = (j.0, j.1, judged_more ends ms vs m v j.0 between is j.2 h)

  reports_more : (f : Manner) (a : Bool) (ms : List Governed) (vs : List Verdict) (m : Governed) (v : Verdict) (was is : Faults) → AreJudged files f.terminals ms vs was is
      → reports_after f a (ms ++ m ∷ []) (vs ++ v ∷ []) ≡ reports_after f a ms vs ++ verdict_output f (a || list_any (is_shown f.form) vs) m.module v
  reports_more f a [] [] m v was is j = append-nil (verdict_output f a m.module v) ∙ ap (λ b. verdict_output f b m.module v) (sym (or_false a))
  reports_more f a [] (w ∷ vs) m v was is j = absurd j
  reports_more f a (x ∷ ms) [] m v was is j = absurd j
  reports_more f a (x ∷ ms) (w ∷ vs) m v was is j =
      ap (λ t. verdict_output f a x.module w ++ t) (reports_more f (a || is_shown f.form w) ms vs m v j.0 is j.2 ∙ ap (λ b. reports_after f (a || is_shown f.form w) ms vs ++ verdict_output f b m.module v) (or_assoc a (is_shown f.form w) (list_any (is_shown f.form) vs)))
      ∙ sym (append_assoc (verdict_output f a x.module w) (reports_after f (a || is_shown f.form w) ms vs) (verdict_output f (a || (is_shown f.form w || list_any (is_shown f.form) vs)) m.module v))

  messages_more : (ends : Terminals) (ms : List Governed) (vs : List Verdict) (m : Governed) (v : Verdict) (was is : Faults) → AreJudged files ends ms vs was is → messages ends.err (ms ++ m ∷ []) (vs ++ v ∷ []) ≡ messages ends.err ms vs ++ verdict_message ends.err m.module v
  messages_more ends [] [] m v was is j = append-nil (verdict_message ends.err m.module v)
  messages_more ends [] (w ∷ vs) m v was is j = absurd j
  messages_more ends (x ∷ ms) [] m v was is j = absurd j
  messages_more ends (x ∷ ms) (w ∷ vs) m v was is j = ap (λ t. verdict_message ends.err x.module w ++ t) (messages_more ends ms vs m v j.0 is j.2) ∙ sym (append_assoc (verdict_message ends.err x.module w) (messages ends.err ms vs) (verdict_message ends.err m.module v))

  statuses_more : (ends : Terminals) (ms : List Governed) (vs : List Verdict) (m : Governed) (v : Verdict) (was is : Faults) → AreJudged files ends ms vs was is → statuses (ms ++ m ∷ []) (vs ++ v ∷ []) ≡ statuses ms vs ++ verdict_status m.policy v ∷ []
  statuses_more ends [] [] m v was is j = refl
  statuses_more ends [] (w ∷ vs) m v was is j = absurd j
  statuses_more ends (x ∷ ms) [] m v was is j = absurd j
  statuses_more ends (x ∷ ms) (w ∷ vs) m v was is j = ap (λ l. verdict_status x.policy w ∷ l) (statuses_more ends ms vs m v j.0 is j.2)

  -- ---- the run so far: no writer failed

  pub record SoFar (manner : Manner) (head : List ℕ) (seen : List Governed) (was is : Faults) (out out' err err' : Option (List ℕ)) (is_after : Bool) (status : ℕ) (counts : Counts) (kept : KeptRefusals) : Type 0 where
    pub verdicts : List Verdict
    pub judged : AreJudged files manner.terminals seen verdicts was is
    pub output : Appends out out' (head ++ reports_after manner false seen verdicts)
    pub message : Appends err err' (messages manner.terminals.err seen verdicts)
    pub after : is_after ≡ list_any (is_shown manner.form) verdicts
    pub exit : status ≡ worst_status (statuses seen verdicts)
    pub counted : counts ≡ counts_of seen verdicts
    pub refusals : HoldsAll kept (flat_map refusals_of verdicts)
    pub small : counts.issues ≤ 18446744073709551615 * length seen

  pub so_far_none : (manner : Manner) (head : List ℕ) (was : Faults) (out out' err : Option (List ℕ)) (counts : Counts) (kept : KeptRefusals) → Appends out out' head → counts ≡ counts_of [] [] → HoldsAll kept []
      → SoFar manner head [] was was out out' err err false 0 counts kept
  so_far_none manner head was out out' err counts kept wrote none holds = record {
    verdicts = [];
    judged = refl;
    output = subst (Appends out out') (sym (append-nil head)) wrote;
    message = appends_nothing err;
    after = refl;
    exit = refl;
    counted = none;
    refusals = holds;
    small = omega (arith, ap (λ (c : Counts). c.issues) none);
  }

  -- the numbers of the run have room for one more module
  pub has_room : (manner : Manner) (head : List ℕ) (seen : List Governed) (was is : Faults) (out out' err err' : Option (List ℕ)) (is_after : Bool) (status : ℕ) (counts : Counts) (kept : KeptRefusals) → SoFar manner head seen was is out out' err err' is_after status counts kept
      → length seen < 18446744073709551615 → HasRoom counts
  has_room manner head seen was is out out' err err' is_after status counts kept before lt = subst HasRoom (sym before.counted) (record {
    modules = omega (arith, count_by-le-length (λ (g : Governed). is_module g.module) seen, lt);
    refused = below is_refused;
    reported = below has_issues;
    issues = omega (arith, small', lt);
  })
    where
      small' : sum_by issue_count before.verdicts ≤ 18446744073709551615 * length seen
      small' = subst (λ (c : Counts). c.issues ≤ 18446744073709551615 * length seen) before.counted before.small

      below : (p : Verdict → Bool) → count_by p before.verdicts + 1 < 18446744073709551616
      below p = omega (arith, count_by-le-length p before.verdicts, judged_length manner.terminals seen before.verdicts was is before.judged, lt)

  -- ---- one more module

  module _ (manner : Manner) (head : List ℕ) (seen : List Governed) (m : Governed) (was between is : Faults) (o e : Option (List ℕ)) (is_after : Bool) (s : ℕ) (counts : Counts) (kept kept' : KeptRefusals) (out err : Writer) (ended : Ended)
      (before : SoFar manner head seen was between o out.before e err.before is_after s counts kept) (shown : Shows (record { policy = m.policy; manner = manner; is_after = is_after }) m.module (IsVerdict files manner.terminals m.policy m.module between is) out err kept kept' ended) where
    abbrev verdicts' : List Verdict
    verdicts' = before.verdicts ++ shown.verdict ∷ []

    judged' : AreJudged files manner.terminals (seen ++ m ∷ []) verdicts' was is
    judged' = judged_more manner.terminals seen before.verdicts m shown.verdict was between is before.judged shown.holds

    reports' : head ++ reports_after manner false (seen ++ m ∷ []) verdicts' ≡ (head ++ reports_after manner false seen before.verdicts) ++ verdict_output manner is_after m.module shown.verdict
    reports' =
        ap (λ t. head ++ t) (reports_more manner false seen before.verdicts m shown.verdict was between before.judged ∙ ap (λ v. reports_after manner false seen before.verdicts ++ verdict_output manner v m.module shown.verdict) (sym before.after))
        ∙ sym (append_assoc head (reports_after manner false seen before.verdicts) (verdict_output manner is_after m.module shown.verdict))

    output' : TookBy out.failed o out.after (head ++ reports_after manner false (seen ++ m ∷ []) verdicts')
    output' =
        subst (TookBy out.failed o out.after) (sym reports')
        (took_after o out.before out.after out.failed (head ++ reports_after manner false seen before.verdicts) (verdict_output manner is_after m.module shown.verdict) before.output shown.output)

    message' : TookBy err.failed e err.after (messages manner.terminals.err (seen ++ m ∷ []) verdicts')
    message' =
        subst (TookBy err.failed e err.after) (sym (messages_more manner.terminals seen before.verdicts m shown.verdict was between before.judged))
        (took_after e err.before err.after err.failed (messages manner.terminals.err seen before.verdicts) (verdict_message manner.terminals.err m.module shown.verdict) before.message shown.message)

    pub so_far_more : (more : List Governed) (after : Bool) (status : ℕ) (counts' : Counts) → more ≡ seen ++ m ∷ [] → out.failed ≡ false → err.failed ≡ false → after ≡ (is_after || ended.is_shown) → status ≡ worse_status s ended.status
        → counts' ≡ counts_with counts (is_module m.module) ended.status ended.issues → counts'.issues ≤ counts.issues + 18446744073709551615 → SoFar manner head more was is o out.after e err.after after status counts' kept'
    so_far_more more after status counts' all out_good err_good a w c small = record {
      verdicts = verdicts';
      judged = subst (λ l. AreJudged files manner.terminals l verdicts' was is) (sym all) judged';
      output = subst (λ l. Appends o out.after (head ++ reports_after manner false l verdicts')) (sym all) (all_taken o out.after out.failed (head ++ reports_after manner false (seen ++ m ∷ []) verdicts') out_good output');
      message = subst (λ l. Appends e err.after (messages manner.terminals.err l verdicts')) (sym all) (all_taken e err.after err.failed (messages manner.terminals.err (seen ++ m ∷ []) verdicts') err_good message');
      after = a ∙ ap (λ v. v || ended.is_shown) before.after ∙ ap (λ v. list_any (is_shown manner.form) before.verdicts || v) shown.shown ∙ sym (any_more manner.form before.verdicts shown.verdict);
      exit = w ∙ ap (λ t. worse_status t ended.status) before.exit ∙ ap (λ t. worse_status (worst_status (statuses seen before.verdicts)) t) shown.exit
          ∙ sym (worst_from 0 (statuses seen before.verdicts) (verdict_status m.policy shown.verdict)) ∙ ap (fold worse_status 0) (sym (statuses_more manner.terminals seen before.verdicts m shown.verdict was between before.judged)) ∙ ap (λ l. worst_status (statuses l verdicts')) (sym all);
      counted = c ∙ counts_more seen m before.verdicts shown.verdict counts ended.status ended.issues before.counted shown.exit shown.issues ∙ ap (λ l. counts_of l verdicts') (sym all);
      refusals = subst (HoldsAll kept') (sym (refusals_more before.verdicts shown.verdict)) (held_more kept kept' (flat_map refusals_of before.verdicts) (refusals_of shown.verdict) before.refusals shown.kept);
      small = subst (λ l. counts'.issues ≤ 18446744073709551615 * length l) (sym all) (more_small counts'.issues counts.issues (length seen) (length (seen ++ m ∷ [])) small before.small (length-append seen (m ∷ [])));
    }

    -- a text for the module couldn't be written
    pub run_cut : (modules rest : List Governed) (fo fe : Flushes) (end : ℕ) (last : RunEnd) → modules ≡ seen ++ m ∷ rest → (out.failed || err.failed) ≡ true → end ≡ 1
        → IsLintRun files manner head modules was is (record { out = record out { before = o; flushes_before = fo }; err = record err { before = e; flushes_before = fe }; status = end }) last
    run_cut modules rest fo fe end last all bad one = record {
      seen = seen ++ m ∷ [];
      rest = rest;
      all = all ∙ sym (append_assoc seen (m ∷ []) rest);
      whole = λ good. absurd (both (out.failed || err.failed) bad good);
      verdicts = verdicts';
      judged = judged';
      output = output';
      message = message';
      exit = one ∙ sym (ap (λ (v : Bool). if v then 1 else worst_status (statuses (seen ++ m ∷ []) verdicts')) bad);
      found = λ good. absurd (both (out.failed || err.failed) bad good);
    }

  -- ---- the end of the run

  -- the head of the output couldn't be written
  pub none_run : (manner : Manner) (head : List ℕ) (modules : List Governed) (was : Faults) (out err : Writer) (end : ℕ) (last : RunEnd) → TookBy out.failed out.before out.after head → out.failed ≡ true → err.failed ≡ false → err.after ≡ err.before → end ≡ 1
      → IsLintRun files manner head modules was was (record { out = out; err = err; status = end }) last
  none_run manner head modules was out err end last took bad good same one =
      let failed : (out.failed || err.failed) ≡ true = ap (λ v. v || err.failed) bad in record {
        seen = [];
        rest = modules;
        all = refl;
        whole = λ fine. absurd (both (out.failed || err.failed) failed fine);
        verdicts = [];
        judged = refl;
        output = subst (TookBy out.failed out.before out.after) (sym (append-nil head)) took;
        message = subst (λ a. TookBy err.failed err.before a []) (sym same) (untouched err.failed err.before good);
        exit = one ∙ sym (ap (λ (v : Bool). if v then 1 else 0) failed);
        found = λ fine. absurd (both (out.failed || err.failed) failed fine);
      }

  -- the head of the output was written
  pub headed : (manner : Manner) (head : List ℕ) (modules : List Governed) (was is : Faults) (first : Option (List ℕ)) (fo : Flushes) (out err : Writer) (status : ℕ) (ran : RunEnd) → Appends first out.before head
      → IsLintRun files manner [] modules was is (record { out = out; err = err; status = status }) ran → IsLintRun files manner head modules was is (record { out = record out { before = first; flushes_before = fo }; err = err; status = status }) ran
  headed manner head modules was is first fo out err status ran wrote h = record {
    seen = h.seen;
    rest = h.rest;
    all = h.all;
    whole = h.whole;
    verdicts = h.verdicts;
    judged = h.judged;
    output = took_after first out.before out.after out.failed head (reports_after manner false h.seen h.verdicts) wrote h.output;
    message = h.message;
    exit = h.exit;
    found = h.found;
  }

  pub run_whole : (manner : Manner) (head : List ℕ) (modules seen : List Governed) (was is : Faults) (out err : Writer) (is_after : Bool) (s : ℕ) (counts : Counts) (kept : KeptRefusals) (ran : RunEnd) → seen ≡ modules
      → SoFar manner head seen was is out.before out.after err.before err.after is_after s counts kept → out.failed ≡ false → err.failed ≡ false → ran.counts ≡ counts → ran.has_output ≡ is_after → ran.kept ≡ kept
      → IsLintRun files manner head modules was is (record { out = out; err = err; status = s }) ran
  run_whole manner head modules seen was is out err is_after s counts kept ran same before out_good err_good ec ei ek = record {
    seen = seen;
    rest = [];
    all = sym same ∙ sym (append-nil seen);
    whole = λ _. refl;
    verdicts = before.verdicts;
    judged = before.judged;
    output = subst (λ v. TookBy v out.before out.after (head ++ reports_after manner false seen before.verdicts)) (sym out_good) before.output;
    message = subst (λ v. TookBy v err.before err.after (messages manner.terminals.err seen before.verdicts)) (sym err_good) before.message;
    exit = before.exit ∙ sym (ap (λ (v : Bool). if v then 1 else worst_status (statuses seen before.verdicts)) (ap (λ v. v || err.failed) out_good ∙ err_good));
    found = λ _. record { counts = ec ∙ before.counted; output = ei ∙ before.after; refusals = subst (λ k. HoldsAll k (flat_map refusals_of before.verdicts)) (sym ek) before.refusals };
  }
