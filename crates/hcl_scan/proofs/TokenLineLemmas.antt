-- The line of a token. The rest of a text is a gap, the token and a rest; a gap ends no line, so the lines that end
-- before a token are those that end in the tokens before it.
use Rattle.std.proofs.Common.{◌≡◌, ℕ, ◌+◌, ◌==◌, Bool, true, false, cond, List, [], ◌∷◌, ◌++◌, length, take, inl, inr, refl, sym, ap, ◌∙◌, arith, length-append, append_assoc, append-nil}
use Rattle.std.specs.Prelude.{count_by}
use Rattle.std.specs.List.{flat_map, list_all, prefix_len}
use Rattle.std.proofs.Math.Seq.{take-append_seam}
use Rattle.std.proofs.lemmas.List.{take-append-drop}
use Rattle.std.proofs.lemmas.List.Folds.{length-prefix_len}
use Rattle.std.proofs.lemmas.List.Sums.{sum_by-append, sum_by-cons}
use Rattle.std.proofs.lemmas.Bool.Decides.{nat_tests}
use Rattle.hcl_tokens.specs.Lexemes.{Lexeme, Opener, marker_of, in_heredoc}
use Rattle.hcl_tokens.specs.Spelling.{context, is_blank}
use Rattle.hcl_tokens.specs.Scans.{State, has_gaps_in, gap_in, gap_len, ahead, begin, Reads, Closes, Next, Run, Scans}
use Rattle.hcl_source.specs.Places.{line_of}
use Rattle.hcl_tokens.proofs.BooleanLemmas.{and_true}
use Rattle.hcl_scan.proofs.LongestFrontLemmas.{run_passes}
use Rattle.hcl_scan.proofs.OtherGapLemmas.{beyond, join_hidden}
use Rattle.hcl_scan.proofs.ShownLemmas.{Shown, opening, plain, shown}

-- how many lines end in these bytes
abbrev ends : List ℕ → ℕ
ends bytes = count_by (λ b. b == 10) bytes

ends-append : (bytes more : List ℕ) → ends (bytes ++ more) ≡ ends bytes + ends more
ends-append bytes more = sum_by-append _ bytes more

-- ---- gaps
not_lf : (b : ℕ) → is_blank b ≡ true → (b == 10) ≡ false
not_lf b h = grind (arith, nat_tests)

blanks_end_none : (bytes : List ℕ) → list_all is_blank bytes ≡ true → ends bytes ≡ 0
blanks_end_none [] h = refl
blanks_end_none (b ∷ bytes) h =
    let parts = and_true (is_blank b) (list_all is_blank bytes) h in
    sum_by-cons _ b bytes ∙ ap (λ v. cond v 1 0 + ends bytes) (not_lf b parts.0) ∙ omega (arith, blanks_end_none bytes parts.1)

take_none : (bytes : List ℕ) → take 0 bytes ≡ []
take_none [] = refl
take_none (b ∷ bytes) = refl

gap_taken : (opens : List Opener) (seen : List ℕ) → (ends (take (gap_in opens seen) seen) ≡ 0) × (length (take (gap_in opens seen) seen) ≡ gap_in opens seen)
gap_taken opens seen = by (has_gaps_in (context opens) (in_heredoc opens))
  where
    by : (v : Bool) → (ends (take (cond v (prefix_len is_blank seen) 0) seen) ≡ 0) × (length (take (cond v (prefix_len is_blank seen) 0) seen) ≡ cond v (prefix_len is_blank seen) 0)
    by true = (blanks_end_none (take (prefix_len is_blank seen) seen) (run_passes is_blank seen), length-prefix_len is_blank seen)
    by false = (ap ends (take_none seen), ap length (take_none seen))

-- ---- the rest of a text, token by token
abbrev coming : State → List ℕ
coming s = s.seen ++ beyond s.hidden []

-- a gap that ends no line, the token, and the rest
record Step (s : State) (t : Lexeme) (next : State) : Type 0 where
  gap : List ℕ
  none_end : ends gap ≡ 0
  whole : coming s ≡ gap ++ (t.text ++ coming next)
  start : t.start ≡ s.at + length gap
  at : next.at ≡ t.start + length t.text

reads_step : (s : State) (t : Lexeme) (next : State) → Reads s t next → Step s t next
reads_step s t next r = record {
  gap = take (gap_len s) s.seen;
  none_end = taken.0;
  whole = ap (λ l. l ++ beyond s.hidden []) (sym (take-append-drop (gap_len s) s.seen))
      ∙ append_assoc (take (gap_len s) s.seen) (ahead s) (beyond s.hidden [])
      ∙ ap (λ l. take (gap_len s) s.seen ++ l) (ap (λ l. l ++ beyond s.hidden []) (sym r.longest.whole) ∙ append_assoc t.text r.rest (beyond s.hidden []) ∙ ap (λ l. t.text ++ l) (sym then));
  start = r.start ∙ ap (λ n. s.at + n) (sym taken.1);
  at = r.at;
}
  where
    taken : (ends (take (gap_len s) s.seen) ≡ 0) × (length (take (gap_len s) s.seen) ≡ gap_len s)
    taken = gap_taken s.opens s.seen

    by : Shown t.kind t.text r.rest s.hidden next.seen next.hidden → coming next ≡ r.rest ++ beyond s.hidden []
    by (plain k e e') = ap (λ l. l ++ beyond next.hidden []) e ∙ ap (λ h. r.rest ++ beyond h []) e'
    by (opening k n first e e') = ap (λ l. l ++ beyond next.hidden []) e ∙ ap (λ h. take n r.rest ++ beyond h []) e' ∙ join_hidden (marker_of t.text) r.rest n (beyond s.hidden [])

    then : coming next ≡ r.rest ++ beyond s.hidden []
    then = by (shown t.kind t.text r.rest s.hidden next.seen next.hidden r.leaves)

closes_step : (s : State) (t : Lexeme) (next : State) → Closes s t next → Step s t next
closes_step s t next c = record {
  gap = [];
  none_end = refl;
  whole = ap (λ l. l ++ beyond s.hidden []) c.read ∙ ap (λ h. beyond h []) c.line ∙ ap (λ l. t.text ++ l) (sym then);
  start = c.start ∙ omega arith;
  at = ap (λ (n : State). n.at) c.next_is ∙ ap (λ n. n + length t.text) (sym c.start);
}
  where
    then : coming next ≡ c.rest ++ beyond c.above []
    then = ap (λ (n : State). n.seen ++ beyond n.hidden []) c.next_is

step : (s : State) (t : Lexeme) (next : State) → Next s t next → Step s t next
step s t next (inl r) = reads_step s t next r
step s t next (inr c) = closes_step s t next c

-- ---- all before a token
run_lines : (read : List ℕ) (s : State) (front : List Lexeme) (t : Lexeme) (back : List Lexeme) (end : State) → length read ≡ s.at → Run s (front ++ t ∷ back) end
    → ends (take t.start (read ++ coming s)) ≡ ends read + ends (flat_map (λ u. u.text) front)
run_lines read s [] t back end at run =
    let one = step s t run.0 run.1 in
    let here : t.start ≡ length (read ++ one.gap) = omega (arith, one.start, at, length-append read one.gap) in
    ap (λ n. ends (take n (read ++ coming s))) here
    ∙ ap (λ l. ends (take (length (read ++ one.gap)) l)) (ap (λ l. read ++ l) one.whole ∙ sym (append_assoc read one.gap (t.text ++ coming run.0)))
    ∙ ap ends (take-append_seam (read ++ one.gap) (t.text ++ coming run.0))
    ∙ ends-append read one.gap
    ∙ ap (λ n. ends read + n) one.none_end
run_lines read s (u ∷ front) t back end at run =
    let one = step s u run.0 run.1 in
    let more : List ℕ = read ++ (one.gap ++ u.text) in
    let long : length more ≡ run.0.at = omega (arith, one.start, one.at, at, length-append read (one.gap ++ u.text), length-append one.gap u.text) in
    let whole : read ++ coming s ≡ more ++ coming run.0 = ap (λ l. read ++ l) (one.whole ∙ sym (append_assoc one.gap u.text (coming run.0))) ∙ sym (append_assoc read (one.gap ++ u.text) (coming run.0)) in
    let rec = run_lines more run.0 front t back end long run.2 in
    ap (λ l. ends (take t.start l)) whole ∙ rec
    ∙ omega (arith, ends-append read (one.gap ++ u.text), ends-append one.gap u.text, one.none_end, ends-append u.text (flat_map (λ v. v.text) front))

-- THE LAW
pub line_is : (text : List ℕ) (front : List Lexeme) (t : Lexeme) (back : List Lexeme) → Scans text (front ++ t ∷ back)
    → line_of text t.start ≡ 1 + count_by (λ b. b == 10) (flat_map (λ u. u.text) front)
line_is text front t back scans =
    ap (λ l. 1 + ends (take t.start l)) (sym (append-nil text)) ∙ ap (λ n. 1 + n) (run_lines [] (begin text) front t back scans.0 refl scans.1 ∙ omega arith)
