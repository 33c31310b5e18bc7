-- A text made of the tokens of another, with other gaps that fit, is scanned to the same tokens: by induction on the
-- list, for readings outside heredocs, where the gaps differ, and for readings inside an outermost heredoc, where the
-- bytes are the same and only the text after it differs.
use Rattle.std.proofs.Common.{◌≡◌, ℕ, ◌+◌, ◌≤◌, Bool, true, false, List, [], ◌∷◌, ◌++◌, length, take, drop, replicate, ⊎_elim, refl, sym, ap, subst, ◌∙◌, arith, length-append, append_assoc}
use Rattle.std.proofs.lemmas.List.{take-append-drop}
use Rattle.hcl_tokens.specs.Lexemes.{Lexeme, Opener, Heredoc, marker_of, open_after, in_heredoc, max_open}
use Rattle.hcl_tokens.specs.Spelling.{IsSpelling, context, Expression}
use Rattle.hcl_tokens.specs.Kinds.{is}
use Rattle.hcl_tokens.specs.Scans.{State, Hidden, hides, gap_len, offsets_of, unclosed_opener, begin, skip_blanks, at_line_end, closer_len, IsLongest, IsFirstMarkerLine, Leaves, Reads, Closes, Run, Scans, IsComplete}
use Rattle.hcl_tokens.specs.Regapped.{without_gaps, text_with_gaps, placed_tokens, AllFit}
use Rattle.hcl_tokens.specs.declared.token.Kind.{Kind}
use Rattle.hcl_tokens.specs.declared.token.Kind.TheVariants.{Newline, Dot}
use Rattle.hcl_tokens.proofs.BooleanLemmas.{and_true}
use Rattle.hcl_scan.proofs.ContextLemmas.{expression_is}
use Rattle.hcl_scan.proofs.ShownLemmas.{Shown, opening, plain, shown, plain_shows, open_shows}
use Rattle.hcl_scan.proofs.OpenStackLemmas.{Sound, is_grounded, count, if_heredoc, no_heredoc, must_close_heredoc, stacks}
use Rattle.hcl_scan.proofs.OtherStepLemmas.{Again, no_gap, gap_in_heredoc, gap_of_nothing, push_reads, push_closes}
use Rattle.hcl_scan.proofs.HeredocMarkerLemmas.{marker_line_stays}
use Rattle.hcl_scan.proofs.GapLemmas.{drop_blanks, gaps, lines}
use Rattle.hcl_scan.proofs.NextTokenLemmas.{follows}

-- the rest of a text
abbrev pub beyond : List Hidden → List ℕ → List ℕ
beyond [] z = z
beyond (h ∷ hs) z = h.closer ++ (h.after ++ beyond hs z)

-- the states in which the texts are read again, outside heredocs and inside
abbrev Outside : List (ℕ × Lexeme) → Type 0
Outside ps = (s end : State) (dot : Bool) (before : Kind) (at : ℕ) (offsets : List ℕ) → Run s (without_gaps ps) end → IsComplete end → s.hidden ≡ [] → Sound s.opens s.hidden → s.after_dot ≡ is Dot before → AllFit dot before ps →
    Again (record { at = at; opens = s.opens; offsets = offsets; after_dot = s.after_dot; seen = text_with_gaps ps; hidden = [] }) (placed_tokens at ps)

-- the text after the outermost heredoc
pub record Within (s : State) (hs : List Hidden) (last : Hidden) (ps : List (ℕ × Lexeme)) (at : ℕ) (offsets : List ℕ) : Type 0 where
  pub after : List ℕ
  pub whole : text_with_gaps ps ≡ s.seen ++ beyond hs (last.closer ++ after)
  pub ends : at_line_end (skip_blanks after) ≡ true
  pub again : Again (record { at = at; opens = s.opens; offsets = offsets; after_dot = s.after_dot; seen = s.seen; hidden = hs ++ record { closer = last.closer; after = after } ∷ [] }) (placed_tokens at ps)

abbrev Inside : List (ℕ × Lexeme) → Type 0
Inside ps = (s end : State) (dot : Bool) (before : Kind) (at : ℕ) (offsets : List ℕ) (hs : List Hidden) (last : Hidden) → Run s (without_gaps ps) end → IsComplete end → s.hidden ≡ hs ++ last ∷ [] → Sound s.opens s.hidden → at_line_end (skip_blanks last.after) ≡ true → s.after_dot ≡ is Dot before → AllFit dot before ps →
    Within s hs last ps at offsets

-- the text that a gap of no blanks leaves
no_blanks : (gap : ℕ) (more : List ℕ) → gap ≡ 0 → replicate gap 32 ++ more ≡ more
no_blanks gap more h = ap (λ n. replicate n 32 ++ more) h

-- the visible texts, with the text after them
join_seen : (text more rest seen tail : List ℕ) → text ++ rest ≡ seen → more ≡ rest ++ tail → text ++ more ≡ seen ++ tail
join_seen text more rest seen tail whole e = ap (λ l. text ++ l) e ∙ sym (append_assoc text rest tail) ∙ ap (λ l. l ++ tail) whole

-- the visible texts if a heredoc was opened
pub join_hidden : (marker rest : List ℕ) (n : ℕ) (tail : List ℕ) → let h : Hidden = hides marker (drop n rest) in take n rest ++ (h.closer ++ (h.after ++ tail)) ≡ rest ++ tail
join_hidden marker rest n tail =
    let k : ℕ = closer_len marker (drop n rest) in
    ap (λ l. take n rest ++ l) (sym (append_assoc (take k (drop n rest)) (drop k (drop n rest)) tail) ∙ ap (λ l. l ++ tail) (take-append-drop k (drop n rest)))
    ∙ sym (append_assoc (take n rest) (drop n rest) tail) ∙ ap (λ l. l ++ tail) (take-append-drop n rest)

abbrev closer_in : List Hidden → List ℕ
closer_in [] = []
closer_in (h ∷ hs) = h.closer

abbrev after_in : List Hidden → List ℕ
after_in [] = []
after_in (h ∷ hs) = h.after

joined : (seen text closer : List ℕ) → seen ≡ [] → text ≡ closer → (more : List ℕ) → text ++ more ≡ seen ++ (closer ++ more)
joined seen text closer read e more = ap (λ l. l ++ more) e ∙ ap (λ l. l ++ (closer ++ more)) (sym read)

-- no more tokens
outside_end : Outside []
outside_end s end dot before at offsets run done no_hidden sound dot_is parts = (
  record { at = at; opens = s.opens; offsets = offsets; after_dot = s.after_dot; seen = []; hidden = [] },
  refl,
  (ap (λ n. drop {A = ℕ} n []) (gap_of_nothing (context s.opens) (in_heredoc s.opens)), ap (λ (z : State). unclosed_opener z.opens) run ∙ done.1),
)

inside_end : Inside []
inside_end s end dot before at offsets hs last run done hidden sound ends dot_is parts =
    let none : count s.opens ≡ 0 = must_close_heredoc s.opens (ap (λ (z : State). unclosed_opener z.opens) run ∙ done.1) in
    let some = ap length hidden in
    absurd (omega (arith, none, some, sound.counted, length-append hs (last ∷ [])))

module _ (p : ℕ × Lexeme) (ps : List (ℕ × Lexeme)) (outside : Outside ps) (inside : Inside ps) where
  outside_step : Outside (p ∷ ps)
  outside_step s end dot before at offsets run done no_hidden sound dot_is parts = ⊎_elim reads closes run.1
    where
      next : State
      next = run.0

      t : Lexeme
      t = p.1

      goal : Type 0
      goal = Again (record { at = at; opens = s.opens; offsets = offsets; after_dot = s.after_dot; seen = text_with_gaps (p ∷ ps); hidden = [] }) (placed_tokens at (p ∷ ps))

      none : in_heredoc s.opens ≡ false
      none = no_heredoc s.opens (sound.counted ∙ ap length no_hidden)

      sound' : Sound next.opens next.hidden
      sound' = stacks s t next run.1 sound

      closes : Closes s t next → goal
      closes c = let e : in_heredoc s.opens ≡ true = ap in_heredoc c.top in absurd (cc)

      reads : Reads s t next → goal
      reads r = by (shown t.kind t.text r.rest s.hidden next.seen next.hidden r.leaves)
        where
          at' : ℕ
          at' = at + p.0 + length t.text

          offsets' : List ℕ
          offsets' = offsets_of (at + p.0) s.opens (open_after t.kind s.opens) offsets

          seen : List ℕ
          seen = text_with_gaps (p ∷ ps)

          longest : IsLongest s.opens s.after_dot (drop p.0 seen) t.kind t.text (text_with_gaps ps)
          longest = subst (λ l. IsLongest s.opens s.after_dot l t.kind t.text (text_with_gaps ps)) (sym (drop_blanks p.0 (t.text ++ text_with_gaps ps)))
              (follows s t next end ps r none run.2 done (subst (λ d. AllFit d t.kind ps) (sym dot_is) parts.1))

          room : length (open_after t.kind s.opens) ≤ max_open
          room = subst (λ (o : List Opener). length o ≤ max_open) r.opens r.room

          push : (seen' : List ℕ) (hidden' : List Hidden) → Leaves t.kind t.text (text_with_gaps ps) [] seen' hidden' → Again (record { at = at'; opens = next.opens; offsets = offsets'; after_dot = next.after_dot; seen = seen'; hidden = hidden' }) (placed_tokens at' ps) → goal
          push seen' hidden' shows again = push_reads at s.opens offsets s.after_dot seen [] p.0 t (text_with_gaps ps) seen' hidden' (placed_tokens at' ps)
              (gaps s t next dot before p.0 (text_with_gaps ps) r none parts.0) longest r.inside room shows
              (subst (λ (z : List Opener × Bool). Again (record { at = at'; opens = z.0; offsets = offsets'; after_dot = z.1; seen = seen'; hidden = hidden' }) (placed_tokens at' ps)) (λ i. (r.opens i, r.after_dot i)) again)

          by : Shown t.kind t.text r.rest s.hidden next.seen next.hidden → goal
          by (plain k e e') = push (text_with_gaps ps) [] (plain_shows t.kind t.text (text_with_gaps ps) [] k)
              (outside next end (is Dot before) t.kind at' offsets' run.2 done (e' ∙ no_hidden) sound' r.after_dot parts.1)
          by (opening k n first e e') =
              let h : Hidden = hides (marker_of t.text) (drop n r.rest) in
              let w = inside next end (is Dot before) t.kind at' offsets' [] h run.2 done (e' ∙ ap (λ l. h ∷ l) no_hidden) sound' (and_true _ _ first.here.marked).1 r.after_dot parts.1 in
              let m = marker_line_stays s.opens s.after_dot t.text r.rest w.after n (subst (λ (z : Kind). IsSpelling s.opens s.after_dot z t.text r.rest) k r.longest.spelled) first w.ends in
              let z_is : take n r.rest ++ (h.closer ++ w.after) ≡ text_with_gaps ps = sym (w.whole ∙ ap (λ l. l ++ (h.closer ++ w.after)) e) in
              let first' = subst (λ l. IsFirstMarkerLine (marker_of t.text) l n) z_is m.0 in
              let seen_is : next.seen ≡ take n (text_with_gaps ps) = e ∙ sym m.1 ∙ ap (take n) z_is in
              let hidden_is : record { closer = h.closer; after = w.after } ≡ hides (marker_of t.text) (drop n (text_with_gaps ps)) = sym m.2 ∙ ap (λ l. hides (marker_of t.text) (drop n l)) z_is in
              push next.seen (record { closer = h.closer; after = w.after } ∷ []) (open_shows t.kind t.text (text_with_gaps ps) [] _ _ k n first' seen_is (ap (λ (x : Hidden). x ∷ []) hidden_is)) w.again

  module _ (s end : State) (dot : Bool) (before : Kind) (at : ℕ) (offsets : List ℕ) (last : Hidden) (run : Run s (without_gaps (p ∷ ps)) end) (done : IsComplete end) (sound : Sound s.opens s.hidden) (ends : at_line_end (skip_blanks last.after) ≡ true) (parts : AllFit dot before (p ∷ ps)) where
    abbrev at' : ℕ
    at' = at + p.0 + length p.1.text

    inside_reads : (hs : List Hidden) → s.hidden ≡ hs ++ last ∷ [] → Sound run.0.opens run.0.hidden → Reads s p.1 run.0 → Within s hs last (p ∷ ps) at offsets
    inside_reads hs hidden sound' r = by (shown t.kind t.text r.rest s.hidden next.seen next.hidden r.leaves)
      where
        next : State
        next = run.0

        t : Lexeme
        t = p.1

        some : in_heredoc s.opens ≡ true
        some = if_heredoc s.opens (omega (arith, sound.counted, ap length hidden, length-append hs (last ∷ [])))

        gap : p.0 ≡ 0
        gap = no_gap dot before t p.0 (r.inside ∙ some) parts.0

        no_len : gap_len s ≡ 0
        no_len = gap_in_heredoc s.opens s.seen some

        whole : t.text ++ r.rest ≡ s.seen
        whole = r.longest.whole ∙ ap (λ n. drop n s.seen) no_len

        longest : IsLongest s.opens s.after_dot (drop p.0 s.seen) t.kind t.text r.rest
        longest = subst (λ n. IsLongest s.opens s.after_dot (drop n s.seen) t.kind t.text r.rest) (no_len ∙ sym gap) r.longest

        room : length (open_after t.kind s.opens) ≤ max_open
        room = subst (λ (o : List Opener). length o ≤ max_open) r.opens r.room

        offsets' : List ℕ
        offsets' = offsets_of (at + p.0) s.opens (open_after t.kind s.opens) offsets

        push : (seen' : List ℕ) (hidden hidden' : List Hidden) → Leaves t.kind t.text r.rest hidden seen' hidden' → Again (record { at = at'; opens = next.opens; offsets = offsets'; after_dot = next.after_dot; seen = seen'; hidden = hidden' }) (placed_tokens at' ps) → Again (record { at = at; opens = s.opens; offsets = offsets; after_dot = s.after_dot; seen = s.seen; hidden = hidden }) (placed_tokens at (p ∷ ps))
        push seen' hidden hidden' shows again = push_reads at s.opens offsets s.after_dot s.seen hidden p.0 t r.rest seen' hidden' (placed_tokens at' ps)
            (no_len ∙ sym gap) longest r.inside room shows
            (subst (λ (z : List Opener × Bool). Again (record { at = at'; opens = z.0; offsets = offsets'; after_dot = z.1; seen = seen'; hidden = hidden' }) (placed_tokens at' ps)) (λ i. (r.opens i, r.after_dot i)) again)

        by : Shown t.kind t.text r.rest s.hidden next.seen next.hidden → Within s hs last (p ∷ ps) at offsets
        by (plain k e e') =
            let w = inside next end (is Dot before) t.kind at' offsets' hs last run.2 done (e' ∙ hidden) sound' ends r.after_dot parts.1 in
            let h' : Hidden = record { closer = last.closer; after = w.after } in
            record {
              after = w.after;
              whole = no_blanks p.0 (t.text ++ text_with_gaps ps) gap ∙ join_seen t.text (text_with_gaps ps) r.rest s.seen (beyond hs (last.closer ++ w.after)) whole (w.whole ∙ ap (λ l. l ++ beyond hs (last.closer ++ w.after)) e);
              ends = w.ends;
              again = push next.seen (hs ++ h' ∷ []) (hs ++ h' ∷ []) (subst (λ l. Leaves t.kind t.text r.rest (hs ++ h' ∷ []) l (hs ++ h' ∷ [])) (sym e) (plain_shows t.kind t.text r.rest (hs ++ h' ∷ []) k)) w.again;
            }
        by (opening k n first e e') =
            let h : Hidden = hides (marker_of t.text) (drop n r.rest) in
            let w = inside next end (is Dot before) t.kind at' offsets' (h ∷ hs) last run.2 done (e' ∙ ap (λ l. h ∷ l) hidden) sound' ends r.after_dot parts.1 in
            let h' : Hidden = record { closer = last.closer; after = w.after } in
            let tail : List ℕ = beyond hs (last.closer ++ w.after) in
            record {
              after = w.after;
              whole = no_blanks p.0 (t.text ++ text_with_gaps ps) gap ∙ join_seen t.text (text_with_gaps ps) r.rest s.seen tail whole (w.whole ∙ ap (λ l. l ++ (h.closer ++ (h.after ++ tail))) e ∙ join_hidden (marker_of t.text) r.rest n tail);
              ends = w.ends;
              again = push next.seen (hs ++ h' ∷ []) (h ∷ (hs ++ h' ∷ [])) (open_shows t.kind t.text r.rest (hs ++ h' ∷ []) _ _ k n first e refl) w.again;
            }

    module _ (c : Closes s p.1 run.0) (sound' : Sound run.0.opens run.0.hidden) where
      abbrev next : State
      next = record { at = s.at + length p.1.text; opens = c.below; offsets = drop 1 s.offsets; after_dot = false; seen = c.rest; hidden = c.above }

      run_on : Run next (without_gaps ps) end
      run_on = subst (λ (z : State). Run z (without_gaps ps) end) c.next_is run.2

      sound_on : Sound c.below c.above
      sound_on = subst (λ (z : State). Sound z.opens z.hidden) c.next_is sound'

      no_gap_here : p.0 ≡ 0
      no_gap_here = no_gap dot before p.1 p.0 c.inside parts.0

      not_dot : ◌≡◌ {A = Bool} false (is Dot p.1.kind)
      not_dot = sym (ap (is Dot) c.kind)

      -- the outer text continues with the text that the last token leaves
      inside_closes : (hs : List Hidden) → s.hidden ≡ hs ++ last ∷ [] → Within s hs last (p ∷ ps) at offsets
      inside_closes [] hidden =
          let both : last ∷ [] ≡ record { closer = p.1.text; after = c.rest } ∷ c.above = sym hidden ∙ c.line in
          let closer : last.closer ≡ p.1.text = ap (λ (l : List Hidden). closer_in l) both in
          let after : last.after ≡ c.rest = ap (λ (l : List Hidden). after_in l) both in
          let above : c.above ≡ [] = sym (ap (λ l. drop 1 l) both) in
          let grounded : is_grounded (Heredoc ∷ c.below) ≡ true = subst (λ l. is_grounded l ≡ true) c.top sound.grounded in
          let in_expression : context c.below ≡ Expression = expression_is (context c.below) (and_true _ _ grounded).0 in
          let outside_all : in_heredoc c.below ≡ false = no_heredoc c.below (sound_on.counted ∙ ap length above) in
          let again = outside next end (is Dot before) p.1.kind at' (drop 1 offsets) run_on done above sound_on not_dot parts.1 in
          let pushed = push_closes at p.0 s.opens c.below offsets s.after_dot s.seen (text_with_gaps ps) [] p.1 (placed_tokens at' ps) c.top c.read no_gap_here c.kind c.inside again in
          record {
            after = text_with_gaps ps;
            whole = no_blanks p.0 (p.1.text ++ text_with_gaps ps) no_gap_here ∙ joined s.seen p.1.text last.closer c.read (sym closer) (text_with_gaps ps);
            ends = lines next end ps in_expression outside_all (ap (λ l. at_line_end (skip_blanks l)) (sym after) ∙ ends) run_on done;
            again = subst (λ l. Again (record { at = at; opens = s.opens; offsets = offsets; after_dot = s.after_dot; seen = s.seen; hidden = record { closer = l; after = text_with_gaps ps } ∷ [] }) (placed_tokens at (p ∷ ps))) (sym closer) pushed;
          }
      inside_closes (h ∷ hs) hidden =
          let both : h ∷ (hs ++ last ∷ []) ≡ record { closer = p.1.text; after = c.rest } ∷ c.above = sym hidden ∙ c.line in
          let closer : h.closer ≡ p.1.text = ap (λ (l : List Hidden). closer_in l) both in
          let after : h.after ≡ c.rest = ap (λ (l : List Hidden). after_in l) both in
          let above : c.above ≡ hs ++ last ∷ [] = sym (ap (λ l. drop 1 l) both) in
          let w = inside next end (is Dot before) p.1.kind at' (drop 1 offsets) hs last run_on done above sound_on ends not_dot parts.1 in
          let h' : Hidden = record { closer = last.closer; after = w.after } in
          let tail : List ℕ = beyond hs (last.closer ++ w.after) in
          let pushed = push_closes at p.0 s.opens c.below offsets s.after_dot s.seen c.rest (hs ++ h' ∷ []) p.1 (placed_tokens at' ps) c.top c.read no_gap_here c.kind c.inside w.again in
          record {
            after = w.after;
            whole = no_blanks p.0 (p.1.text ++ text_with_gaps ps) no_gap_here ∙ ap (λ l. p.1.text ++ l) w.whole ∙ ap (λ l. p.1.text ++ (l ++ tail)) (sym after) ∙ joined s.seen p.1.text h.closer c.read (sym closer) (h.after ++ tail);
            ends = w.ends;
            again = subst (λ (x : Hidden). Again (record { at = at; opens = s.opens; offsets = offsets; after_dot = s.after_dot; seen = s.seen; hidden = x ∷ (hs ++ h' ∷ []) }) (placed_tokens at (p ∷ ps))) (λ i. record { closer = sym closer i; after = sym after i }) pushed;
          }

  inside_step : Inside (p ∷ ps)
  inside_step s end dot before at offsets hs last run done hidden sound ends dot_is parts =
      let sound' = stacks s p.1 run.0 run.1 sound in
      ⊎_elim (inside_reads s end dot before at offsets last run done sound ends parts hs hidden sound')
      (λ c. inside_closes s end dot before at offsets last run done sound ends parts c sound' hs hidden) run.1

both : (ps : List (ℕ × Lexeme)) → Outside ps × Inside ps
both [] = (outside_end, inside_end)
both (p ∷ ps) = let rec = both ps in (outside_step p ps rec.0 rec.1, inside_step p ps rec.0 rec.1)

-- THE LAW
pub other_gaps : (text : List ℕ) (ps : List (ℕ × Lexeme)) → Scans text (without_gaps ps) → AllFit false Newline ps → Scans (text_with_gaps ps) (placed_tokens 0 ps)
other_gaps text ps scans parts = (both ps).0 (begin text) scans.0 false Newline 0 [] scans.1 scans.2 refl (record { counted = refl; grounded = refl }) refl parts
