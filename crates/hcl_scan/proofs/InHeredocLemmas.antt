-- Inside an outermost heredoc the tokens don't depend on the text after it.
use Rattle.std.proofs.Common.{◌≡◌, ℕ, ◌+◌, ◌<◌, Bool, true, false, List, [], ◌∷◌, length, drop, ◌≤◌, inl, inr, refl, sym, ap, subst, ◌∙◌, arith}
use Rattle.hcl_tokens.specs.Lexemes.{Lexeme, Opener, in_heredoc, marker_of, open_after, max_open}
use Rattle.hcl_tokens.specs.Kinds.{is}
use Rattle.hcl_tokens.specs.declared.token.Kind.TheVariants as kind
use Rattle.hcl_tokens.specs.Scans.{State, Hidden, hides, gap_len, gap_in, ahead, offsets_of, IsLongest, Leaves, Reads, Closes, Next}
use Rattle.hcl_scan.specs.InHeredocs.{after_last, SameInside, ReadsToo}
use Rattle.hcl_scan.proofs.ShownLemmas.{Shown, opening, plain, shown, plain_shows, open_shows}
use Rattle.hcl_scan.proofs.OtherStepLemmas.{gap_in_heredoc}

after_cons : (other : List ℕ) (h : Hidden) (hs : List Hidden) → 0 < length hs → after_last other (h ∷ hs) ≡ h ∷ after_last other hs
after_cons other h [] some = absurd (omega arith)
after_cons other h (k ∷ hs) some = refl

abbrev went : State → Lexeme → List ℕ → List Hidden → State
went twin t seen hidden = record { at = twin.at + length t.text; opens = open_after t.kind twin.opens; offsets = offsets_of twin.at twin.opens (open_after t.kind twin.opens) twin.offsets; after_dot = is kind.Dot t.kind; seen = seen; hidden = hidden }

module _ (other : List ℕ) (s twin : State) (t : Lexeme) (next : State) (same : SameInside other s twin) (some : 0 < length s.hidden) where
  reads_too : in_heredoc s.opens ≡ true → Reads s t next → ReadsToo other twin t next
  reads_too inside r = by (shown t.kind t.text r.rest s.hidden next.seen next.hidden r.leaves)
    where
      none : gap_in s.opens s.seen ≡ 0
      none = gap_in_heredoc s.opens s.seen inside

      gap : gap_len twin ≡ 0
      gap = (λ i. gap_in (same.opens i) (same.seen i)) ∙ none

      ahead_is : ahead s ≡ ahead twin
      ahead_is = ap (λ n. drop n s.seen) none ∙ sym same.seen ∙ ap (λ n. drop n twin.seen) (sym gap)

      longest : IsLongest twin.opens twin.after_dot (ahead twin) t.kind t.text r.rest
      longest = subst (λ (z : List Opener × Bool × List ℕ). IsLongest z.0 z.1 z.2 t.kind t.text r.rest) (λ i. (sym same.opens i, sym same.after_dot i, ahead_is i)) r.longest

      opens_is : open_after t.kind twin.opens ≡ next.opens
      opens_is = ap (open_after t.kind) same.opens ∙ sym r.opens

      with_state : (seen : List ℕ) (hidden : List Hidden) → Leaves t.kind t.text r.rest twin.hidden seen hidden → seen ≡ next.seen → hidden ≡ after_last other next.hidden → ReadsToo other twin t next
      with_state seen hidden shows e f = record {
        state = went twin t seen hidden;
        read = inl (record {
          rest = r.rest;
          longest = longest;
          start = omega (arith, gap);
          inside = r.inside ∙ ap in_heredoc (sym same.opens);
          at = refl;
          opens = refl;
          offsets = refl;
          room = subst (λ (o : List Opener). length o ≤ max_open) (sym opens_is) r.room;
          after_dot = refl;
          leaves = shows;
        });
        same = record { opens = opens_is; after_dot = sym r.after_dot; seen = e; hidden = f };
      }

      by : Shown t.kind t.text r.rest s.hidden next.seen next.hidden → ReadsToo other twin t next
      by (plain k e e') = with_state r.rest twin.hidden (plain_shows t.kind t.text r.rest twin.hidden k) (sym e) (same.hidden ∙ ap (after_last other) (sym e'))
      by (opening k n first e e') =
          let h : Hidden = hides (marker_of t.text) (drop n r.rest) in
          with_state next.seen (h ∷ twin.hidden) (open_shows t.kind t.text r.rest twin.hidden next.seen (h ∷ twin.hidden) k n first e refl) refl
          (ap (λ l. h ∷ l) same.hidden ∙ sym (after_cons other h s.hidden some) ∙ ap (after_last other) (sym e'))

  closes_too : 0 < length next.hidden → Closes s t next → ReadsToo other twin t next
  closes_too inside c =
      let above : next.hidden ≡ c.above = ap (λ (z : State). z.hidden) c.next_is in
      let line : twin.hidden ≡ record { closer = t.text; after = c.rest } ∷ after_last other c.above = same.hidden ∙ ap (after_last other) c.line ∙ after_cons other (record { closer = t.text; after = c.rest }) c.above (omega (arith, inside, ap length above)) in
      record {
        state = record { at = twin.at + length t.text; opens = c.below; offsets = drop 1 twin.offsets; after_dot = false; seen = c.rest; hidden = after_last other c.above };
        read = inr (record {
          below = c.below;
          top = same.opens ∙ c.top;
          read = same.seen ∙ c.read;
          rest = c.rest;
          above = after_last other c.above;
          line = line;
          kind = c.kind;
          start = refl;
          inside = c.inside;
          next_is = refl;
        });
        same = record { opens = ap (λ (z : State). z.opens) (sym c.next_is); after_dot = ap (λ (z : State). z.after_dot) (sym c.next_is); seen = ap (λ (z : State). z.seen) (sym c.next_is); hidden = ap (after_last other) (sym above) };
      }

  pub read_inside : in_heredoc s.opens ≡ true → 0 < length next.hidden → Next s t next → ReadsToo other twin t next
  read_inside inside still (inl r) = reads_too inside r
  read_inside inside still (inr c) = closes_too still c
