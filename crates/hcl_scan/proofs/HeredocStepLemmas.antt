-- A turn of the scanner at the opening and at the end of a heredoc.
use Rattle.std.proofs.Common.{◌≡◌, ℕ, ◌+◌, ◌-◌, ◌<◌, ◌≤◌, ◌&&◌, ◌||◌, ◌==◌, Bool, true, false, cond, List, [], ◌∷◌, length, take, drop, get_or, slice_range, Some, ◌⊎◌, inl, inr, ⊎_elim, refl, sym, ap, subst, ◌∙◌, arith, IsUtf8, length-drop, get_or-drop}
use Rattle.std.specs.List.{prefix_len}
use Rattle.std.specs.Str.{IsCharBoundary}
use Rattle.std.proofs.lemmas.Str.{IsCharBoundary-start, IsCharBoundary-after_ascii}
use Rattle.std.proofs.lemmas.Bool.{false≢true, cases_order}
use Rattle.std.proofs.lemmas.Bool.Decides.{nat_tests}
use Rattle.std.proofs.lemmas.List.{length-map}
use Rattle.std.proofs.lemmas.List.Sums.{prefix_len-le-length}
use Rattle.hcl_tokens.specs.Lexemes.{Opener, Heredoc, marker_of, open_after, max_open}
use Rattle.hcl_tokens.specs.Spelling.{is_blank, starts, context, Expression, IsHeredocOpen}
use Rattle.hcl_tokens.specs.Kinds.{is}
use Rattle.hcl_tokens.specs.Scans.{Leaves, hides, IsLongest, IsMarkerLine, IsFirstMarkerLine, closer_len, is_marker_line, skip_blanks, at_line_end, ahead}
use Rattle.hcl_tokens.specs.Faults.{too_deep, no_marker_line}
use Rattle.hcl_scan.specs.Inner.Openings.{opener_of, openers_of, offsets_in, hidden_of, opened_by, opened_on}
use Rattle.hcl_scan.specs.Inner.Scanners.{state_of, IsSound, IsNext, IsStopped, Moves, fits_in}
use Rattle.hcl_tokens.specs.declared.token.TokenEntry.{TokenEntry}
use Rattle.hcl_scan.specs.declared.stack.Opener as kept
use Rattle.hcl_scan.specs.declared.stack.Opener.TheVariants as by
use Rattle.hcl_scan.specs.declared.stack.Opened.{Opened}
use Rattle.hcl_scan.specs.declared.scanner.Scanner.{Scanner}
use Rattle.hcl_source.specs.declared.fault.FaultKind.TheVariants.{TooDeep, UnterminatedHeredoc}
use Rattle.hcl_tokens.specs.declared.token.Kind.{Kind}
use Rattle.hcl_tokens.specs.declared.token.Kind.TheVariants.{HeredocOpen, Dot}
use Rattle.hcl_scan.proofs.SliceLemmas.{front_of, back_of, slice_len, part_boundary}
use Rattle.hcl_scan.proofs.StackLemmas.{push_offsets, closes_is, opens_so}
use Rattle.hcl_scan.proofs.LiteralLemmas.{starts_len}
use Rattle.hcl_scan.proofs.MarkerLemmas.{some_marker, marker_no_blank}
use Rattle.hcl_scan.proofs.KindPlaceLemmas.{heredoc}
use Rattle.hcl_scan.proofs.TextStartLemmas.{both}
use Rattle.hcl_scan.proofs.StepLemmas.{ahead_is, entry_is, text_len, blank_ascii}

heredoc_kind : (kind : Kind) → is HeredocOpen kind ≡ true → kind ≡ HeredocOpen
heredoc_kind HeredocOpen h = refl
heredoc_kind _ h = absurd (false≢true h)

-- a marker line begins between characters, and so ends its marker
pub ascii_there : (xs : List ℕ) (n : ℕ) → n ≤ length xs → (drop n xs ≡ []) ⊎ (get_or (drop n xs) 0 0 < 128) → IsCharBoundary xs n
ascii_there xs n within (inl none) = (within, λ lt. absurd (omega (arith, lt, ap length none, length-drop n xs)))
ascii_there xs n within (inr small) =
    let same : get_or (drop n xs) 0 0 ≡ get_or xs n 0 = get_or-drop n xs 0 0 ∙ ap (λ i. get_or xs i 0) (omega arith) in
    (within, λ lt high. absurd (omega (arith, small, high, same)))

newline_ascii : (b : ℕ) (s : Bool) → ((b == 10) && true || ((b == 13) && s)) ≡ true → b < 128
newline_ascii b s h = grind (arith, nat_tests)

line_ascii : (b : ℕ) (rest : List ℕ) (v : Bool) → is_blank b ≡ v → at_line_end (drop (cond v (1 + prefix_len is_blank rest) 0) (b ∷ rest)) ≡ true → b < 128
line_ascii b rest true e h = blank_ascii b e
line_ascii b rest false e h = newline_ascii b (starts rest (10 ∷ [])) h

pub after_marker : (rest : List ℕ) → at_line_end (skip_blanks rest) ≡ true → (rest ≡ []) ⊎ (get_or rest 0 0 < 128)
after_marker [] h = inl refl
after_marker (b ∷ rest) h = inr (line_ascii b rest (is_blank b) refl h)

pub line_boundary : (marker rest : List ℕ) (n : ℕ) → IsUtf8 rest → IsMarkerLine marker rest n → IsCharBoundary rest n
line_boundary marker rest n utf8 is =
    ⊎_elim (λ none. subst (IsCharBoundary rest) (sym none) (IsCharBoundary-start rest utf8))
    (λ other. ⊎_elim (λ neg. absurd (omega arith))
    (λ some.
    let back : n - 1 + 1 ≡ n = omega arith in
    let lf = is.starts_line some in
    subst (IsCharBoundary rest) back (IsCharBoundary-after_ascii rest (n - 1) utf8 (omega (arith, is.within)) (omega (arith, lf))))
    other)
    (cases_order n 0)

pub closer_within : (marker line : List ℕ) → is_marker_line marker line ≡ true → closer_len marker line ≤ length line
closer_within marker line is =
    let b = both (starts (skip_blanks line) marker) (at_line_end (skip_blanks (drop (closer_len marker line) line))) is in
    let le : prefix_len is_blank line ≤ length line = prefix_len-le-length is_blank line in
    omega (arith, starts_len (skip_blanks line) marker b.0, length-drop (prefix_len is_blank line) line, le)

module _ (s : Scanner) (e : TokenEntry) (sound : IsSound s) (this : IsNext s e) (opens : is HeredocOpen e.kind ≡ true) where
  kind_is : e.kind ≡ HeredocOpen
  kind_is = heredoc_kind e.kind opens

  abbrev word : List ℕ
  word = slice_range s.text.now e.start e.end

  abbrev rest : List ℕ
  rest = slice_range s.text.now e.end s.end

  spelled_so : (context (openers_of s.stack) ≡ Expression) × IsHeredocOpen word
  spelled_so = heredoc (openers_of s.stack) s.after_dot word rest e.kind this.longest.spelled kind_is

  pub marker_some : 0 < length (marker_of word)
  marker_some = some_marker word spelled_so.1

  pub marker_begins : is_blank (get_or (marker_of word) 0 0) ≡ false
  marker_begins = marker_no_blank word spelled_so.1

  longest_so : IsLongest (openers_of s.stack) s.after_dot (ahead (state_of s)) HeredocOpen word rest
  longest_so = subst (λ (k : Kind). IsLongest (openers_of s.stack) s.after_dot (ahead (state_of s)) k word rest) kind_is (subst (λ l. IsLongest (openers_of s.stack) s.after_dot l e.kind word rest) (ahead_is s e.start this.start) this.longest)

  -- its marker line is missing
  pub no_line : length s.stack < max_open → ((n : ℕ) → ¬ IsMarkerLine (marker_of word) rest n) → IsStopped s (record { kind = UnterminatedHeredoc; at = e.start })
  no_line room none = record {
    lacks = no_marker_line word rest longest_so (omega (arith, room, length-map s.stack (λ (o : Opened). opener_of o.by))) none refl;
    at = this.start.gap;
    boundary = this.start.boundary;
  }

  -- its marker line is found
  module _ (line : ℕ) (utf8 : IsUtf8 rest) (room : length s.stack < max_open) (first : IsFirstMarkerLine (marker_of word) rest line) where
    abbrev marker : List ℕ
    marker = marker_of word

    abbrev hidden : List ℕ
    hidden = slice_range s.text.now (e.end + line) s.end

    rest_len : length rest + e.end ≡ s.end
    rest_len = slice_len s.text.now e.end s.end this.within sound.within

    line_within : e.end + line ≤ s.end
    line_within = omega (arith, rest_len, first.here.within)

    hidden_is : hidden ≡ drop line rest
    hidden_is = back_of s.text.now e.end s.end line line_within

    marked : is_marker_line marker hidden ≡ true
    marked = ap (is_marker_line marker) hidden_is ∙ first.here.marked

    pub line_starts : starts (skip_blanks (drop line rest)) marker ≡ true
    line_starts = (both (starts (skip_blanks (drop line rest)) marker) (at_line_end (skip_blanks (drop (closer_len marker (drop line rest)) (drop line rest)))) first.here.marked).0

    hidden_len : length hidden + (e.end + line) ≡ s.end
    hidden_len = slice_len s.text.now (e.end + line) s.end line_within sound.within

    module _ (n : ℕ) (n_is : n ≡ closer_len marker (drop line rest)) where
      len_is : n ≡ closer_len marker hidden
      len_is = n_is ∙ ap (closer_len marker) (sym hidden_is)

      closer_within_so : e.end + line + n ≤ s.end
      closer_within_so = omega (arith, len_is, closer_within marker hidden marked, hidden_len)

      closer_some : 0 < n
      closer_some = omega (arith, len_is, marker_some)

      end_boundary : IsCharBoundary s.text.now (e.end + line)
      end_boundary = part_boundary s.text.now e.end s.end line line_within sound.within sound.end (line_boundary marker rest line utf8 first.here)

      closer_boundary : IsCharBoundary s.text.now (e.end + line + n)
      closer_boundary = part_boundary s.text.now (e.end + line) s.end n closer_within_so sound.within sound.end
          (ascii_there hidden n (omega (arith, closer_within_so, hidden_len)) (after_marker (drop n hidden) (ap (λ k. at_line_end (skip_blanks (drop k hidden))) len_is ∙ (both (starts (skip_blanks hidden) marker) (at_line_end (skip_blanks (drop (closer_len marker hidden) hidden))) marked).1)))

      abbrev opener : kept.Opener
      opener = by.Heredoc (e.end + line + n) s.end

      pub opens_heredoc : (stack : List Opened) → stack ≡ opened_on opener e.start s.stack → Moves s e (record { text = s.text; at = e.end; end = e.end + line; after_dot = false; stack = stack })
      opens_heredoc stack stack_is = subst (λ (z : List Opened). Moves s e (record { text = s.text; at = e.end; end = e.end + line; after_dot = false; stack = z })) (sym stack_is) (record {
        same_text = refl;
        entry = entry_is s e sound this;
        read = inl (record {
          rest = rest;
          longest = subst (λ l. IsLongest (openers_of s.stack) s.after_dot l e.kind word rest) (ahead_is s e.start this.start) this.longest;
          start = this.start.gap;
          inside = this.inside;
          at = text_len s e sound this;
          opens = ap (λ (k : Kind). open_after k (openers_of s.stack)) (sym kind_is);
          offsets = push_offsets e.start Heredoc (openers_of s.stack) (offsets_in s.stack);
          room = omega (arith, room, length-map s.stack (λ (o : Opened). opener_of o.by));
          after_dot = ap (is Dot) (sym kind_is);
          leaves = subst (λ (k : Kind). Leaves k word rest (hidden_of s.text.now s.stack s.end) (slice_range s.text.now e.end (e.end + line)) (hidden_of s.text.now (opened_on opener e.start s.stack) (e.end + line))) (sym kind_is)
              (line, first, front_of s.text.now e.end s.end line line_within, hides_so);
        });
        sound = record {
          small = sound.small;
          order = omega arith;
          within = omega (arith, line_within, sound.within);
          start = this.boundary;
          end = end_boundary;
          stack = (closes_is s.text.now s.stack s.end opener sound.stack, ap (fits_in Heredoc) spelled_so.0, this.start.boundary, (omega (arith, closer_some), closer_within_so, closer_boundary, sound.end, sound.stack));
          depth = omega (arith, room);
        };
        further = omega (arith, this.start.gap, this.order);
      })
        where
          hides_so : record { closer = slice_range s.text.now (e.end + line) (e.end + line + n); after = slice_range s.text.now (e.end + line + n) s.end } ∷ hidden_of s.text.now s.stack s.end ≡ hides marker (drop line rest) ∷ hidden_of s.text.now s.stack s.end
          hides_so =
              let closer : slice_range s.text.now (e.end + line) (e.end + line + n) ≡ take (closer_len marker (drop line rest)) (drop line rest) = front_of s.text.now (e.end + line) s.end n closer_within_so ∙ (λ i. take (n_is i) (hidden_is i)) in
              let after : slice_range s.text.now (e.end + line + n) s.end ≡ drop (closer_len marker (drop line rest)) (drop line rest) = back_of s.text.now (e.end + line) s.end n closer_within_so ∙ (λ i. drop (n_is i) (hidden_is i)) in
              λ i. record { closer = closer i; after = after i } ∷ hidden_of s.text.now s.stack s.end

-- TOO DEEP
pub deep : (s : Scanner) (e : TokenEntry) (is : IsNext s e) (opener : Opener) → length s.stack ≡ max_open → open_after e.kind (openers_of s.stack) ≡ opener ∷ openers_of s.stack → IsStopped s (record { kind = TooDeep; at = e.start })
deep s e is opener full moves = record {
  lacks = too_deep e.kind (slice_range s.text.now e.start e.end) (slice_range s.text.now e.end s.end)
      (subst (λ l. IsLongest (openers_of s.stack) s.after_dot l e.kind (slice_range s.text.now e.start e.end) (slice_range s.text.now e.end s.end)) (ahead_is s e.start is.start) is.longest)
      (omega (arith, full, ap length moves, length-map s.stack (λ (o : Opened). opener_of o.by))) refl;
  at = is.start.gap;
  boundary = is.start.boundary;
}

pub deep_opener : (s : Scanner) (e : TokenEntry) (is : IsNext s e) (opener : kept.Opener) → length s.stack ≡ max_open → opened_by e.kind ≡ Some opener → IsStopped s (record { kind = TooDeep; at = e.start })
deep_opener s e is opener full opens = deep s e is (opener_of opener) full (sym (opens_so e.kind opener (openers_of s.stack) opens).0)

pub deep_heredoc : (s : Scanner) (e : TokenEntry) (this : IsNext s e) → length s.stack ≡ max_open → is HeredocOpen e.kind ≡ true → IsStopped s (record { kind = TooDeep; at = e.start })
deep_heredoc s e is full opens = deep s e is Heredoc full (ap (λ (k : Kind). open_after k (openers_of s.stack)) (heredoc_kind e.kind opens))

-- whether the stack is full
pub is_full : (n : ℕ) → (n == max_open) ≡ true → n ≡ max_open
is_full n h = grind (arith, nat_tests)

pub has_room : (n : ℕ) → n ≤ max_open → (n == max_open) ≡ false → n < max_open
has_room n le h = grind (arith, nat_tests)
