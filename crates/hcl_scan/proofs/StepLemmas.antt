-- A turn of the scanner, as a step of the reading.
use Rattle.std.proofs.Common.{◌≡◌, ◌≢◌, ℕ, ◌+◌, ◌<◌, ◌≤◌, not, Bool, true, false, List, [], ◌∷◌, length, take, slice_range, if◌then◌else◌, Option, Some, None, inl, refl, sym, ap, subst, ◌∙◌, arith, IsUtf8}
use Rattle.std.specs.Prelude.{IfSome}
use Rattle.std.specs.List.{prefix_len}
use Rattle.std.specs.Str.{IsCharBoundary}
use Rattle.std.proofs.lemmas.Str.{IsCharBoundary-start, IsCharBoundary-end, IsUtf8-between}
use Rattle.std.proofs.lemmas.Bool.Decides.{nat_tests}
use Rattle.std.proofs.lemmas.List.{length-map}
use Rattle.std.proofs.lemmas.List.Sums.{prefix_len-le-length}
use Rattle.std.proofs.lemmas.Bool.{false≢true}
use Rattle.hcl_source.specs.Load.{max_source}
use Rattle.hcl_tokens.specs.Lexemes.{Opener, in_heredoc, open_after, Heredoc, Quote, Sequence, Brace, Bracket, Paren, max_open}
use Rattle.hcl_tokens.specs.Spelling.{is_blank, Context, Template, Expression, context, context_in}
use Rattle.hcl_tokens.specs.Kinds.{is}
use Rattle.hcl_tokens.specs.Scans.{State, Hidden, Leaves, IsLongest, gap_len, ahead, offsets_of, unclosed_opener, must_be_closed, has_gaps_in, HasNone}
use Rattle.hcl_tokens.specs.Faults.{no_token, at_end, no_token_fault, fault_offset, unclosed_offset, end_fault}
use Rattle.hcl_scan.specs.Inner.Found.{Finds}
use Rattle.hcl_scan.specs.Inner.Openings.{opener_of, openers_of, offsets_in, hidden_of, quoted_in, template_top, option_and, innermost_unclosed, opened_by, opened_on, without_closed}
use Rattle.hcl_tokens.specs.Entries.{IsEntry}
use Rattle.hcl_scan.specs.Inner.Scanners.{state_of, IsStack, IsSound, IsStart, IsNext, IsStopped, Moves}
use Rattle.hcl_tokens.specs.declared.token.TokenEntry.{TokenEntry}
use Rattle.hcl_scan.specs.declared.found.FoundToken.{FoundToken}
use Rattle.hcl_scan.specs.declared.stack.Opener as kept
use Rattle.hcl_scan.specs.declared.stack.Opener.TheVariants as by
use Rattle.hcl_scan.specs.declared.stack.Opened.{Opened}
use Rattle.hcl_scan.specs.declared.scanner.Scanner.{Scanner}
use Rattle.hcl_source.specs.declared.fault.FaultKind.{FaultKind}
use Rattle.hcl_source.specs.declared.fault.FaultKind.TheVariants.{InvalidCharacter, UnterminatedComment, UnterminatedTemplate}
use Rattle.hcl_tokens.specs.declared.token.Kind.{Kind}
use Rattle.hcl_tokens.specs.declared.token.Kind.TheVariants.{HeredocOpen, Dot}
use Rattle.hcl_scan.proofs.TextCutLemmas.{run_cut}
use Rattle.hcl_scan.proofs.SliceLemmas.{front_of, back_of, slice_len, part_boundary}
use Rattle.hcl_scan.proofs.StackLemmas.{closed_is, closed_drops, drops_offsets, push_offsets, opens_so, ends_of, hidden_on, closes_is, some_around, unclosed_heredoc}
use Rattle.hcl_scan.proofs.KindPlaceLemmas.{no_close, closable, fits}

-- the text ahead at the start of a token
pub ahead_is : (s : Scanner) (start : ℕ) → IsStart s start → slice_range s.text.now start s.end ≡ ahead (state_of s)
ahead_is s start is = ap (λ n. slice_range s.text.now n s.end) is.gap ∙ back_of s.text.now s.at s.end (gap_len (state_of s)) (omega (arith, is.gap, is.within))

plain_shows : (kind : Kind) (text rest : List ℕ) (hidden : List Hidden) → kind ≢ HeredocOpen → Leaves kind text rest hidden rest hidden
plain_shows HeredocOpen text rest hidden h = absurd (h refl)
plain_shows _ text rest hidden h = (refl, refl)

-- A TOKEN THAT OPENS NO HEREDOC is read
module _ (s : Scanner) (e : TokenEntry) (sound : IsSound s) (this : IsNext s e) where
  pub text_len : e.end ≡ e.start + length (slice_range s.text.now e.start e.end)
  text_len = omega (arith, slice_len s.text.now e.start e.end (omega (arith, this.order)) (omega (arith, this.within, sound.within)))

  pub entry_is : IsEntry s.text.now e
  entry_is = record { order = omega (arith, this.order); start = this.start.boundary; end = this.boundary }

  pub moves : (stack : List Opened) (dot : Bool) → dot ≡ is Dot e.kind → e.kind ≢ HeredocOpen → openers_of stack ≡ open_after e.kind (openers_of s.stack) → offsets_in stack ≡ offsets_of e.start (openers_of s.stack) (openers_of stack) (offsets_in s.stack) → hidden_of s.text.now stack s.end ≡ hidden_of s.text.now s.stack s.end → IsStack s.text.now stack s.end → length stack ≤ max_open → Moves s e (record { text = s.text; at = e.end; end = s.end; after_dot = dot; stack = stack })
  moves stack dot dot_is kind_is opens_are offsets_are hidden_is stack_is room = record {
    same_text = refl;
    entry = entry_is;
    read = inl (record {
      rest = slice_range s.text.now e.end s.end;
      longest = subst (λ l. IsLongest (openers_of s.stack) s.after_dot l e.kind (slice_range s.text.now e.start e.end) (slice_range s.text.now e.end s.end)) (ahead_is s e.start this.start) this.longest;
      start = this.start.gap;
      inside = this.inside;
      at = text_len;
      opens = opens_are;
      offsets = offsets_are;
      room = omega (arith, room, length-map stack (λ (o : Opened). opener_of o.by));
      after_dot = dot_is;
      leaves = subst (λ h. Leaves e.kind (slice_range s.text.now e.start e.end) (slice_range s.text.now e.end s.end) (hidden_of s.text.now s.stack s.end) (slice_range s.text.now e.end s.end) h) (sym hidden_is) (plain_shows e.kind (slice_range s.text.now e.start e.end) (slice_range s.text.now e.end s.end) (hidden_of s.text.now s.stack s.end) kind_is);
    });
    sound = record { small = sound.small; order = this.within; within = sound.within; start = this.boundary; end = sound.end; stack = stack_is; depth = room };
    further = omega (arith, this.start.gap, this.order);
  }

  differ : true ≡ false → ⊥
  differ h = cc

  pub reads_plain : (stack : List Opened) (dot : Bool) → dot ≡ is Dot e.kind → opened_by e.kind ≡ None → is HeredocOpen e.kind ≡ false → stack ≡ without_closed e.kind s.stack → Moves s e (record { text = s.text; at = e.end; end = s.end; after_dot = dot; stack = stack })
  reads_plain stack dot dot_is plain no_heredoc stack_is =
      let kind_is : e.kind ≢ HeredocOpen = λ k. absurd (differ (sym (ap (is HeredocOpen) k) ∙ no_heredoc)) in
      let spelled = this.longest.spelled in
      let closes_none = no_close (openers_of s.stack) s.after_dot (slice_range s.text.now e.start e.end) (slice_range s.text.now e.end s.end) e.kind spelled in
      let d = closed_drops e.kind s.stack closes_none (closable (openers_of s.stack) s.after_dot (slice_range s.text.now e.start e.end) (slice_range s.text.now e.end s.end) e.kind spelled) in
      let opens_are = closed_is e.kind s.stack plain kind_is in
      subst (λ (z : List Opened). Moves s e (record { text = s.text; at = e.end; end = s.end; after_dot = dot; stack = z })) (sym stack_is)
      (moves (without_closed e.kind s.stack) dot dot_is kind_is opens_are (drops_offsets e.start s.stack (without_closed e.kind s.stack) d) (d.hidden s.text.now s.end) (d.stack s.text.now s.end sound.stack) (omega (arith, d.less, sound.depth)))

  opener_no_dot : (kind : Kind) (opener : kept.Opener) → opened_by kind ≡ Some opener → (false ≡ is Dot kind) × (kind ≢ HeredocOpen)
  opener_no_dot Dot opener h = absurd (cc)
  opener_no_dot HeredocOpen opener h = absurd (cc)
  opener_no_dot _ opener h = (refl, λ k. false≢true (ap (is HeredocOpen) k))

  pub reads_opener : (opener : kept.Opener) (stack : List Opened) → opened_by e.kind ≡ Some opener → length s.stack < max_open → stack ≡ opened_on opener e.start s.stack → Moves s e (record { text = s.text; at = e.end; end = s.end; after_dot = false; stack = stack })
  reads_opener opener stack opens_is room stack_is =
      let spelled = this.longest.spelled in
      let so = opens_so e.kind opener (openers_of s.stack) opens_is in
      let no = opener_no_dot e.kind opener opens_is in
      let fitting = fits (openers_of s.stack) s.after_dot (slice_range s.text.now e.start e.end) (slice_range s.text.now e.end s.end) e.kind opener spelled opens_is in
      subst (λ (z : List Opened). Moves s e (record { text = s.text; at = e.end; end = s.end; after_dot = false; stack = z })) (sym stack_is)
      (moves (opened_on opener e.start s.stack) false no.0 no.1 so.0 (push_offsets e.start (opener_of opener) (openers_of s.stack) (offsets_in s.stack)) (hidden_on s.text.now s.end opener (hidden_of s.text.now s.stack) so.1)
      (closes_is s.text.now s.stack s.end opener sound.stack, fitting, this.start.boundary, ends_of s.text.now s.end opener (IsStack s.text.now s.stack) so.1 sound.stack)
      (omega (arith, room)))

-- AT THE FRONT
pub sound_new : (s : Scanner) → length s.text.now ≤ max_source → IsUtf8 s.text.now → s.at ≡ 0 → s.end ≡ length s.text.now → s.stack ≡ [] → IsSound s
sound_new s small utf8 at end stack = record {
  small = small;
  order = omega (arith, at);
  within = omega (arith, end);
  start = subst (IsCharBoundary s.text.now) (sym at) (IsCharBoundary-start s.text.now utf8);
  end = subst (IsCharBoundary s.text.now) (sym end) (IsCharBoundary-end s.text.now);
  stack = subst (λ (z : List Opened). IsStack s.text.now z s.end) (sym stack) end;
  depth = omega (arith, ap length stack);
}

-- AT THE START OF A TOKEN
pub blank_ascii : (b : ℕ) → is_blank b ≡ true → b < 128
blank_ascii b h = grind (arith, nat_tests)

pub quoted_some : (c : Context) (quoted : Bool) → quoted_in c ≡ Some quoted → c ≡ Template quoted
quoted_some Expression quoted h = absurd (cc)
quoted_some (Template q) quoted h = let e : q ≡ quoted = cc in ap Template e

pub start_gap : (s : Scanner) (start : ℕ) → IsSound s → IsUtf8 s.text.now → start ≡ s.at + prefix_len is_blank (slice_range s.text.now s.at s.end) → has_gaps_in (context (openers_of s.stack)) (in_heredoc (openers_of s.stack)) ≡ true → IsStart s start
start_gap s start sound utf8 start_is gaps =
    let seen : List ℕ = slice_range s.text.now s.at s.end in
    let n : ℕ = prefix_len is_blank seen in
    let g : gap_len (state_of s) ≡ n = ap (λ v. if v then n else 0) gaps in
    let len = slice_len s.text.now s.at s.end sound.order sound.within in
    let le : n ≤ length seen = prefix_len-le-length is_blank seen in
    let within : s.at + n ≤ s.end = omega (arith, le, len) in
    let inner : IsCharBoundary seen n = run_cut is_blank blank_ascii seen (IsUtf8-between s.text.now s.at s.end utf8 sound.order sound.start sound.end) in
    let boundary : IsCharBoundary s.text.now (s.at + n) = part_boundary s.text.now s.at s.end n within sound.within sound.end inner in
    record { gap = start_is ∙ ap (λ k. s.at + k) (sym g); within = subst (λ m. m ≤ s.end) (sym start_is) within; boundary = subst (IsCharBoundary s.text.now) (sym start_is) boundary }

pub gaps_plain : (c : Context) (inside : Bool) → quoted_in c ≡ None → inside ≡ false → has_gaps_in c inside ≡ true
gaps_plain (Template q) inside h k = absurd (cc)
gaps_plain Expression inside h k = ap not k

-- THE TOKEN THAT BEGINS THERE
pub next_is : (s : Scanner) (start n : ℕ) (kind : Kind) (inside : Bool) → IsSound s → IsStart s start → Finds (openers_of s.stack) s.after_dot (slice_range s.text.now start s.end) kind n → IsCharBoundary (slice_range s.text.now start s.end) n → inside ≡ in_heredoc (openers_of s.stack) → IsNext s (record { start = start; end = start + n; kind = kind; inside_heredoc = inside })
next_is s start n kind inside sound is found boundary inside_is =
    let text : List ℕ = s.text.now in
    let len = slice_len text start s.end is.within sound.within in
    let within : start + n ≤ s.end = omega (arith, found.within, len) in
    record {
      start = is;
      order = omega (arith, found.some);
      within = within;
      boundary = part_boundary text start s.end n within sound.within sound.end boundary;
      inside = inside_is;
      longest = subst (λ t. IsLongest (openers_of s.stack) s.after_dot (slice_range text start s.end) kind t (slice_range text (start + n) s.end)) (sym (front_of text start s.end n within))
          (subst (λ r. IsLongest (openers_of s.stack) s.after_dot (slice_range text start s.end) kind (take n (slice_range text start s.end)) r) (sym (back_of text start s.end n within)) found.longest);
    }

pub next_fits : (s : Scanner) (start n : ℕ) (kind : Kind) → IsSound s → IsStart s start → Finds (openers_of s.stack) s.after_dot (slice_range s.text.now start s.end) kind n → start + n ≤ max_source
next_fits s start n kind sound is found = omega (arith, found.within, slice_len s.text.now start s.end is.within sound.within, sound.within, sound.small)

-- NO TOKEN BEGINS THERE
module _ (s : Scanner) (start : ℕ) (sound : IsSound s) (is : IsStart s start) where
  some_ahead : start < s.end → 0 < length (ahead (state_of s))
  some_ahead lt = subst (λ l. 0 < length l) (ahead_is s start is) (omega (arith, lt, slice_len s.text.now start s.end is.within sound.within))

  pub no_token_here : (kind : FaultKind) (at : ℕ) → start < s.end → HasNone (openers_of s.stack) s.after_dot (slice_range s.text.now start s.end) → kind ≡ no_token_fault (context (openers_of s.stack)) (slice_range s.text.now start s.end) → at ≡ fault_offset (state_of s) kind → IsCharBoundary s.text.now at → IsStopped s (record { kind = kind; at = at })
  no_token_here kind at lt none kind_is at_is boundary = record {
    lacks = no_token (some_ahead lt) (subst (λ l. HasNone (openers_of s.stack) s.after_dot l) (ahead_is s start is) none) (kind_is ∙ ap (no_token_fault (context (openers_of s.stack))) (ahead_is s start is));
    at = at_is;
    boundary = boundary;
  }

option_none : (c : Context) (o : Opened) → option_and (quoted_in c) o ≡ None → c ≡ Expression
option_none Expression o h = refl
option_none (Template q) o h = absurd (cc)

pub template_none : (stack : List Opened) → template_top stack ≡ None → context (openers_of stack) ≡ Expression
template_none [] h = refl
template_none (o ∷ stack) h = option_none (context_in (opener_of o.by)) o h

pub expression_offset : (s : State) (v : Bool) → s.at + gap_len s ≡ fault_offset s (if v then UnterminatedComment else InvalidCharacter)
expression_offset s true = refl
expression_offset s false = refl

-- if a template is on top, its opener is the one that must be closed
unclosed_if : (opener : Opener) (at : ℕ) (opens : List Opener) (offsets : List ℕ) (quoted : Bool) → context_in opener ≡ Template quoted → at ≡ unclosed_offset (opener ∷ opens) (at ∷ offsets)
unclosed_if Quote at opens offsets quoted h = refl
unclosed_if Heredoc at opens offsets quoted h = refl
unclosed_if Sequence at opens offsets quoted h = absurd (cc)
unclosed_if Brace at opens offsets quoted h = absurd (cc)
unclosed_if Bracket at opens offsets quoted h = absurd (cc)
unclosed_if Paren at opens offsets quoted h = absurd (cc)

option_some : (c : Context) (o top : Opened) → option_and (quoted_in c) o ≡ Some top → (o ≡ top) × ((quoted : Bool) × (c ≡ Template quoted))
option_some Expression o top h = absurd (cc)
option_some (Template q) o top h = let e : o ≡ top = cc in (e, (q, refl))

pub record TemplateTop (text : List ℕ) (stack : List Opened) (top : Opened) : Type 0 where
  pub quoted : Bool
  pub here : context (openers_of stack) ≡ Template quoted
  pub at : top.at ≡ unclosed_offset (openers_of stack) (offsets_in stack)
  pub boundary : IsCharBoundary text top.at

-- AFTER THE END
unclosed_none_by : (o : Opened) (stack : List Opened) (v : Bool) → (innermost_unclosed stack ≡ None → unclosed_opener (openers_of stack) ≡ None) → (if v then Some o else innermost_unclosed stack) ≡ None → (if v then Some (opener_of o.by) else unclosed_opener (openers_of stack)) ≡ None
unclosed_none_by o stack true more h = absurd (cc)
unclosed_none_by o stack false more h = more h

pub unclosed_none : (stack : List Opened) → innermost_unclosed stack ≡ None → unclosed_opener (openers_of stack) ≡ None
unclosed_none [] h = refl
unclosed_none (o ∷ stack) h = unclosed_none_by o stack (must_be_closed (opener_of o.by)) (unclosed_none stack) h

pub record OwedTop (text : List ℕ) (stack : List Opened) (top : Opened) : Type 0 where
  pub opener : unclosed_opener (openers_of stack) ≡ Some (opener_of top.by)
  pub at : top.at ≡ unclosed_offset (openers_of stack) (offsets_in stack)
  pub boundary : IsCharBoundary text top.at
  pub must_close_so : must_be_closed (opener_of top.by) ≡ true

pub unclosed_some : (text : List ℕ) (stack : List Opened) (end : ℕ) (top : Opened) → IsStack text stack end → innermost_unclosed stack ≡ Some top → OwedTop text stack top
unclosed_some text [] end top sound h = absurd (cc)
unclosed_some text (o ∷ stack) end top sound h =
    let around = some_around text end o.by stack sound.3 in
    by (must_be_closed (opener_of o.by)) refl (λ more. unclosed_some text stack around.0 top around.1 more) h
  where
    by : (v : Bool) → must_be_closed (opener_of o.by) ≡ v → (innermost_unclosed stack ≡ Some top → OwedTop text stack top) → (if v then Some o else innermost_unclosed stack) ≡ Some top → OwedTop text (o ∷ stack) top
    by true e more h =
        let same : o ≡ top = cc in
        let at : top.at ≡ o.at = ap (λ (z : Opened). z.at) (sym same) in
        record {
          opener = ap (λ v. if v then Some (opener_of o.by) else unclosed_opener (openers_of stack)) e ∙ ap (λ (z : Opened). Some (opener_of z.by)) same;
          at = at ∙ sym (ap (λ v. if v then o.at else unclosed_offset (openers_of stack) (offsets_in stack)) e);
          boundary = subst (IsCharBoundary text) (sym at) sound.2;
          must_close_so = ap (λ (z : Opened). must_be_closed (opener_of z.by)) (sym same) ∙ e;
        }
    by false e more h =
        let m = more h in
        record {
          opener = ap (λ v. if v then Some (opener_of o.by) else unclosed_opener (openers_of stack)) e ∙ m.opener;
          at = m.at ∙ sym (ap (λ v. if v then o.at else unclosed_offset (openers_of stack) (offsets_in stack)) e);
          boundary = m.boundary;
          must_close_so = m.must_close_so;
        }

pub unclosed_stops : (s : Scanner) (kind : FaultKind) (at : ℕ) → ahead (state_of s) ≡ [] → end_fault (unclosed_opener (openers_of s.stack)) ≡ Some kind → at ≡ fault_offset (state_of s) kind → IsCharBoundary s.text.now at → IsStopped s (record { kind = kind; at = at })
unclosed_stops s kind at read kind_is at_is boundary = record { lacks = at_end read kind_is; at = at_is; boundary = boundary }

pub template_found : (found : Option FoundToken) (opens : List Opener) (dot quoted : Bool) (seen part : List ℕ) → context opens ≡ Template quoted → seen ≡ part → IfSome found (λ f. (opens : List Opener) (dot : Bool) → context opens ≡ Template quoted → Finds opens dot seen f.kind f.len) → IfSome found (λ f. Finds opens dot part f.kind f.len)
template_found None opens dot quoted seen part here same h = tt
template_found (Some f) opens dot quoted seen part here same h = subst (λ l. Finds opens dot l f.kind f.len) same (h opens dot here)

-- the construct that must be closed is a template's sequence, if it isn't a quote
unclosed_template_by : (opener : kept.Opener) → must_be_closed (opener_of opener) ≡ true → (opener_of opener ≡ Heredoc → ⊥) → (opener ≡ by.Quote → ⊥) → end_fault (Some (opener_of opener)) ≡ Some UnterminatedTemplate
unclosed_template_by by.Quote o no_heredoc no_quote = absurd (no_quote refl)
unclosed_template_by (by.Heredoc c u) o no_heredoc no_quote = absurd (no_heredoc refl)
unclosed_template_by by.Sequence o no_heredoc no_quote = refl
unclosed_template_by by.Brace o no_heredoc no_quote = absurd (cc)
unclosed_template_by by.Bracket o no_heredoc no_quote = absurd (cc)
unclosed_template_by by.Paren o no_heredoc no_quote = absurd (cc)

pub unclosed_template : (text : List ℕ) (stack : List Opened) (end : ℕ) (top : Opened) → IsStack text stack end → (context (openers_of stack) ≡ Template false → ⊥) → (top.by ≡ by.Quote → ⊥) → OwedTop text stack top → end_fault (unclosed_opener (openers_of stack)) ≡ Some UnterminatedTemplate
unclosed_template text stack end top sound no_heredoc no_quote is =
    ap end_fault is.opener ∙ unclosed_template_by top.by is.must_close_so (λ e. no_heredoc (unclosed_heredoc text stack end sound (is.opener ∙ ap (λ o. Some o) e))) no_quote
