-- Bytes that go out in turn, through a buffer.
use Rattle.std.proofs.Common.{◌≡◌, ◌∙◌, ◌++◌, ◌+◌, ◌-◌, ◌<◌, ◌≤◌, ℕ, suc, zero, List, [], ◌∷◌, Option, Some, None, ap, arith, sym, subst, refl, length, drop, take, append_assoc, replicate, length-append}
use Rattle.std.proofs.Math.Seq.{take-add, take-append_seam}
use Rattle.std.proofs.lemmas.List.{append-nil, length-take-le, take-append-le}
use Rattle.std.specs.Prelude.{IfErr, OnOk, Result, Ok, Err}
use Rattle.std.specs.Io.KnownBytes.{Appends}
use Rattle.hcl_source.specs.declared.device.WriteFault.{WriteFault}
use Rattle.hcl_layout.specs.Inner.Out.{Out, CutShort, buffered_bytes, stretch_text}
use Rattle.hcl_layout.specs.declared.buffer.Buffer.{Buffer}
use Rattle.hcl_layout.specs.declared.buffer.Stretch.{Stretch}
use Rattle.hcl_layout.proofs.FormatLemmas.{after}

pub Appends-then : (a b c : Option (List ℕ)) (xs ys : List ℕ) → Appends a b xs → Appends b c ys → Appends a c (xs ++ ys)
Appends-then None b c xs ys p q = tt
Appends-then (Some a) None c xs ys p q = absurd p
Appends-then (Some a) (Some b) None xs ys p q = absurd q
Appends-then (Some a) (Some b) (Some c) xs ys p q = q ∙ ap (λ l. l ++ ys) p ∙ append_assoc a xs ys

pub Appends-no_extent : (a : Option (List ℕ)) → Appends a a []
Appends-no_extent None = tt
Appends-no_extent (Some a) = sym (append-nil a)

held_none : (b : Buffer) → b.len ≡ 0 → buffered_bytes b ≡ []
held_none b e = ap (λ n. take n b.bytes) e

-- the buffer was written
pub out_sent : (base now new : Option (List ℕ)) (b b' : Buffer) (front : List ℕ) → b'.len ≡ 0 → b'.sent ≡ b.sent + b.len → length (buffered_bytes b) ≡ b.len → Appends now new (buffered_bytes b)
    → Out base now b front → Out base new b' front
out_sent base now new b b' front e f long q p = record {
  sent = p.sent ++ buffered_bytes b;
  whole = p.whole ∙ sym (append-nil (p.sent ++ buffered_bytes b)) ∙ ap (λ l. (p.sent ++ buffered_bytes b) ++ l) (sym (held_none b' e));
  count = omega (arith, f, p.count, length-append p.sent (buffered_bytes b), long);
  out = Appends-then base now new p.sent (buffered_bytes b) p.out q;
}

-- more bytes were written past the empty buffer
pub out_past : (base now new : Option (List ℕ)) (b b' : Buffer) (front text : List ℕ) → b.len ≡ 0 → b'.len ≡ 0 → b'.sent ≡ b.sent + length text → Appends now new text → Out base now b front → Out base new b' (front ++ text)
out_past base now new b b' front text e e' f q p =
    let all : front ≡ p.sent = p.whole ∙ ap (λ l. p.sent ++ l) (held_none b e) ∙ append-nil p.sent in
    record {
      sent = p.sent ++ text;
      whole = ap (λ l. l ++ text) all ∙ sym (append-nil (p.sent ++ text)) ∙ ap (λ l. (p.sent ++ text) ++ l) (sym (held_none b' e'));
      count = omega (arith, f, p.count, length-append p.sent text);
      out = Appends-then base now new p.sent text p.out q;
    }

-- a write that failed within a front failed within any continuation of it
pub cut_short_more : (base new : Option (List ℕ)) (front text : List ℕ) (fault : WriteFault) → CutShort base new front fault → CutShort base new (front ++ text) fault
cut_short_more base new front text fault p =
    let same : take fault.written (front ++ text) ≡ take fault.written front = take-append-le fault.written front text (omega (arith, p.0)) in
    (omega (arith, p.0, length-append front text), subst (Appends base new) (sym same) p.1)

pub out_all : (base now : Option (List ℕ)) (b : Buffer) (front : List ℕ) → b.len ≡ 0 → Out base now b front → Appends base now front
out_all base now b front e p = subst (Appends base now) (sym (p.whole ∙ ap (λ l. p.sent ++ l) (held_none b e) ∙ append-nil p.sent)) p.out

pub out_none : (base : Option (List ℕ)) (b : Buffer) → b.len ≡ 0 → b.sent ≡ 0 → Out base base b []
out_none base b e f = record { sent = []; whole = sym (held_none b e); count = f; out = Appends-no_extent base }

pub held_length : (b : Buffer) → b.len ≤ length b.bytes → length (buffered_bytes b) ≡ b.len
held_length b le = length-take-le b.len b.bytes le

pub err_by : (r : Result (Unit {0}) WriteFault) (P Q : WriteFault → Type 0) → ((fault : WriteFault) → P fault → Q fault) → IfErr r P → IfErr r Q
err_by (Ok u) P Q f p = tt
err_by (Err fault) P Q f p = f fault p

pub ok_to : (r : Result (Unit {0}) WriteFault) (P Q : Type 0) → (P → Q) → OnOk r P → OnOk r Q
ok_to (Ok u) P Q f p = f p
ok_to (Err fault) P Q f p = tt

pub ok_by : (r : Result (Unit {0}) WriteFault) (P Q R : Type 0) → (P → R → Q) → OnOk r P → OnOk r R → OnOk r Q
ok_by (Ok u) P Q R f p q = f p q
ok_by (Err fault) P Q R f p q = tt

blanks_cut : (k n : ℕ) → replicate {A = ℕ} k 32 ++ (32 ∷ replicate n 32) ≡ replicate (k + suc n) 32
blanks_cut zero n = let e : suc n ≡ 0 + suc n = omega arith in ap (λ j. replicate {A = ℕ} j 32) e
blanks_cut (suc k) n =
    let e : suc (k + suc n) ≡ suc k + suc n = omega arith in
    ap (λ l. 32 ∷ l) (blanks_cut k n) ∙ ap (λ j. replicate {A = ℕ} j 32) e

pub cut_short_blanks : (base new : Option (List ℕ)) (front : List ℕ) (k gap : ℕ) (fault : WriteFault) → k < gap → CutShort base new ((front ++ replicate k 32) ++ (32 ∷ [])) fault → CutShort base new (front ++ replicate gap 32) fault
cut_short_blanks base new front k gap fault lt p =
    let n : ℕ = gap - suc k in
    let all : k + suc n ≡ gap = omega arith in
    let whole : ((front ++ replicate k 32) ++ (32 ∷ [])) ++ replicate n 32 ≡ front ++ replicate gap 32 =
    append_assoc (front ++ replicate k 32) (32 ∷ []) (replicate n 32) ∙ append_assoc front (replicate k 32) (32 ∷ replicate n 32)
    ∙ ap (λ l. front ++ l) (blanks_cut k n ∙ ap (λ j. replicate {A = ℕ} j 32) all) in
    subst (λ l. CutShort base new l fault) whole (cut_short_more base new ((front ++ replicate k 32) ++ (32 ∷ [])) (replicate n 32) fault p)

-- ---- a stretch of the source waits

-- the waiting stretch continues with the next piece
pub grown : (source : List ℕ) (s : Stretch) (piece : List ℕ) (end : ℕ) → s.start ≤ s.end → end ≡ s.end + length piece → drop s.end source ≡ piece ++ drop end source
    → stretch_text source (record { gap = s.gap; start = s.start; end = end }) ≡ stretch_text source s ++ piece
grown source s piece end le e f =
    let left : List ℕ = drop s.start source in
    let n : ℕ = s.end - s.start in
    let long : end - s.start ≡ n + length piece = omega (arith, e) in
    let all : s.start + n ≡ s.end = omega arith in
    let more : take (length piece) (drop n left) ≡ piece = ap (take (length piece)) (after n s.start left source refl ∙ ap (λ k. drop k source) all ∙ f) ∙ take-append_seam piece (drop end source) in
    ap (λ k. replicate s.gap 32 ++ take k left) long
    ∙ ap (λ l. replicate s.gap 32 ++ l) (take-add n (length piece) left ∙ ap (λ l. take n left ++ l) more)
    ∙ sym (append_assoc (replicate s.gap 32) (take n left) piece)

pub print_grown : (whole front a b piece rest rest' : List ℕ) → whole ≡ front ++ (a ++ rest) → rest ≡ piece ++ rest' → b ≡ a ++ piece → whole ≡ front ++ (b ++ rest')
print_grown whole front a b piece rest rest' e f g =
    e ∙ ap (λ l. front ++ l) (ap (λ l. a ++ l) f ∙ sym (append_assoc a piece rest') ∙ ap (λ l. l ++ rest') (sym g))

-- the waiting stretch was written, and the next piece waits
pub print_put : (whole front a b piece rest rest' : List ℕ) → whole ≡ front ++ (a ++ rest) → rest ≡ piece ++ rest' → b ≡ piece → whole ≡ (front ++ a) ++ (b ++ rest')
print_put whole front a b piece rest rest' e f g = e ∙ sym (append_assoc front a rest) ∙ ap (λ l. (front ++ a) ++ l) (f ∙ ap (λ l. l ++ rest') (sym g))

pub cut_short_print : (base new : Option (List ℕ)) (whole front a rest : List ℕ) (fault : WriteFault) → whole ≡ front ++ (a ++ rest) → CutShort base new (front ++ a) fault → CutShort base new whole fault
cut_short_print base new whole front a rest fault e p = subst (λ l. CutShort base new l fault) (sym (e ∙ sym (append_assoc front a rest))) (cut_short_more base new (front ++ a) rest fault p)

pub print_end : (whole front a rest : List ℕ) → whole ≡ front ++ (a ++ rest) → rest ≡ [] → front ++ a ≡ whole
print_end whole front a rest e f = sym (e ∙ ap (λ l. front ++ l) (ap (λ l. a ++ l) f ∙ append-nil a))
