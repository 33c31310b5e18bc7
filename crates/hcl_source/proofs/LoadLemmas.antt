-- Bytes have one load fault at most, and a source has none.
use Rattle.std.proofs.Common.{◌≡◌, ℕ, ◌<◌, ◌≤◌, List, ◌++◌, length, ⊎_elim, refl, sym, ap, subst, ◌∙◌, arith, true, IsTrue, IsUtf8, length-append}
use Rattle.std.proofs.Math.Seq.{take-length}
use Rattle.std.proofs.lemmas.Bool.{cases_order}
use Rattle.std.specs.Str.{IsValidUpTo}
use Rattle.hcl_source.specs.Places.{place}
use Rattle.hcl_source.specs.Load.{max_source, has_byte_order_mark, IsText, IsLoadFaultAt, IsLoadFault}
use Rattle.hcl_source.specs.declared.fault.Fault.{Fault}
use Rattle.hcl_source.specs.declared.fault.FaultKind.{FaultKind}
use Rattle.hcl_source.specs.declared.fault.FaultKind.TheVariants.{TooLarge, InvalidUtf8, ByteOrderMark}

-- the three reasons to be no source
data Refused (bytes : List ℕ) (kind : FaultKind) (at : ℕ) : Type 0 where
  large : kind ≡ TooLarge → max_source < length bytes → at ≡ 0 → Refused bytes kind at
  invalid : kind ≡ InvalidUtf8 → length bytes ≤ max_source → IsValidUpTo bytes at → Refused bytes kind at
  marked : kind ≡ ByteOrderMark → length bytes ≤ max_source → IsUtf8 bytes → IsTrue (has_byte_order_mark bytes) → at ≡ 0 → Refused bytes kind at

refused : (bytes : List ℕ) (kind : FaultKind) (at : ℕ) → IsLoadFaultAt bytes kind at → Refused bytes kind at
refused bytes TooLarge at h = large refl h.0 h.1
refused bytes InvalidUtf8 at h = invalid refl h.0 h.1
refused bytes ByteOrderMark at h = marked refl h.0 h.1 h.2 h.3
refused bytes _ at h = absurd h

-- bytes with an end of their valid front aren't UTF-8
no_utf8 : (bytes : List ℕ) (at : ℕ) → IsValidUpTo bytes at → IsUtf8 bytes → ⊥
no_utf8 bytes at v u = v.longest (length bytes) v.short (subst IsUtf8 (sym (take-length bytes)) u)

one_end : (bytes : List ℕ) (at other : ℕ) → IsValidUpTo bytes at → IsValidUpTo bytes other → at ≡ other
one_end bytes at other v w =
    ⊎_elim (λ e. e) (λ less. absurd (⊎_elim (λ lt. v.longest other lt w.front) (λ gt. w.longest at gt v.front) less)) (cases_order at other)

one_refused : (bytes : List ℕ) (kind other : FaultKind) (at place : ℕ) → Refused bytes kind at → Refused bytes other place → (kind ≡ other) × (at ≡ place)
one_refused bytes kind other at place (large k l a) (large k' l' a') = (k ∙ sym k', a ∙ sym a')
one_refused bytes kind other at place (large k l a) (invalid k' s v) = absurd (omega arith)
one_refused bytes kind other at place (large k l a) (marked k' s u m a') = absurd (omega arith)
one_refused bytes kind other at place (invalid k s v) (large k' l a) = absurd (omega arith)
one_refused bytes kind other at place (invalid k s v) (invalid k' s' v') = (k ∙ sym k', one_end bytes at place v v')
one_refused bytes kind other at place (invalid k s v) (marked k' s' u m a) = absurd (no_utf8 bytes at v u)
one_refused bytes kind other at place (marked k s u m a) (large k' l a') = absurd (omega arith)
one_refused bytes kind other at place (marked k s u m a) (invalid k' s' v) = absurd (no_utf8 bytes place v u)
one_refused bytes kind other at place (marked k s u m a) (marked k' s' u' m' a') = (k ∙ sym k', a ∙ sym a')

pub one_load_fault : (bytes : List ℕ) (fault other : Fault) → IsLoadFault bytes fault → IsLoadFault bytes other → fault ≡ other
one_load_fault bytes fault other x y =
    let same = one_refused bytes fault.kind other.kind x.0 y.0 (refused bytes fault.kind x.0 x.1) (refused bytes other.kind y.0 y.1) in
    let at : fault.at ≡ other.at = x.2 ∙ ap (place bytes) same.1 ∙ sym y.2 in
    λ i. record { kind = same.0 i; at = at i }

pub text_or_fault : (bytes : List ℕ) (fault : Fault) → IsText bytes → IsLoadFault bytes fault → ⊥
text_or_fault bytes fault text x = by (refused bytes fault.kind x.0 x.1)
  where
    by : Refused bytes fault.kind x.0 → ⊥
    by (large k l a) = omega (arith, text.small)
    by (invalid k s v) = no_utf8 bytes x.0 v text.utf8
    by (marked k s u m a) = let f = text.unmarked in let t : has_byte_order_mark bytes ≡ true = m in absurd (cc)

-- if too many bytes were taken, the whole input has their fault
pub too_large_too : (bytes rest : List ℕ) (fault : Fault) → max_source < length bytes → IsLoadFault bytes fault → IsLoadFault (bytes ++ rest) fault
too_large_too bytes rest fault more x = by (refused bytes fault.kind x.0 x.1)
  where
    by : Refused bytes fault.kind x.0 → IsLoadFault (bytes ++ rest) fault
    by (large k l a) =
        let there : IsLoadFaultAt (bytes ++ rest) fault.kind 0 = subst (λ (z : FaultKind). IsLoadFaultAt (bytes ++ rest) z 0) (sym k) (omega (arith, l, length-append bytes rest), refl) in
        let start : place bytes 0 ≡ place (bytes ++ rest) 0 = refl in
        (0, there, x.2 ∙ ap (place bytes) a ∙ start)
    by (invalid k s v) = absurd (omega arith)
    by (marked k s u m a) = absurd (omega arith)
