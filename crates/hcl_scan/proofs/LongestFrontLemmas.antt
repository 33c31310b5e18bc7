-- The longest fronts of simple forms: runs of bytes that pass a test, and fixed texts.
use Rattle.std.proofs.Common.{◌≡◌, ℕ, ◌+◌, ◌<◌, ◌≤◌, ◌&&◌, Bool, true, false, cond, IsTrue, List, [], ◌∷◌, ◌++◌, length, take, drop, refl, sym, ap, subst, ◌∙◌, arith, length-append, length-take-le}
use Rattle.std.proofs.Math.Numerals.{one-add}
use Rattle.std.proofs.Math.Seq.{take-append_seam, drop-append_seam}
use Rattle.std.proofs.lemmas.List.Sums.{prefix_len-le-length}
use Rattle.std.specs.Prelude.{nat_eq}
use Rattle.std.specs.List.{list_all, prefix_len, starts_with}
use Rattle.std.proofs.lemmas.Slice.Eq.{starts_is}
use Rattle.std.proofs.lemmas.Bool.Decides.{Decides-eqb}
use Rattle.hcl_scan.specs.Inner.Found.{IsLongestFront, HasNoFront}
use Rattle.hcl_tokens.proofs.BooleanLemmas.{and_true}

-- the meaning of a test for a front
pub begins : (text front : List ℕ) → starts_with nat_eq text front ≡ true → text ≡ front ++ drop (length front) text
begins text front h = (starts_is Decides-eqb text front _ refl).0 h

pub begins_not : (text front rest : List ℕ) → starts_with nat_eq text front ≡ false → front ++ rest ≡ text → ⊥
begins_not text front rest h e = let there : starts_with nat_eq text front ≡ true = (starts_is Decides-eqb text front _ refl).1 rest (sym e) in cc

-- cutting a text at a front
pub front_within : (front rest text : List ℕ) → front ++ rest ≡ text → length front ≤ length text
front_within front rest text e = omega (arith, ap length e, length-append front rest)

pub front_taken : (front rest text : List ℕ) → front ++ rest ≡ text → take (length front) text ≡ front
front_taken front rest text e = sym (ap (take (length front)) e) ∙ take-append_seam front rest

pub front_dropped : (front rest text : List ℕ) → front ++ rest ≡ text → drop (length front) text ≡ rest
front_dropped front rest text e = sym (ap (drop (length front)) e) ∙ drop-append_seam front rest

-- a front, cut where it ends, is the longest of its form
pub longest_is : (form : List ℕ → Type 0) (seen front rest : List ℕ) (n : ℕ) → n ≡ length front → front ++ rest ≡ seen → form front →
    ((longer left : List ℕ) → longer ++ left ≡ seen → form longer → length longer ≤ length front) → IsLongestFront form seen n
longest_is form seen front rest n len e is none = record {
  within = omega (arith, len, front_within front rest seen e);
  formed = subst form (sym (ap (λ k. take k seen) len ∙ front_taken front rest seen e)) is;
  longest = λ longer left whole formed. omega (arith, len, none longer left whole formed);
}

-- runs
pub run_passes : (q : ℕ → Bool) (bs : List ℕ) → list_all q (take (prefix_len q bs) bs) ≡ true
run_passes q [] = refl
run_passes q (b ∷ bs) =
    elim (q b) as (λ v. q b ≡ v → list_all q (take (cond v (1 + prefix_len q bs) 0) (b ∷ bs)) ≡ true) [
      | true ↦ λ h. rw one-add ((λ i. h i && run_passes q bs i))
      | false ↦ λ h. refl
    ] refl

pub run_longest : (q : ℕ → Bool) (cs left : List ℕ) → list_all q cs ≡ true → length cs ≤ prefix_len q (cs ++ left)
run_longest q [] left h = omega arith
run_longest q (c ∷ cs) left h =
    let parts = and_true (q c) (list_all q cs) h in
    let rec = run_longest q cs left parts.1 in
    let e : prefix_len q (c ∷ (cs ++ left)) ≡ 1 + prefix_len q (cs ++ left) = ap (λ v. cond v (1 + prefix_len q (cs ++ left)) 0) parts.0 in
    omega arith

abbrev pub IsRun : (ℕ → Bool) → List ℕ → Type 0
IsRun q text = (0 < length text) × IsTrue (list_all q text)

pub run_found : (q : ℕ → Bool) (seen : List ℕ) (n : ℕ) → n ≡ prefix_len q seen → 0 < n → IsLongestFront (IsRun q) seen n
run_found q seen n e some =
    let within : n ≤ length seen = omega (arith, prefix_len-le-length q seen) in
    record {
      within = within;
      formed = (omega (arith, length-take-le n seen within), ap (λ k. list_all q (take k seen)) e ∙ run_passes q seen);
      longest = λ longer left whole is. let most = run_longest q longer left is.1 in omega (arith, most, ap (prefix_len q) whole);
    }

pub run_none : (q : ℕ → Bool) (seen : List ℕ) → prefix_len q seen ≡ 0 → HasNoFront (IsRun q) seen
run_none q seen e text rest whole is = let most = run_longest q text rest is.1 in let some = is.0 in omega (arith, most, ap (prefix_len q) whole, some)
