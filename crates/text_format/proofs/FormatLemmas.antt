-- The print of an accepted text.
use Rattle.std.proofs.Common.{◌≡◌, ◌≤◌, ◌<◌, ℕ, List, Bool, true, false, Ok, Err, ap, arith, inr, length, refl, subst, sym}
use Rattle.std.specs.Prelude.{◌↔◌, IsTrue, Option, Some, None, Result}
use Rattle.std.specs.Str.{IsUtf8}
use Rattle.hcl_source.specs.Load.{IsText, max_source, print_too_large}
use Rattle.hcl_source.specs.declared.fault.Fault.{Fault}
use Rattle.hcl_tokens.specs.Scanned.{Scanned}
use Rattle.hcl_tokens.specs.Scans.{Scans}
use Rattle.hcl_grammar.specs.Classes.{lookaheads}
use Rattle.hcl_grammar.specs.Predictor.{refusal_of}
use Rattle.hcl_grammar.specs.Verdict.{verdict, verdict_by}
use Rattle.hcl_grammar.specs.declared.refusal.Refusal.{Refusal}
use Rattle.hcl_layout.specs.Print.{print}
use Rattle.text_format.proofs.PrintLoadLemmas.{loads_again}
use Rattle.text_format.specs.Format.{IsFault}

abbrev ok_or : Scanned → Result Scanned Fault → Scanned
ok_or s (Ok t) = t
ok_or s (Err fault) = s

abbrev IsAccepted : Result Scanned Fault → Type 0
IsAccepted (Ok t) = Unit {0}
IsAccepted (Err fault) = ⊥

accepted_is : (s accepted : Scanned) → Ok accepted ≡ verdict s → accepted ≡ s
accepted_is s accepted v = by (refusal_of (lookaheads s.tokens)) v
  where
    by : (r : Option Refusal) → Ok accepted ≡ verdict_by s r → accepted ≡ s
    by None h = ap (ok_or accepted) h
    by (Some r) h = absurd (subst IsAccepted h tt)

pub print_utf8 : (text : List ℕ) (s accepted : Scanned) → s.text ≡ text → IsText text → Scans text s.tokens → Ok accepted ≡ verdict s → length (print accepted.tokens) ≤ max_source → IsUtf8 (print accepted.tokens)
print_utf8 text s accepted same is scans v small =
    let e = ap (λ (t : Scanned). print t.tokens) (accepted_is s accepted v) in
    subst IsUtf8 (sym e) (loads_again text s.tokens is scans (subst (λ l. length l ≤ max_source) e small)).utf8

pub large_fault : (text : List ℕ) (s accepted : Scanned) → s.text ≡ text → IsText text → Scans text s.tokens → Ok accepted ≡ verdict s → max_source < length (print accepted.tokens)
    → (fault : Fault) × IsFault text fault
large_fault text s accepted same is scans v large =
    subst (λ t. (fault : Fault) × IsFault t fault) same
    (print_too_large, inr (subst IsText (sym same) is, inr (accepted, inr (s.tokens, subst (λ t. Scans t s.tokens) (sym same) scans, v), large, refl)))

pub too_long : (fits : Bool) (length most : ℕ) → (IsTrue fits ↔ (length ≤ most)) → fits ≡ false → most < length
too_long fits length most h e = grind arith

pub short_enough : (fits : Bool) (length most : ℕ) → (IsTrue fits ↔ (length ≤ most)) → fits ≡ true → length ≤ most
short_enough fits length most h e = grind arith
