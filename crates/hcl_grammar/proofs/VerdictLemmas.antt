-- A text has one verdict.
use Rattle.std.proofs.Common.{◌≡◌, ◌∙◌, ap, inl, inr, refl, subst, sym, ℕ, List, Option, Some, None}
use Rattle.std.specs.Prelude.{Result, Ok, Err}
use Rattle.hcl_source.specs.Places.{place}
use Rattle.hcl_source.specs.declared.fault.Fault.{Fault}
use Rattle.hcl_tokens.specs.Lexemes.{Lexeme}
use Rattle.hcl_tokens.specs.Scanned.{Scanned}
use Rattle.hcl_tokens.specs.Scans.{Scans}
use Rattle.hcl_tokens.proofs.NonemptyLemmas.{nonempty}
use Rattle.hcl_tokens.proofs.OneReadingLemmas.{OneKind, no_fault, one_fault, one_scan}
use Rattle.hcl_grammar.specs.Classes.{lookaheads}
use Rattle.hcl_grammar.specs.Predictor.{refusal_of}
use Rattle.hcl_grammar.specs.Verdict.{IsAccepted, IsTextVerdict, fault_at, verdict, verdict_by}
use Rattle.hcl_grammar.specs.declared.refusal.Refusal.{Refusal}

pub one_verdict : OneKind → (text : List ℕ) (v w : Result Scanned Fault) → IsTextVerdict text v → IsTextVerdict text w → v ≡ w
one_verdict one_kind text v w (inl x) (inl y) =
    let same = one_fault one_kind nonempty text x.0 y.0 x.1 y.1 x.2 y.2 in
    x.3 ∙ (λ i. Err (record { kind = same.0 i; at = place text (same.1 i) })) ∙ sym y.3
one_verdict one_kind text v w (inl x) (inr y) = absurd (no_fault one_kind nonempty text y.0 x.0 x.1 y.1 x.2)
one_verdict one_kind text v w (inr x) (inl y) = absurd (no_fault one_kind nonempty text x.0 y.0 y.1 x.1 y.2)
one_verdict one_kind text v w (inr x) (inr y) =
    x.2 ∙ ap (λ (ts : List Lexeme). verdict (record { text = text; tokens = ts })) (one_scan one_kind nonempty text x.0 y.0 x.1 y.1) ∙ sym y.2

pub not_both : (s : Scanned) (f : Fault) → Ok s ≡ Err f → ⊥
not_both s f e = cc

-- ---- the tokens of an accepted text

pub accepted_as : (text : List ℕ) (ts : List Lexeme) → Scans text ts → IsAccepted ts → IsTextVerdict text (Ok (record { text = text; tokens = ts }))
accepted_as text ts scans accepted = inr (ts, scans, sym (ap (verdict_by (record { text = text; tokens = ts })) accepted))

abbrev pub source_or : Scanned → Result Scanned Fault → Scanned
source_or other (Ok s) = s
source_or other (Err f) = other

-- an accepted source is the text with these tokens, which are a scan of it
pub record IsSourceOf (text : List ℕ) (s : Scanned) : Type 0 where
  pub scanned : Scans text s.tokens
  pub accepted : IsAccepted s.tokens

pub source_of : (text : List ℕ) (s : Scanned) → IsTextVerdict text (Ok s) → IsSourceOf text s
source_of text s (inl x) = absurd (not_both s (record { kind = x.0; at = place text x.1 }) x.3)
source_of text s (inr (ts, scans, e)) = by (refusal_of (lookaheads ts)) refl e
  where
    by : (r : Option Refusal) → refusal_of (lookaheads ts) ≡ r → Ok s ≡ verdict_by (record { text = text; tokens = ts }) r → IsSourceOf text s
    by None accepted h =
        let same : s ≡ record { text = text; tokens = ts } = ap (source_or s) h in
        subst (IsSourceOf text) (sym same) (record { scanned = scans; accepted = accepted })
    by (Some r) refused h = absurd (not_both s (fault_at (record { text = text; tokens = ts }) r) h)
