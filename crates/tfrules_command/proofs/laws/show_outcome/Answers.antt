use Rattle.std.proofs.Common.{◌≡◌, ◌⊎◌, inl, inr, refl, subst, ℕ, List}
use Rattle.std.specs.Prelude.{Result, Err}
use Rattle.hcl_tokens.specs.Faults.{IsScanFault}
use Rattle.hcl_tokens.specs.Lexemes.{Lexeme}
use Rattle.hcl_tokens.specs.Scanned.{Scanned}
use Rattle.hcl_tokens.specs.Scans.{Scans}
use Rattle.hcl_source.specs.Load.{IsText}
use Rattle.hcl_source.specs.Places.{place}
use Rattle.hcl_source.specs.declared.fault.Fault.{Fault}
use Rattle.hcl_source.specs.declared.fault.FaultKind.{FaultKind}
use Rattle.hcl_grammar.specs.Verdict.{IsTextVerdict, verdict}
use Rattle.tfrules_command.specs.Inner.Outcomes.{HasOutcome}
use Rattle.tfrules_command.proofs.laws.show_outcome.Goals as goal

outcome : (text : List ℕ) → ((ts : List Lexeme) × Scans text ts) ⊎ ((kind : FaultKind) × (at : ℕ) × IsScanFault text kind at) → (outcome : Result Scanned Fault) × IsTextVerdict text outcome
outcome text (inl s) = (verdict (record { text = text; tokens = s.0 }), inr (s.0, s.1, refl))
outcome text (inr f) = (Err (record { kind = f.0; at = place text f.1 }), inl (f.0, f.1, f.2, refl))

text_has : (text bytes : List ℕ) → text ≡ bytes → IsText bytes → ((ts : List Lexeme) × Scans text ts) ⊎ ((kind : FaultKind) × (at : ℕ) × IsScanFault text kind at) → HasOutcome bytes
text_has text bytes same is found = inr (is, subst (λ b. (outcome : Result Scanned Fault) × IsTextVerdict b outcome) same (outcome text found))

pub returns-in-Some : goal.returns-in-Some
returns-in-Some c = text_has c.in-Some.text.now c.args.bytes.now c.in-Some.ensures.text.0 c.in-Some.ensures.text.1 c.list_or_fault.ensures

pub returns-in-None : goal.returns-in-None
returns-in-None c = inl c.in-None.ensures.fault
