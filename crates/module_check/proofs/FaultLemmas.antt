-- The fault of a source by its tokens.
use Rattle.std.proofs.Common.{◌≡◌, ℕ, List, Err, inl, inr, subst}
use Rattle.std.specs.Prelude.{Result}
use Rattle.hcl_source.specs.declared.fault.Fault.{Fault}
use Rattle.hcl_source.specs.Places.{place}
use Rattle.hcl_tokens.specs.Faults.{IsScanFault}
use Rattle.hcl_tokens.specs.Scanned.{Scanned}
use Rattle.hcl_tokens.specs.Scans.{Scans}
use Rattle.hcl_grammar.specs.Verdict.{IsTextVerdict, verdict}

pub scan_verdict : (text : List ℕ) (fault : Fault) (at : ℕ) → IsScanFault text fault.kind at → fault.at ≡ place text at → IsTextVerdict text (Err fault)
scan_verdict text fault at is e = inl (fault.kind, at, is, (λ i. Err (record { kind = fault.kind; at = e i })))

pub token_verdict : (text : List ℕ) (s : Scanned) (result : Result Scanned Fault) → s.text ≡ text → Scans text s.tokens → result ≡ verdict s → IsTextVerdict text result
token_verdict text s result same scans e = inr (s.tokens, scans, subst (λ t. result ≡ verdict (record { text = t; tokens = s.tokens })) same e)
