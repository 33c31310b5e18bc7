-- Texts that are refused, by their scan or by their tokens.
use Rattle.std.proofs.Common.{◌≡◌, ℕ, List, Err, Ok, inl, inr, subst}
use Rattle.hcl_grammar.specs.Verdict.{verdict}
use Rattle.hcl_source.specs.Load.{IsText}
use Rattle.hcl_source.specs.Places.{place}
use Rattle.hcl_source.specs.declared.fault.Fault.{Fault}
use Rattle.hcl_tokens.specs.Faults.{IsScanFault}
use Rattle.hcl_tokens.specs.Scanned.{Scanned}
use Rattle.hcl_tokens.specs.Scans.{Scans}
use Rattle.text_outline.specs.Files.{IsFile, IsRefused}

pub scan_refused : (text : List ℕ) (fault : Fault) (at : ℕ) → IsText text → IsScanFault text fault.kind at → fault.at ≡ place text at → IsRefused text
scan_refused text fault at is found e = (fault, inr (is, inl (fault.kind, at, found, (λ i. Err (record { kind = fault.kind; at = e i })))))

pub tokens_refused : (text : List ℕ) (s : Scanned) (fault : Fault) → IsText text → s.text ≡ text → Scans text s.tokens → Err fault ≡ verdict s → IsRefused text
tokens_refused text s fault is same scans e = (fault, inr (is, inr (s.tokens, scans, subst (λ t. Err fault ≡ verdict (record { text = t; tokens = s.tokens })) same e)))

pub tokens_accepted : (text : List ℕ) (s t : Scanned) → IsText text → s.text ≡ text → Scans text s.tokens → Ok t ≡ verdict s → IsFile text t
tokens_accepted text s t is same scans e = (is, inr (s.tokens, scans, subst (λ u. Ok t ≡ verdict (record { text = u; tokens = s.tokens })) same e))
