use Rattle.std.proofs.Common.{Err, Ok, inr, subst}
use Rattle.hcl_tokens.specs.Scanned.{IsScanError}
use Rattle.module_check.proofs.FaultLemmas.{scan_verdict, token_verdict}
use Rattle.module_check.proofs.fault.source_fault.Goals as goal

pub returns-in-Err-Fault : goal.returns-in-Err-Fault
returns-in-Err-Fault c =
    let text = c.args.source.now in
    let fault = c.in-Err-Fault.fault in
    let found = subst (IsScanError text) c.in-Err-Fault.field-0-is c.in-Err-Fault.ensures.err in
    inr (fault, c.requires, scan_verdict text fault found.0 found.1 found.2, c.mark_fault.ensures)

pub returns-in-Ok-accepts : goal.returns-in-Ok-accepts
returns-in-Ok-accepts c =
    let text = c.args.source.now in
    (c.requires, (c.in-Ok-accepts.field-0, token_verdict text c.in-Ok.tokens (Ok c.in-Ok-accepts.field-0) c.in-Ok.ensures.source c.in-Ok.ensures.tokens c.in-Ok-accepts.ensures))

pub returns : goal.returns
returns c =
    let text = c.args.source.now in
    inr (c.in-Err.fault, c.requires, token_verdict text c.in-Ok.tokens (Err c.in-Err.fault) c.in-Ok.ensures.source c.in-Ok.ensures.tokens c.in-Err.ensures, c.mark_fault-in-Err.ensures)
