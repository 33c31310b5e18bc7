use Rattle.std.proofs.Common.{subst}
use Rattle.hcl_tokens.specs.Scanned.{IsScanError}
use Rattle.text_outline.proofs.FileLemmas.{scan_refused}
use Rattle.editor_names.proofs.file.source_ranges.Goals as goal

pub returns-in-Err-Fault : goal.returns-in-Err-Fault
returns-in-Err-Fault c =
    let text = c.args.source.now in
    let found = subst (IsScanError text) c.in-Err-Fault.field-0-is c.in-Err-Fault.ensures.err in
    scan_refused text c.in-Err-Fault.field-0-0 found.0 c.requires found.1 found.2
