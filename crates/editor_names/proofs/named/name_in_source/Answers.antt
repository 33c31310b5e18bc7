use Rattle.std.proofs.Common.{inr, refl, subst}
use Rattle.hcl_tokens.specs.Scanned.{IsScanError}
use Rattle.text_outline.proofs.FileLemmas.{scan_refused, tokens_refused}
use Rattle.editor_names.proofs.named.name_in_source.Goals as goal

pub returns-in-Err-Fault : goal.returns-in-Err-Fault
returns-in-Err-Fault c =
    let text = c.args.source.now in
    let found = subst (IsScanError text) c.in-Err-Fault.field-0-is c.in-Err-Fault.ensures.err in
    inr (scan_refused text c.in-Err-Fault.field-0-0 found.0 c.requires found.1 found.2, refl)

pub returns : goal.returns
returns c =
    inr (tokens_refused c.args.source.now c.in-Ok.tokens c.in-Err.field-0 c.requires c.in-Ok.ensures.source c.in-Ok.ensures.tokens c.in-Err.ensures, refl)
