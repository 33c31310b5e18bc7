use Rattle.std.proofs.Common.{◌∙◌, length, subst, sym}
use Rattle.hcl_layout.specs.Print.{print}
use Rattle.hcl_source.specs.Load.{IsText, max_source}
use Rattle.hcl_source.specs.declared.fault.Fault.{Fault}
use Rattle.text_format.specs.Format.{IsFault}
use Rattle.text_format.proofs.FormatLemmas.{large_fault, print_utf8, short_enough, too_long}
use Rattle.text_format.proofs.format.format_of.Goals as goal

pub returns-then-not-fits : goal.returns-then-not-fits
returns-then-not-fits c =
    let loaded = c.in-Ok.ensures.loaded in
    let large = too_long c.fits.result (length (print c.in-Ok-accepts.accepted.tokens)) max_source c.fits.ensures c.if-not-fits.true in
    subst (λ t. (fault : Fault) × IsFault t fault) (loaded.0 ∙ c.as_bytes.ensures.value)
    (large_fault c.in-Ok.source c.in-Ok-scan.tokens c.in-Ok-accepts.accepted c.in-Ok-scan.ensures.source (subst IsText (sym loaded.0) loaded.1) c.in-Ok-scan.ensures.tokens c.in-Ok-accepts.ensures large)

pub printed_text-requires : goal.printed_text-requires
printed_text-requires c =
    let loaded = c.in-Ok.ensures.loaded in
    let small = short_enough c.fits.result (length (print c.in-Ok-accepts.accepted.tokens)) max_source c.fits.ensures c.if-not-fits.false in
    print_utf8 c.in-Ok.source c.in-Ok-scan.tokens c.in-Ok-accepts.accepted c.in-Ok-scan.ensures.source (subst IsText (sym loaded.0) loaded.1) c.in-Ok-scan.ensures.tokens c.in-Ok-accepts.ensures small
