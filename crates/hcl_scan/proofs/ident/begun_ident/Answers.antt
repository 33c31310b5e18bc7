use Rattle.std.proofs.Common.{◌<◌, get_or, refl, arith}
use Rattle.hcl_scan.proofs.IdentLemmas.{begun, continued_ascii, ascii_stops, ident_found}
use Rattle.hcl_scan.proofs.ident.begun_ident.Goals as goal

pub returns-then-byte_at-lt128-clause-found : goal.returns-then-byte_at-lt128-clause-found
returns-then-byte_at-lt128-clause-found c =
    let low : get_or c.as_bytes-bytes.result.now c.continuing_ascii-len.result 0 < 128 = omega (arith, c.byte_at.ensures, c.if-byte_at-lt128.true) in (
      refl,
      ident_found c.args.text.now c.continuing_ascii-len.result c.utf8.text
          (begun c.args.text.now c.as_bytes-bytes.result.now c.continuing_ascii-len.result c.as_bytes-bytes.ensures.value c.continuing_ascii-len.ensures low c.requires)
          (continued_ascii c.args.text.now c.as_bytes-bytes.result.now c.continuing_ascii-len.result c.utf8.text c.as_bytes-bytes.ensures.value c.continuing_ascii-len.ensures)
          (ascii_stops c.args.text.now c.as_bytes-bytes.result.now c.continuing_ascii-len.result c.as_bytes-bytes.ensures.value c.continuing_ascii-len.ensures low),
    )

pub returns-then-byte_at-lt128-clause-boundary : goal.returns-then-byte_at-lt128-clause-boundary
returns-then-byte_at-lt128-clause-boundary c = (continued_ascii c.args.text.now c.as_bytes-bytes.result.now c.continuing_ascii-len.result c.utf8.text c.as_bytes-bytes.ensures.value c.continuing_ascii-len.ensures).boundary
