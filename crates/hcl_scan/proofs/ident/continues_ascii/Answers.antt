use Rattle.std.proofs.Common.{◌==◌, not, refl, arith}
use Rattle.hcl_scan.specs.Inner.Found.{continues_ascii}
use Rattle.hcl_scan.specs.declared.ident.TheConstants.{CONTINUING}
use Rattle.hcl_scan.proofs.TableLemmas.{in_table}
use Rattle.hcl_scan.proofs.ident.continues_ascii.Goals as goal

pub returns : goal.returns
returns c = in_table (λ t. not (t == 46)) continues_ascii CONTINUING c.args.b refl refl (omega (arith, c.ranges.b.fits))
