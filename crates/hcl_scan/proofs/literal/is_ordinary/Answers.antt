use Rattle.std.proofs.Common.{◌==◌, refl, arith}
use Rattle.hcl_scan.specs.Inner.Found.{is_ordinary}
use Rattle.hcl_scan.specs.declared.literal.TheConstants.{SPECIAL}
use Rattle.hcl_scan.proofs.TableLemmas.{in_table}
use Rattle.hcl_scan.proofs.literal.is_ordinary.Goals as goal

pub returns-else-b-gt92 : goal.returns-else-b-gt92
returns-else-b-gt92 c = in_table (λ t. t == 46) is_ordinary SPECIAL c.args.b refl refl (omega (arith, c.ranges.b.fits))
