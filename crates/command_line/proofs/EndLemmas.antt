-- The ends of runs, by equations.
use Rattle.std.proofs.Common.{◌≡◌, subst}
use Rattle.command_line.specs.Rows.{Program, Row, End, Shows}

pub shows_as : (p q : Program) (row : Row) (end : End) → p ≡ q → Shows p row end → Shows q row end
shows_as p q row end e s = subst (λ (r : Program). Shows r row end) e s
