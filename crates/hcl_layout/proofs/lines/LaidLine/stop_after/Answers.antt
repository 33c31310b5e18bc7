use Rattle.std.proofs.Common.{arith, refl}
use Rattle.hcl_layout.proofs.lines.LaidLine.stop_after.Goals as goal

pub returns-then-number-self : goal.returns-then-number-self
returns-then-number-self c = record { order = omega arith; first = λ m. omega (arith, c.requires.order); assign = λ le. omega (arith, le); comment = λ le. omega (arith, le); own = λ lt a b. absurd (a refl) }

pub returns-then-self-number : goal.returns-then-self-number
returns-then-self-number c = record { order = omega arith; first = λ m. omega (arith, c.requires.order); assign = λ le. omega (arith, le); comment = λ le. omega (arith, le); own = λ lt a b. absurd (omega (arith, lt)) }

pub returns : goal.returns
returns c = record { order = omega arith; first = λ m. omega (arith, c.requires.order); assign = λ le. omega (arith, le); comment = λ le. omega (arith, le); own = λ lt a b. absurd (b refl) }
