use Rattle.std.proofs.Common.{arith}
use Rattle.hcl_layout.proofs.LaidLemmas.{bare_narrow, bare_plain, bare_width}
use Rattle.hcl_layout.proofs.lines.LaidLine.assign_cell_width.Goals as goal

pub width-requires-clause-narrow : goal.width-requires-clause-narrow
width-requires-clause-narrow c = omega (arith, bare_narrow c.args.tokens.now.tokens c.args.self c.args.number c.requires.laid c.requires.bare (omega (arith, c.requires.order)) c.requires.within c.len-count.ensures.bounded.blanks)

pub returns-clause-value : goal.returns-clause-value
returns-clause-value c = omega (arith, c.width.ensures, bare_width c.args.tokens.now.tokens c.args.self c.args.number c.requires.laid c.requires.bare (omega (arith, c.requires.order)) c.requires.within)

pub returns-clause-small : goal.returns-clause-small
returns-clause-small c = omega (arith, c.width.ensures, bare_narrow c.args.tokens.now.tokens c.args.self c.args.number c.requires.laid c.requires.bare (omega (arith, c.requires.order)) c.requires.within c.len-count.ensures.bounded.blanks)

pub width-requires-clause-plain : goal.width-requires-clause-plain
width-requires-clause-plain c = bare_plain c.args.self c.args.self.first c.args.number c.requires.bare c.requires.within
