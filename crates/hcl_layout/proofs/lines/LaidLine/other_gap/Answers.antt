use Rattle.std.proofs.Common.{◌∙◌, arith}
use Rattle.hcl_tokens.specs.Scanned.{lexeme}
use Rattle.hcl_layout.proofs.LaidLemmas.{gap_plain, plain_before_small}
use Rattle.hcl_layout.proofs.lines.LaidLine.other_gap.Goals as goal

pub returns-clause-value : goal.returns-clause-value
returns-clause-value c =
    let l = c.args.self in
    c.gap_after.ensures l.level ∙ gap_plain c.args.tokens.now.tokens l c.args.number (lexeme c.args.token) c.requires.laid (omega (arith, c.requires.after)) c.requires.comment c.requires.assign

pub returns-clause-small : goal.returns-clause-small
returns-clause-small c = omega (arith, c.gap_after.ensures c.args.self.level, plain_before_small c.args.tokens.now.tokens c.args.self.level c.args.self.first c.args.number (lexeme c.args.token) c.requires.laid.level)
