use Rattle.std.proofs.Common.{◌-◌, ◌<◌, arith, refl}
use Rattle.hcl_layout.proofs.LaidLemmas.{sign_known, signed_low, signed_plain, width_all, width_split}
use Rattle.hcl_layout.proofs.lines.LaidLine.comment_width.Goals as goal

pub width-requires-clause-narrow : goal.width-requires-clause-narrow
width-requires-clause-narrow c =
    let ts = c.args.tokens.now.tokens in
    let l = c.args.self in
    let lt : l.assign.number < l.end = omega (arith, c.if-self-number.true, c.requires.within) in
    omega (arith, sign_known ts l lt c.requires.signed, width_split ts l l.assign.number c.args.number c.requires.laid (omega (arith, c.requires.laid.sign_front)) (omega (arith, c.if-self-number.true)) (omega (arith, c.requires.within)), signed_low ts l (c.args.number - l.first) c.requires.signed c.len-count.ensures.bounded.blanks)

pub returns-then-self-number-clause-value : goal.returns-then-self-number-clause-value
returns-then-self-number-clause-value c =
    let ts = c.args.tokens.now.tokens in
    let l = c.args.self in
    let lt : l.assign.number < l.end = omega (arith, c.if-self-number.true, c.requires.within) in
    omega (arith, c.width.ensures, sign_known ts l lt c.requires.signed, width_split ts l l.assign.number c.args.number c.requires.laid (omega (arith, c.requires.laid.sign_front)) (omega (arith, c.if-self-number.true)) (omega (arith, c.requires.within)))

pub returns-then-self-number-clause-narrow : goal.returns-then-self-number-clause-narrow
returns-then-self-number-clause-narrow c =
    let ts = c.args.tokens.now.tokens in
    let l = c.args.self in
    let lt : l.assign.number < l.end = omega (arith, c.if-self-number.true, c.requires.within) in
    omega (arith, c.width.ensures, sign_known ts l lt c.requires.signed, width_split ts l l.assign.number c.args.number c.requires.laid (omega (arith, c.requires.laid.sign_front)) (omega (arith, c.if-self-number.true)) (omega (arith, c.requires.within)), signed_low ts l (c.args.number - l.first) c.requires.signed c.len-count.ensures.bounded.blanks)

pub width-requires-2-clause-narrow : goal.width-requires-2-clause-narrow
width-requires-2-clause-narrow c =
    let ts = c.args.tokens.now.tokens in
    let l = c.args.self in
    omega (arith, width_all ts l c.args.number c.requires.laid (omega (arith, c.requires.order)) (omega (arith, c.requires.within)), signed_low ts l (c.args.number - l.first) c.requires.signed c.len-count.ensures.bounded.blanks)

pub returns-clause-narrow : goal.returns-clause-narrow
returns-clause-narrow c =
    let ts = c.args.tokens.now.tokens in
    let l = c.args.self in
    omega (arith, c.width-2.ensures, width_all ts l c.args.number c.requires.laid (omega (arith, c.requires.order)) (omega (arith, c.requires.within)), signed_low ts l (c.args.number - l.first) c.requires.signed c.len-count.ensures.bounded.blanks)

pub returns-clause-value : goal.returns-clause-value
returns-clause-value c =
    let ts = c.args.tokens.now.tokens in
    let l = c.args.self in
    omega (arith, c.width-2.ensures, width_all ts l c.args.number c.requires.laid (omega (arith, c.requires.order)) (omega (arith, c.requires.within)))

pub width-requires-clause-plain : goal.width-requires-clause-plain
width-requires-clause-plain c = signed_plain c.args.tokens.now.tokens c.args.self c.args.self.assign.number c.args.number c.requires.signed (omega (arith, c.requires.within)) (λ lt. refl)

pub width-requires-2-clause-plain : goal.width-requires-2-clause-plain
width-requires-2-clause-plain c = signed_plain c.args.tokens.now.tokens c.args.self c.args.self.first c.args.number c.requires.signed (omega (arith, c.requires.within)) (λ lt. absurd (omega (arith, lt)))
