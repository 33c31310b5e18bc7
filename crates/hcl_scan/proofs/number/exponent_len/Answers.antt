use Rattle.std.proofs.Common.{◌≡◌, ◌∙◌, sym, ap, true, get_or, ◌==◌, ◌||◌}
use Rattle.hcl_scan.proofs.NumeralLemmas.{exponent_at}
use Rattle.hcl_scan.proofs.number.exponent_len.Goals as goal

pub returns-in-Some : goal.returns-in-Some
returns-in-Some c =
    let marked : ((get_or c.args.seen.now 0 0 == 101) || (get_or c.args.seen.now 0 0 == 69)) ≡ true =
    ap (λ b. (b == 101) || (b == 69)) (sym c.byte_at.ensures) ∙ sym c.marks_exponent.ensures ∙ c.if-not-marks_exponent.false in
    exponent_at c.args.seen.now c.split_at.result.1.now c.split_at-2.result.1.now c.sign_len-sign.result c.in-Some.digits marked c.split_at.ensures.back c.split_at-2.ensures.back c.sign_len-sign.ensures c.in-Some.ensures.found
