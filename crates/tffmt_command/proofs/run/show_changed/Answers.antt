use Rattle.std.proofs.Common.{◌≡◌, ◌≤◌, ◌<◌, true, arith, length}
use Rattle.hcl_layout.specs.Print.{print}
use Rattle.hcl_source.specs.Load.{max_source}
use Rattle.tffmt_command.proofs.AnswerLemmas.{row_too_large}
use Rattle.tffmt_command.proofs.run.show_changed.Goals as goal

pub returns-then-not-fits : goal.returns-then-not-fits
returns-then-not-fits g c =
    let w = c.refuse.ensures in
    let unfit : length (print c.args.accepted.now.tokens) ≤ max_source → ⊥ = λ le. (let told : c.fits.result ≡ true = c.fits.ensures.1 le in let not_told = c.if-not-fits.true in cc) in
    let more : max_source < length (print c.args.accepted.now.tokens) = omega (arith, unfit) in
    (w.0, row_too_large c.args.options.now c.args.accepted.now w.0 more w.1, w.2)
