use Rattle.std.proofs.Common.{◌≡◌, ◌∙◌, ◌+◌, ◌-◌, ap, sym, arith, drop, length, length-drop, length-take-le, take}
use Rattle.hcl_scan.proofs.TextStartLemmas.{starts_other, starts_taken}
use Rattle.hcl_scan.proofs.heredoc.is_ruled_out.Goals as goal

pub returns : goal.returns
returns c told =
    let marker = c.args.marker.now in
    let rest = drop c.args.place c.args.text.now in
    let size : (c.args.place + length marker) - c.args.place ≡ length marker = omega arith in
    let long : length (take (length marker) rest) ≡ length marker = length-take-le (length marker) rest (omega (arith, length-drop c.args.place c.args.text.now, c.requires.within)) in
    sym (starts_other (take (length marker) rest) marker long (λ e. c.are_different.ensures told (ap (λ n. take n rest) size ∙ e)) ∙ starts_taken rest marker)
