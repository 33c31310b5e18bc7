use Rattle.std.proofs.Common.{◌≡◌, ◌+◌, ◌-◌, arith, get_or, length, subst}
use Rattle.std.specs.Prelude.{◌≢◌}
use Rattle.std.proofs.lemmas.List.{get_or-drop, length-drop}
use Rattle.text_places.proofs.CutLemmas.{cut_line}
use Rattle.text_places.proofs.edits.line_end.Goals as goal

pub returns : goal.returns
returns c =
    let rest = c.split_at.ensures.back in
    let long : length c.split_at.result.1.now ≡ length c.args.text.now - c.args.at = omega (arith, c.split_at.ensures.back_len) in
    cut_line c.args.text.now c.args.at c.min.result (c.args.at + c.min.result + 1) (omega (arith, c.min.ensures, long, c.requires)) (omega arith)
    (λ k h. subst (λ l. get_or l k 0 ≢ 10) rest (c.feed_place.ensures.clean k (omega (arith, c.min.ensures, h))))
    (λ more.
    let here : c.feed_place.result ≡ c.min.result = omega (arith, c.min.ensures, long, length-drop c.args.at c.args.text.now, more, c.feed_place.ensures.bound) in
    subst (λ l. get_or l c.min.result 0 ≡ 10) rest (subst (λ n. get_or c.split_at.result.1.now n 0 ≡ 10) here (c.feed_place.ensures.stops (omega (arith, here, long, length-drop c.args.at c.args.text.now, more)))))
    (get_or-drop c.args.at c.args.text.now c.min.result 0)
