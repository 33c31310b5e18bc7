use Rattle.std.proofs.Common.{◌≡◌, ◌∙◌, true, ap, arith, length, length-drop, subst}
use Rattle.std.specs.List.{prefix_len}
use Rattle.std.specs.Str.{chars}
use Rattle.hcl_layout.specs.Inner.Simple.{are_alone, is_simple_byte}
use Rattle.hcl_layout.proofs.ClusterLemmas.{clusters_front, front_boundary}
use Rattle.hcl_layout.proofs.measured.count_clusters.Goals as goal

pub range_from-requires : goal.range_from-requires
range_from-requires c some =
    front_boundary c.args.text.now c.simple_len-front.result c.utf8.text (c.simple_len-front.ensures.count ∙ ap (prefix_len is_simple_byte) c.as_bytes.ensures.value)

pub overflow_add-result : goal.overflow_add-result
overflow_add-result c =
    omega (arith, c.in-Some.ensures.within, ap length c.range_from.ensures.value, length-drop c.simple_len-front.result c.args.text.now, c.simple_len-front.ensures.within, ap length c.as_bytes.ensures.value)

pub returns-in-Some-clause-count : goal.returns-in-Some-clause-count
returns-in-Some-clause-count c =
    let rest = c.range_from.ensures.value in
    clusters_front c.args.text.now c.simple_len-front.result c.in-Some.count c.utf8.text (c.simple_len-front.ensures.count ∙ ap (prefix_len is_simple_byte) c.as_bytes.ensures.value)
    (subst (λ x. are_alone (chars x) ≡ true) rest c.in-Some.ensures.alone) (c.in-Some.ensures.count ∙ ap (λ x. length (chars x)) rest)

pub returns-in-Some-clause-within : goal.returns-in-Some-clause-within
returns-in-Some-clause-within c =
    omega (arith, c.in-Some.ensures.within, ap length c.range_from.ensures.value, length-drop c.simple_len-front.result c.args.text.now, c.simple_len-front.ensures.within, ap length c.as_bytes.ensures.value)
