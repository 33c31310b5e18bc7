use Rattle.std.proofs.Common.{◌∙◌, sym}
use Rattle.std.specs.Prelude.{◌==◌}
use Rattle.std.specs.List.{slice_split}
use Rattle.tf_facts.proofs.CutLemmas.{rest_is, too_many}
use Rattle.tf_facts.proofs.source.is_address.Goals as goal

pub returns-then-is_some : goal.returns-then-is_some
returns-then-is_some c =
    too_many (slice_split (λ b. b == 47) c.args.text.now) (slice_split (λ b. b == 47) c.in-Some.rest.now) (slice_split (λ b. b == 47) c.in-Some-rest.rest.now) (slice_split (λ b. b == 47) c.in-Some-rest-2.rest.now)
    c.cut-first.result.part.now c.cut-second.result.part.now c.cut-third.result.part.now c.cut-fourth.result 47
    (rest_is c.args.text.now 47 c.cut-first.result c.in-Some.rest c.in-Some.is c.cut-first.ensures)
    (rest_is c.in-Some.rest.now 47 c.cut-second.result c.in-Some-rest.rest c.in-Some-rest.is c.cut-second.ensures)
    (rest_is c.in-Some-rest.rest.now 47 c.cut-third.result c.in-Some-rest-2.rest c.in-Some-rest-2.is c.cut-third.ensures)
    c.cut-fourth.ensures (sym c.is_some.ensures ∙ c.if-is_some.true)
