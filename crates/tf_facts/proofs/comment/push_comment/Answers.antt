use Rattle.std.proofs.Common.{◌∙◌, ap, sym, [], ◌∷◌, ◌++◌, map}
use Rattle.std.proofs.lemmas.List.{map-append}
use Rattle.tf_facts.specs.Found.{comment}
use Rattle.tf_facts.specs.Inner.FoundViews.{comment_listed}
use Rattle.tf_facts.proofs.comment.push_comment.Goals as goal

pub returns : goal.returns
returns c = λ t e.
    ap (map comment) c.in_ok-push.ensures.items
    ∙ map-append comment c.args.found.now.items (c.in-Some.comment ∷ [])
    ∙ ap (λ r. map comment c.args.found.now.items ++ r) (ap comment_listed (sym c.in-Some.is) ∙ c.comment_at.ensures t e)
