use Rattle.std.proofs.Common.{◌==◌, ◌∙◌, ap, length}
use Rattle.hcl_tokens.specs.Scanned.{Scanned}
use Rattle.hcl_layout.specs.Print.{print}
use Rattle.hcl_layout.proofs.EmptyLemmas.{none_alike}
use Rattle.hcl_layout.proofs.print.prints_nothing.Goals as goal

pub returns : goal.returns
returns c =
    let all = c.tokens-tokens.result.now in
    c.is_empty.ensures ∙ none_alike all.text all.tokens c.source-scanned.ensures.scanned ∙ ap (λ (s : Scanned). length (print s.tokens) == 0) c.tokens-tokens.ensures.tokens
