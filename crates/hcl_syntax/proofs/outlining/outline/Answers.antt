use Rattle.std.proofs.Common.{◌∙◌, ap, ap₂, ◌++◌}
use Rattle.hcl_grammar.specs.Items.{outline}
use Rattle.hcl_syntax.specs.Inner.Segments.{items_at, words}
use Rattle.hcl_syntax.proofs.OutlineLemmas.{outline_is}
use Rattle.hcl_syntax.proofs.outlining.outline.Goals as goal

pub returns : goal.returns
returns c =
    let ts = c.tokens-tokens.result.now.tokens in
    c.in_ok-push_items.ensures
    ∙ ap₂ (λ old n. old ++ items_at 0 (words ts 0 n)) c.in_ok-items.ensures c.token_count-count.ensures.is
    ∙ outline_is ts
    ∙ ap (λ s. outline s.tokens) c.tokens-tokens.ensures.tokens
