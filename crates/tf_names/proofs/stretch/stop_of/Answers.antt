use Rattle.std.proofs.Common.{◌∙◌, ◌≡◌, ap, arith, length}
use Rattle.hcl_tokens.specs.Scanned.{Scanned, lexeme}
use Rattle.tf_names.specs.Names.{stop_of}
use Rattle.tf_names.proofs.TokenLemmas.{stop_here, stops_within}
use Rattle.tf_names.proofs.stretch.stop_of.Goals as goal

pub overflow_add-result : goal.overflow_add-result
overflow_add-result c =
    let within = stops_within c.tokens-tokens.result.now.text c.get-token.result.text.now c.get-token.result.start c.get-token.ensures.start c.get-token.ensures.text in
    let same : length c.source.result.now ≡ length c.tokens-tokens.result.now.text = ap length c.source.ensures.source in
    omega (arith, same, c.text-text.ensures.is_text.small)

pub returns-clause-stop : goal.returns-clause-stop
returns-clause-stop c =
    stop_here c.tokens-tokens.result.now.tokens c.args.number (lexeme c.get-token.result) c.get-token.ensures.token
    ∙ ap (λ (s : Scanned). stop_of s.tokens c.args.number) c.tokens-tokens.ensures.tokens
