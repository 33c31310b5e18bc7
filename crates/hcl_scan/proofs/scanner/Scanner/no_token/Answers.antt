use Rattle.std.proofs.Common.{◌≡◌, List, [], ◌∷◌, ℕ, sym, ap, ◌∙◌, slice_range}
use Rattle.hcl_tokens.specs.Spelling.{context, starts, Expression}
use Rattle.hcl_scan.specs.Inner.Openings.{openers_of}
use Rattle.hcl_scan.specs.Inner.Scanners.{state_of}
use Rattle.hcl_tokens.specs.Faults.{no_token_fault, fault_offset}
use Rattle.hcl_scan.proofs.StepLemmas.{no_token_here, template_none, expression_offset}
use Rattle.hcl_scan.proofs.scanner.Scanner.no_token.Goals as goal

pub returns-in_default : goal.returns-in_default
returns-in_default c =
    let seen : List ℕ = slice_range c.args.self.now.text.now c.args.start c.args.self.now.end in
    let same : c.as_bytes-seen.result.now ≡ seen = c.as_bytes-seen.ensures.value ∙ c.range.ensures.value in
    let here : context (openers_of c.args.self.now.stack) ≡ Expression = template_none c.args.self.now.stack (sym c.in_default.ensures) in
    let kind_is : c.no_expression.result ≡ no_token_fault Expression seen = c.no_expression.ensures ∙ ap (no_token_fault Expression) same in
    no_token_here c.args.self.now c.args.start c.requires.sound c.requires.start c.no_expression.result c.args.start c.requires.some c.requires.none
    (kind_is ∙ ap (λ x. no_token_fault x seen) (sym here))
    (c.requires.start.gap ∙ expression_offset (state_of c.args.self.now) (starts seen (47 ∷ 42 ∷ [])) ∙ ap (fault_offset (state_of c.args.self.now)) (sym kind_is))
    c.requires.start.boundary
