use Rattle.std.proofs.Common.{◌∙◌, ap, map, ℕ, List}
use Rattle.hcl_tokens.specs.Scanned.{Scanned}
use Rattle.hcl_grammar.specs.Numbered.{number_tokens}
use Rattle.tf_facts.specs.Comments.{Comment, comments}
use Rattle.tf_facts.specs.Declarations.{Declaration, declarations}
use Rattle.tf_facts.specs.Facts.{Facts}
use Rattle.tf_facts.specs.Patterns.{legacy_indexes, wrapped_interpolations}
use Rattle.tf_facts.specs.Found.{declaration}
use Rattle.tf_facts.proofs.file_facts.facts_of.Goals as goal

abbrev made : List (Comment ℕ) → List ℕ → List ℕ → List (Declaration ℕ) → Facts ℕ
made told indexes interpolations listed = record { comments = told; indexes = indexes; interpolations = interpolations; declarations = listed }

pub returns : goal.returns
returns c =
    ap (λ cs. made cs c.in_ok-patterns.patterns.indexes.items c.in_ok-patterns.patterns.interpolations.items (map declaration c.in_ok-declarations.declarations.items)) c.in_ok-patterns.ensures.comments
    ∙ ap (λ is. made (comments (number_tokens c.tokens-tokens.result.now.tokens)) is c.in_ok-patterns.patterns.interpolations.items (map declaration c.in_ok-declarations.declarations.items)) c.in_ok-patterns.ensures.indexes
    ∙ ap (λ is. made (comments (number_tokens c.tokens-tokens.result.now.tokens)) (legacy_indexes (number_tokens c.tokens-tokens.result.now.tokens)) is (map declaration c.in_ok-declarations.declarations.items)) c.in_ok-patterns.ensures.interpolations
    ∙ ap (λ ds. made (comments (number_tokens c.tokens-tokens.result.now.tokens)) (legacy_indexes (number_tokens c.tokens-tokens.result.now.tokens)) (wrapped_interpolations (number_tokens c.tokens-tokens.result.now.tokens)) ds) c.in_ok-declarations.ensures
    ∙ ap (λ (s : Scanned). made (comments (number_tokens s.tokens)) (legacy_indexes (number_tokens s.tokens)) (wrapped_interpolations (number_tokens s.tokens)) (declarations (number_tokens c.args.accepted.now.tokens))) c.tokens-tokens.ensures.tokens
