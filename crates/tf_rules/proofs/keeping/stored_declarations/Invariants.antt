use Rattle.tf_rules.specs.Issues.{place_in}
use Rattle.tf_rules.specs.Stored.{declaration_at}
use Rattle.tf_facts.specs.Found.{declaration}
use Rattle.tf_rules.specs.Inner.StoredViews.{stored_declaration}
use Rattle.tf_rules.specs.Inner.Locating.{IsKeeping, numbers_of}
use Rattle.tf_rules.proofs.keeping.stored_declarations.Given as goal

abbrev pub invariant-loop-declared : goal.invariant-loop-declared
invariant-loop-declared l = IsKeeping stored_declaration (λ d. declaration_at (place_in l.fn.locator.file) (declaration d)) (λ d. numbers_of (declaration d)) l.fn.locator.file l.declarations l.kept.items l.declared-index l.locator
