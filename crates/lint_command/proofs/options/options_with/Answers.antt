use Rattle.std.proofs.Common.{◌∙◌, map, refl, sym, List, ℕ}
use Rattle.std.specs.Borrow.{Bor}
use Rattle.std.proofs.lemmas.List.{length-map}
use Rattle.lint_command.proofs.LineLemmas.{asking_parts}
use Rattle.lint_command.proofs.options.options_with.Goals as goal

pub returns : goal.returns
returns c =
    c.options_by.ensures
    ∙ asking_parts _ _ _ _ _ _ _ _ _ _ _ _ _ _ _ (map (λ (name : Bor (List ℕ)). name.now) c.args.names.items) c.given_of.ensures c.is_given.ensures c.shard_of.ensures c.form_of.ensures c.are_jobs_good.ensures refl c.is_given-2.ensures
    (sym (length-map c.args.names.items (λ (name : Bor (List ℕ)). name.now)))
