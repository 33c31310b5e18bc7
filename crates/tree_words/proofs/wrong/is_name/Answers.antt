use Rattle.std.proofs.Common.{◌∙◌, List, ℕ}
use Rattle.std.specs.Borrow.{Bor}
use Rattle.std.specs.Str.{bytes_eq}
use Rattle.clap.proofs.WalkLemmas.{list_any-map}
use Rattle.tree_words.proofs.wrong.is_name.Goals as goal

pub returns : goal.returns
returns c =
    c.is_one_of.ensures
    ∙ list_any-map (λ (name : List ℕ). bytes_eq name c.args.text.now) (λ (name : Bor (List ℕ)). name.now) c.args.of.now.names.now
