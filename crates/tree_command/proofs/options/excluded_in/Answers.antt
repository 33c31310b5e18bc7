use Rattle.std.proofs.Common.{◌∙◌, [], List, ℕ, ap, append-nil, codes, map}
use Rattle.std.proofs.lemmas.Result.{IfOk-weaker}
use Rattle.std.specs.Borrow.{Bor}
use Rattle.std.specs.Prelude.{unwrap_or}
use Rattle.clap.proofs.WalkLemmas.{raw_values-rows}
use Rattle.clap.specs.Words.{found_of}
use Rattle.tree_command.proofs.options.excluded_in.Goals as goal

pub returns-in-Some : goal.returns-in-Some
returns-in-Some c =
    IfOk-weaker c.names_of.result _ _
    (λ names e. e ∙ append-nil (map (λ name. name.now) c.in-Some.given.now) ∙ ap (λ o. unwrap_or o []) (c.in-Some.ensures ∙ raw_values-rows (found_of c.args.matches.now) (codes "exclude"))) c.names_of.ensures

pub returns-in-None : goal.returns-in-None
returns-in-None c =
    ap (map (λ (name : Bor (List ℕ)). name.now)) c.new.ensures.items ∙ ap (λ o. unwrap_or o []) (c.in-None.ensures ∙ raw_values-rows (found_of c.args.matches.now) (codes "exclude"))
