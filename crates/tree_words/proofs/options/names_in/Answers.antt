use Rattle.std.proofs.Common.{◌∙◌, ◌++◌, [], ap, codes, map}
use Rattle.std.proofs.lemmas.Result.{IfOk-weaker}
use Rattle.std.specs.Prelude.{unwrap_or}
use Rattle.clap.proofs.WalkLemmas.{raw_values-rows}
use Rattle.clap.specs.Words.{found_of}
use Rattle.tree_words.proofs.options.names_in.Goals as goal

pub returns-in-Some : goal.returns-in-Some
returns-in-Some c =
    IfOk-weaker c.names_of.result _ _
    (λ names e. e ∙ ap (λ o. unwrap_or o [] ++ map (λ name. name.now) c.args.others.now) (c.in-Some.ensures ∙ raw_values-rows (found_of c.args.matches.now) (codes "file"))) c.names_of.ensures

pub returns-in-None : goal.returns-in-None
returns-in-None c =
    IfOk-weaker c.names_of-in-None.result _ _
    (λ names e. e ∙ ap (λ o. unwrap_or o [] ++ map (λ name. name.now) c.args.others.now) (c.in-None.ensures ∙ raw_values-rows (found_of c.args.matches.now) (codes "file"))) c.names_of-in-None.ensures
