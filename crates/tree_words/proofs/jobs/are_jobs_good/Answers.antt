use Rattle.std.proofs.Common.{◌∙◌, [], ap, codes, sym, List, ℕ}
use Rattle.std.proofs.lemmas.List.Folds.{list_all-map}
use Rattle.std.specs.Prelude.{unwrap_or}
use Rattle.std.specs.Borrow.{Bor}
use Rattle.std.specs.List.{list_all}
use Rattle.clap.proofs.WalkLemmas.{raw_values-rows}
use Rattle.clap.specs.Words.{found_of}
use Rattle.tree_words.specs.Line.{is_jobs}
use Rattle.tree_words.proofs.jobs.are_jobs_good.Goals as goal

pub returns-in-Some : goal.returns-in-Some
returns-in-Some c =
    c.are_jobs.ensures ∙ sym (list_all-map is_jobs (λ (text : Bor (List ℕ)). text.now) c.in-Some.texts.now)
    ∙ ap (λ o. list_all is_jobs (unwrap_or o [])) (c.in-Some.ensures ∙ raw_values-rows (found_of c.args.matches.now) (codes "jobs"))

pub returns-in-None : goal.returns-in-None
returns-in-None c = ap (λ o. list_all is_jobs (unwrap_or o [])) (c.in-None.ensures ∙ raw_values-rows (found_of c.args.matches.now) (codes "jobs"))
