use Rattle.std.proofs.Common.{◌≡◌, ◌∙◌, ap, sym, ℕ, List, length, arith, rules, tests}
use Rattle.std.specs.Prelude.{◌==◌, Option, find}
use Rattle.std.specs.Option.{option_map}
use Rattle.std.specs.List.{slice_split}
use Rattle.std.proofs.lemmas.List.{drop_all}
use Rattle.std.proofs.lemmas.Iterator.Search.{find_from_yields_List}
use Rattle.std.proofs.lemmas.Iterator.Splits.{YieldsList-from_slice_split}
use denote.Ref.{Bor}
use Rattle.tf_facts.specs.Texts.{begins}
use Rattle.tf_facts.specs.Sources.{after_question, value_after, revision}
use Rattle.tf_facts.proofs.source.revision.Goals as goal

abbrev read : Bor (List ℕ) → List ℕ
read x = x.now

found : (front text rest : List ℕ) (o : Option (Bor (List ℕ))) → rest ≡ after_question text → option_map read o ≡ find (begins front) (slice_split (λ b. b == 38) rest) → value_after front (option_map read o) ≡ revision front text
found front text rest o is e = ap (value_after front) (e ∙ ap (λ r. find (begins front) (slice_split (λ b. b == 38) r)) is)

pub returns-in-Some : goal.returns-in-Some
returns-in-Some c =
    c.after.ensures
    ∙ ap (λ o. value_after c.args.front.now (option_map read o)) (sym c.in-Some.is)
    ∙ found c.args.front.now c.args.text.now c.after_question.result.now c.find-found.result c.after_question.ensures
    (find_from_yields_List (begins c.args.front.now) _ _ _ c.find-found.ensures.ran
    (YieldsList-from_slice_split _ (λ b. b == 38) c.after_question.result.now c.split.ensures.rest c.split.ensures.done c.split.ensures.closure (λ x b q k. search (rules, tests)))
    (λ x b q k. search (rules, tests)))

pub returns-in-None : goal.returns-in-None
returns-in-None c =
    c.after-in-None.ensures ∙ drop_all (length c.args.text.now) c.args.text.now (omega arith)
    ∙ ap (λ o. value_after c.args.front.now (option_map read o)) (sym c.in-None.is)
    ∙ found c.args.front.now c.args.text.now c.after_question.result.now c.find-found.result c.after_question.ensures
    (find_from_yields_List (begins c.args.front.now) _ _ _ c.find-found.ensures.ran
    (YieldsList-from_slice_split _ (λ b. b == 38) c.after_question.result.now c.split.ensures.rest c.split.ensures.done c.split.ensures.closure (λ x b q k. search (rules, tests)))
    (λ x b q k. search (rules, tests)))
