use Rattle.std.proofs.Common.{◌≡◌, ◌<◌, ◌∙◌, length, subst, rules, ◌++◌, ◌∷◌, [], ap, sym, map, cond, List, ℕ, Bool}
use Rattle.std.proofs.lemmas.List.{map-append}
use Rattle.std.specs.List.{list_any}
use Rattle.std.specs.Borrow.{Bor}
use Rattle.std.specs.Str.{bytes_eq}
use Rattle.tfrules_command.specs.Line.{NoneTwice, with_name}
use Rattle.tfrules_command.proofs.ListLemmas.{any_mapped}
use Rattle.tfrules_command.proofs.NameLemmas.{apart_with, some_with}
use Rattle.std.proofs.lemmas.List.{length-map}
use Rattle.tfrules_command.proofs.file_names.add_name.Goals as goal

by_test : (names shown : List (Bor (List ℕ))) (name : List ℕ) (b : Bool) → shown ≡ names → b ≡ list_any (λ known. bytes_eq known.now name) shown
    → with_name (map (λ known. known.now) names) name ≡ cond b (map (λ known. known.now) names) (map (λ known. known.now) names ++ name ∷ [])
by_test names shown name b same e =
    ap (λ t. cond t (map (λ known. known.now) names) (map (λ known. known.now) names ++ name ∷ []))
    (any_mapped (λ known. bytes_eq known name) (λ (known : Bor (List ℕ)). known.now) names ∙ ap (list_any (λ known. bytes_eq known.now name)) (sym same) ∙ sym e)

pub returns-then-is_known-clause-names : goal.returns-then-is_known-clause-names
returns-then-is_known-clause-names c =
    sym (by_test c.args.names.now.items c.as_slice.result.now c.args.name.now c.is_known.result c.as_slice.ensures.value c.is_known.ensures
    ∙ ap (λ b. cond b (map (λ known. known.now) c.args.names.now.items) (map (λ known. known.now) c.args.names.now.items ++ c.args.name.now ∷ [])) c.if-is_known.true)

pub returns-clause-names : goal.returns-clause-names
returns-clause-names c =
    ap (map (λ known. known.now)) c.in-Ok.ensures.items ∙ map-append (λ (known : Bor (List ℕ)). known.now) c.args.names.now.items (c.args.name ∷ [])
    ∙ sym (by_test c.args.names.now.items c.as_slice.result.now c.args.name.now c.is_known.result c.as_slice.ensures.value c.is_known.ensures
    ∙ ap (λ b. cond b (map (λ known. known.now) c.args.names.now.items) (map (λ known. known.now) c.args.names.now.items ++ c.args.name.now ∷ [])) c.if-is_known.false)

pub returns-then-is_known-clause-apart : goal.returns-then-is_known-clause-apart
returns-then-is_known-clause-apart c = λ d. subst NoneTwice (sym (returns-then-is_known-clause-names c)) (apart_with (map (λ known. known.now) c.args.names.now.items) c.args.name.now d)

pub returns-clause-apart : goal.returns-clause-apart
returns-clause-apart c = λ d. subst NoneTwice (sym (returns-clause-names c)) (apart_with (map (λ known. known.now) c.args.names.now.items) c.args.name.now d)

pub returns-then-is_known-clause-some : goal.returns-then-is_known-clause-some
returns-then-is_known-clause-some c =
    subst (λ n. 0 < n) (length-map c.args.names.now.items (λ (known : Bor (List ℕ)). known.now))
    (subst (λ ns. 0 < length ns) (sym (returns-then-is_known-clause-names c)) (some_with (map (λ known. known.now) c.args.names.now.items) c.args.name.now))
