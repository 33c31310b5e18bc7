use Rattle.std.proofs.Common.{◌≡◌, ◌∙◌, ◌+◌, ◌<◌, ◌∷◌, ap, map, length, subst}
use Rattle.hcl_tokens.specs.Scanned.{Scanned}
use Rattle.tf_names.specs.Inner.Found.{reference_seen}
use Rattle.tf_facts.specs.Seen.{after_dot, seen_from}
use Rattle.tf_names.specs.Names.{occurrence_of, refers_from}
use Rattle.tf_names.proofs.ReferenceLemmas.{occurrence_is}
use Rattle.tf_names.proofs.reference.occurrence_from.Goals as goal

pub word_stretch-last-requires : goal.word_stretch-last-requires
word_stretch-last-requires c =
    subst (λ (s : Scanned). c.in-Some.reference.token < length s.tokens) c.tokens-tokens.ensures.tokens c.in-Some.ensures.within

pub returns-in_default : goal.returns-in_default
returns-in_default c =
    let n = c.args.number in
    ap (map (occurrence_of c.args.accepted.now.tokens))
    (subst (λ (s : Scanned). refers_from (after_dot s.tokens (n + 1)) (seen_from s.tokens (n + 1)) ≡ refers_from (after_dot s.tokens n) (seen_from s.tokens n)) c.tokens-tokens.ensures.tokens c.in_default.ensures.is)

pub returns : goal.returns
returns c =
    let n = c.args.number in
    let ts = c.args.accepted.now.tokens in
    let r = c.in-Some.reference in
    ap (λ o. o ∷ map (occurrence_of ts) (refers_from (after_dot ts (n + 1)) (seen_from ts (n + 1)))) (occurrence_is ts n r c.start_of.result c.word_stretch-last.result c.start_of.ensures.start c.word_stretch-last.ensures)
    ∙ ap (map (occurrence_of ts))
    (subst (λ (s : Scanned). reference_seen n r ∷ refers_from (after_dot s.tokens (n + 1)) (seen_from s.tokens (n + 1)) ≡ refers_from (after_dot s.tokens n) (seen_from s.tokens n)) c.tokens-tokens.ensures.tokens c.in-Some.ensures.is)
