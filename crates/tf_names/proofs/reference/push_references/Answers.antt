use Rattle.std.proofs.Common.{◌≡◌, ◌∙◌, ◌+◌, ◌++◌, ap, sym, map, length, arith}
use Rattle.hcl_tokens.specs.Scanned.{Scanned}
use Rattle.tf_names.specs.Inner.Found.{listed_occurrence}
use Rattle.tf_facts.specs.Seen.{after_dot, seen_from}
use Rattle.tf_names.specs.Names.{occurrence_of, refers_from}
use Rattle.tf_names.specs.declared.occurrence.Occurrence.{Occurrence as OccurrenceOf}
use Rattle.std.specs.Prelude.{Option}
use Rattle.tf_names.proofs.ReferenceLemmas.{references_end, references_more, references_past}
use Rattle.tf_names.proofs.reference.push_references.Goals as goal

pub loop-number-preserved-in_default : goal.loop-number-preserved-in_default
loop-number-preserved-in_default c =
    let ts = c.args.accepted.now.tokens in
    let n = c.loop-number.number in
    references_past ts c.args.found.now.items c.loop-number.found.items n c.loop-number.invariant
    (ap (λ (o : Option OccurrenceOf). listed_occurrence o ++ map (occurrence_of ts) (refers_from (after_dot ts (n + 1)) (seen_from ts (n + 1)))) (sym c.in_default.is) ∙ c.occurrence_from.ensures)

pub loop-number-preserved : goal.loop-number-preserved
loop-number-preserved c =
    let ts = c.args.accepted.now.tokens in
    let n = c.loop-number.number in
    references_more ts c.args.found.now.items c.loop-number.found.items n c.loop-number.invariant c.push.new.self.items c.in-Some.occurrence c.in_ok-push.ensures.items
    (ap (λ (o : Option OccurrenceOf). listed_occurrence o ++ map (occurrence_of ts) (refers_from (after_dot ts (n + 1)) (seen_from ts (n + 1)))) (sym c.in-Some.is) ∙ c.occurrence_from.ensures)

pub returns : goal.returns
returns c =
    let same : length c.tokens-tokens.result.now.tokens ≡ length c.args.accepted.now.tokens = ap (λ (s : Scanned). length s.tokens) c.tokens-tokens.ensures.tokens in
    references_end c.args.accepted.now.tokens c.args.found.now.items c.loop-number.found.items c.loop-number.number c.loop-number.invariant
    (omega (arith, same, c.loop-number-test.false, c.len-number-end.ensures.len))
