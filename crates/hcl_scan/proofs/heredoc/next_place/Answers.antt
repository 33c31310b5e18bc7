use Rattle.std.proofs.Common.{sym, ◌∙◌, arith}
use Rattle.hcl_scan.proofs.CandidateLemmas.{later, none_later, occurs_at}
use Rattle.hcl_scan.proofs.heredoc.next_place.Goals as goal

pub returns-then-is_found_at-clause-found : goal.returns-then-is_found_at-clause-found
returns-then-is_found_at-clause-found c = record {
  low = c.loop-here.invariant.low;
  occurs = occurs_at c.args.marker.now c.args.text.now c.loop-here.here c.loop-here.invariant.within (sym c.is_found_at.ensures ∙ c.if-is_found_at.true);
  first = c.loop-here.invariant.later;
}

pub loop-here-preserved : goal.loop-here-preserved
loop-here-preserved c = record {
  low = omega (arith, c.past_unlikely-here.ensures.after.low, c.loop-here.invariant.low);
  within = c.past_unlikely-here.ensures.within;
  later = later c.args.marker.now c.args.text.now c.args.at c.loop-here.here c.past_unlikely-here.result c.requires.some c.loop-here.invariant.later (sym c.is_found_at.ensures ∙ c.if-is_found_at.false) c.past_unlikely-here.ensures.after;
}

pub returns-clause-none : goal.returns-clause-none
returns-clause-none c = none_later c.args.marker.now c.args.text.now c.args.at c.loop-here.here c.loop-here.invariant.within c.loop-here-test.false c.loop-here.invariant.later
