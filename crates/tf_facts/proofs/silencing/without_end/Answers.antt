use Rattle.std.proofs.Common.{◌∙◌, ◌-◌, ap, sym, length, arith}
use Rattle.std.proofs.lemmas.List.{take_all}
use Rattle.tf_facts.specs.Texts.{without_end}
use Rattle.tf_facts.specs.Silencing.{is_margin}
use Rattle.tf_facts.proofs.FrontLemmas.{end_here_at, end_past_at}
use Rattle.tf_facts.proofs.silencing.without_end.Goals as goal

pub loop-end-init : goal.loop-end-init
loop-end-init c = record { same = ap (without_end is_margin) (take_all (length c.args.text.now) c.args.text.now (omega arith)); within = omega arith }

pub loop-end-preserved : goal.loop-end-preserved
loop-end-preserved c = record {
  same =
      sym (end_past_at is_margin c.args.text.now c.loop-end.end (c.loop-end.end - 1) (omega arith) (omega (arith, c.loop-end.invariant.within)) (sym c.is_margin.ensures ∙ c.if-not-is_margin.false))
      ∙ c.loop-end.invariant.same;
  within = omega (arith, c.loop-end.invariant.within);
}

pub returns-then-not-is_margin : goal.returns-then-not-is_margin
returns-then-not-is_margin c =
    sym (end_here_at is_margin c.args.text.now c.loop-end.end (c.loop-end.end - 1) (omega arith) (omega (arith, c.loop-end.invariant.within)) (sym c.is_margin.ensures ∙ c.if-not-is_margin.true))
    ∙ c.loop-end.invariant.same
