use Rattle.std.proofs.Common.{◌∙◌, ◌∷◌, [], Contains, refl, subst, sym}
use Rattle.std.proofs.lemmas.List.Elements.{Contains-append_left, Contains-push}
use Rattle.std.proofs.lemmas.Slice.Eq.{bytes_eq-Decides}
use Rattle.module_find.proofs.modules.take_looked.Goals as goal

pub returns-then-eq-clause-taken : goal.returns-then-eq-clause-taken
returns-then-eq-clause-taken c = (
  c.in_ok-one.one,
  c.loop.invariant c.in_ok-one.one (subst (λ l. Contains l c.in_ok-one.one) (sym c.in_ok-one.ensures.items) (Contains-push c.pop.new.self.items c.in_ok-one.one)),
  sym c.as_slice-in-loop-2.ensures.value ∙ (bytes_eq-Decides c.as_slice-in-loop-2.result.now c.args.folder.now).0 (sym c.eq.ensures ∙ c.if-eq.true),
  refl,
)

pub returns-then-eq-clause-left : goal.returns-then-eq-clause-left
returns-then-eq-clause-left c l within = c.loop.invariant l (subst (λ ls. Contains ls l) (sym c.in_ok-one.ensures.items) (Contains-append_left c.pop.new.self.items (c.in_ok-one.one ∷ []) l within))

pub loop-preserved : goal.loop-preserved
loop-preserved c l within = c.loop.invariant l (subst (λ ls. Contains ls l) (sym c.in_ok-one.ensures.items) (Contains-append_left c.pop.new.self.items (c.in_ok-one.one ∷ []) l within))
