use Rattle.std.proofs.Common.{◌∙◌, ap, arith, length, refl, sym, ◌+◌}
use Rattle.hcl_syntax.specs.Inner.Cursors.{first, after_first}
use Rattle.hcl_syntax.proofs.LookaheadLemmas.{one_fewer, passed}
use Rattle.hcl_syntax.proofs.cursor.Cursor.bump.Goals as goal

pub invariant_of-self : goal.invariant_of-self
invariant_of-self c = let p = passed c.self.inside.tokens.now.tokens c.args.token _ c.self.inside.next refl (ap (λ s. first s.left) c.self.view_is ∙ c.requires) in omega (arith, p.within)

pub returns-clause-left : goal.returns-clause-left
returns-clause-left c = let p = passed c.self.inside.tokens.now.tokens c.args.token _ c.self.inside.next refl (ap (λ s. first s.left) c.self.view_is ∙ c.requires) in p.after ∙ ap (λ s. after_first s.left) c.self.view_is

pub returns-clause-shorter : goal.returns-clause-shorter
returns-clause-shorter c =
    let p = passed c.self.inside.tokens.now.tokens c.args.token _ c.self.inside.next refl (ap (λ s. first s.left) c.self.view_is ∙ c.requires) in
    one_fewer c.args.self.now.left c.args.token c.requires ∙ ap (λ l. length l + 1) (sym (p.after ∙ ap (λ s. after_first s.left) c.self.view_is))
