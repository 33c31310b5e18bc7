use Rattle.std.proofs.Common.{◌≡◌, ◌+◌, ◌-◌, ◌++◌, ◌∷◌, [], ◌∙◌, ap, refl, rules, arith}
use Rattle.hcl_tokens.specs.Inner.StoredEntries.{entries_of}
use Rattle.hcl_tokens.proofs.TokenEntryLemmas.{ended, long_pushed}
use Rattle.hcl_tokens.proofs.entries.Entries.push_long.Goals as goal

pub returns-in-Ok-clause-pushed : goal.returns-in-Ok-clause-pushed
returns-in-Ok-clause-pushed c =
    let e = c.args.entry in
    let same_end : e.start + (e.end - e.start) ≡ e.end = omega (arith, c.requires.order) in
    let pushed = long_pushed c.self.inside.long.items _ c.self.inside.kept.items _ c.self.invariant.0 refl (search rules) in
    rw (c.in-Ok.ensures.items, c.in_ok-push.ensures.items, ← c.self.view_is) (pushed ∙ ap (λ n. entries_of c.self.inside.long.items c.self.inside.kept.items ++ ended e n ∷ []) same_end)
