use Rattle.std.proofs.Common.{◌≡◌, ◌+◌, ◌-◌, ◌==◌, ◌++◌, ◌∷◌, [], ◌∙◌, ap, false, length, rules, arith}
use Rattle.std.specs.Vec.{vec_len}
use Rattle.hcl_tokens.specs.Inner.StoredEntries.{entries_of, long_mark}
use Rattle.hcl_tokens.specs.declared.entries.StoredEntry.{StoredEntry}
use Rattle.hcl_tokens.proofs.TokenEntryLemmas.{ended, short_pushed}
use Rattle.hcl_tokens.proofs.entries.Entries.push.Goals as goal

pub returns-clause-pushed : goal.returns-clause-pushed
returns-clause-pushed c =
    let e = c.args.entry in
    let long = c.self.inside.long.items in
    let ks = c.self.inside.kept.items in
    let k : StoredEntry = record { place = e.start; length = e.end - e.start; kind = e.kind; inside_heredoc = e.inside_heredoc } in
    let short : ((e.end - e.start) == long_mark) ≡ false = search (rules, arith, c.if-length.false) in
    let counted : vec_len c.self.inside.kept ≡ length ks = search (rules) in
    let same_end : e.start + (e.end - e.start) ≡ e.end = omega (arith, c.requires.order) in
    let pushed = short_pushed long ks _ k short in
    rw (c.in_ok-push.ensures.items, c.len-at.ensures, counted, ← c.self.view_is) (pushed ∙ ap (λ n. entries_of long ks ++ ended e n ∷ []) same_end)
