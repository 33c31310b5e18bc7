use Rattle.std.proofs.Common.{List, ℕ, subst}
use Rattle.command_line.specs.Rows.{TookBy}
use Rattle.module_config.proofs.WordLemmas.{refused_told, unread_told}
use Rattle.module_config.proofs.words.tell_file.Goals as goal

pub returns-in-Refused-clause-took : goal.returns-in-Refused-clause-took
returns-in-Refused-clause-took g c =
    subst (λ (t : List ℕ). TookBy (g.S.ByteSink.failed c.tell_refusal.new.sink) (g.S.ByteSink.taken c.args.sink.now) (g.S.ByteSink.taken c.tell_refusal.new.sink) t)
    (refused_told c.args.start.now c.args.file.now c.as_slice.result.now c.display_path-name.result.now c.in-Refused.fault _ c.as_slice.ensures.value c.display_path-name.ensures c.in-Refused.is c.text.ensures) c.tell_refusal.ensures.took

pub returns-in-Unread-clause-took : goal.returns-in-Unread-clause-took
returns-in-Unread-clause-took g c =
    subst (λ (t : List ℕ). TookBy (g.S.ByteSink.failed c.tell_refusal-in-Unread.new.sink) (g.S.ByteSink.taken c.args.sink.now) (g.S.ByteSink.taken c.tell_refusal-in-Unread.new.sink) t)
    (unread_told c.args.start.now c.args.file.now c.as_slice.result.now c.display_path-name.result.now c.in-Unread.fault _ c.as_slice.ensures.value c.display_path-name.ensures c.in-Unread.is c.text-in-Unread.ensures) c.tell_refusal-in-Unread.ensures.took
