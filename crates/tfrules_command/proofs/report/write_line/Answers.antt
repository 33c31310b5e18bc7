use Rattle.std.proofs.Common.{◌∙◌, [], ◌++◌}
use Rattle.tfrules_command.proofs.PageLemmas.{goes_as, in_frame, twice_tail}
use Rattle.tfrules_command.proofs.report.write_line.Goals as goal

pub returns-clause-goes : goal.returns-clause-goes
returns-clause-goes g c =
    goes_as _ _ _ _ _ _ _
    ((λ k. c.args.frame.name.now ++ (c.args.frame.place.now ++ (c.as_bytes.ensures.value k ++ (c.as_bytes-2.ensures.value k ++ (c.as_bytes-3.ensures.value k ++ (c.as_bytes-4.ensures.value k ++ (c.as_bytes-5.ensures.value k ++ (c.as_bytes-6.ensures.value k ++ (c.as_bytes-7.ensures.value k ++ [])))))))))
    ∙ in_frame c.args.frame.name.now c.args.frame.place.now c.args.frame.before_message.now _ _
    (twice_tail c.args.message.front.now c.args.message.name.now c.args.message.between.now c.args.message.other.now c.args.message.rest.now c.args.frame.after_message.now))
    c.write_parts.ensures.goes
