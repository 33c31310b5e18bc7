use Rattle.std.proofs.Common.{map}
use Rattle.tfls_command.proofs.AnswerLemmas.{bad_line}
use Rattle.tfls_command.proofs.run.program.Goals as goal

pub returns-in-Err-BadLine : goal.returns-in-Err-BadLine
returns-in-Err-BadLine g c =
    let input = c.args.input.now in
    bad_line (g.D.Disk.files c.args.host.now.disk) (map (λ word. word.now) c.args.words.now) c.in-Err-BadLine.field-0 (g.I.ByteSource.left input) (g.I.ByteSource.left input) (g.I.ByteSource.failed input) _
    c.in-Err-BadLine.ensures c.in-Err-BadLine.field-0-is c.bad_line.ensures
