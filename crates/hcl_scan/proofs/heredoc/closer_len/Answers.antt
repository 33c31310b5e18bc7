use Rattle.std.proofs.Common.{arith, length-drop}
use Rattle.std.specs.List.{prefix_len}
use Rattle.hcl_tokens.specs.Spelling.{is_blank}
use Rattle.hcl_tokens.specs.Scans.{skip_blanks}
use Rattle.hcl_scan.proofs.LiteralLemmas.{starts_len}
use Rattle.hcl_scan.proofs.heredoc.closer_len.Goals as goal

pub returns-clause-within : goal.returns-clause-within
returns-clause-within c = omega (arith, c.count_blanks.ensures.count, c.count_blanks.ensures.within, starts_len (skip_blanks c.args.line.now) c.args.marker.now c.requires, length-drop (prefix_len is_blank c.args.line.now) c.args.line.now)
