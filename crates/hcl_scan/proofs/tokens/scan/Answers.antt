use Rattle.std.proofs.Common.{arith, ap, length}
use Rattle.std.proofs.lemmas.List.{length_push}
use Rattle.hcl_tokens.specs.Entries.{lexemes_of}
use Rattle.hcl_scan.proofs.ScanLemmas.{token_read, stopped_there, more_parts, same_still, more_run, no_tokens, scan_fault}
use Rattle.hcl_scan.proofs.tokens.scan.Goals as goal

pub loop-read-preserved : goal.loop-read-preserved
loop-read-preserved c =
    let moved = token_read c.in-Some.read c.loop-read.scanner c.next_token.new.self c.in-Ok.entry c.in-Ok.is c.in-Some.ensures.read in
    record {
      same_text = same_still c.args.source.now c.loop-read.entries c.push.new.self c.loop-read.scanner c.next_token.new.self c.in-Ok.entry c.loop-read.invariant.same_text moved c.in-Ok-push.ensures.pushed;
      sound = moved.sound;
      within = omega (arith, ap length c.in-Ok-push.ensures.pushed, length_push c.loop-read.entries c.in-Ok.entry, c.loop-read.invariant.within, moved.further);
      parts = more_parts c.args.source.now c.loop-read.entries c.push.new.self c.loop-read.scanner c.next_token.new.self c.in-Ok.entry c.loop-read.invariant.same_text moved c.in-Ok-push.ensures.pushed c.loop-read.invariant.parts;
      read = more_run c.args.source.now c.loop-read.entries c.push.new.self c.loop-read.scanner c.next_token.new.self c.in-Ok.entry c.loop-read.invariant.same_text moved c.in-Ok-push.ensures.pushed c.loop-read.invariant.read;
    }

pub returns-in-Err-clause-err : goal.returns-in-Err-clause-err
returns-in-Err-clause-err c =
    let fault = scan_fault c.args.source.now (lexemes_of c.args.source.now c.loop-read.entries) c.loop-read.scanner c.in-Err.stopped c.loop-read.invariant.same_text c.loop-read.invariant.read (stopped_there c.in-Some.read c.loop-read.scanner c.in-Err.stopped c.in-Err.is c.in-Some.ensures.stopped) in
    (c.in-Err.stopped.at, fault, c.position.ensures, no_tokens c.args.source.now c.in-Err.stopped.kind c.in-Err.stopped.at fault)
