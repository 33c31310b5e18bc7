use Rattle.std.proofs.Common.{Some, sym, ap, ◌∙◌}
use Rattle.hcl_scan.specs.Inner.Openings.{opener_of}
use Rattle.hcl_tokens.specs.Faults.{end_fault}
use Rattle.hcl_source.specs.declared.fault.FaultKind.TheVariants.{UnterminatedQuote, UnterminatedTemplate}
use Rattle.hcl_scan.proofs.StepLemmas.{unclosed_none, unclosed_some, unclosed_stops, unclosed_template}
use Rattle.hcl_scan.proofs.scanner.Scanner.stop_if_unclosed.Goals as goal

pub returns-in_default-clause-complete : goal.returns-in_default-clause-complete
returns-in_default-clause-complete c = (c.requires.read, unclosed_none c.args.self.now.stack (sym c.in_default.ensures))

pub returns-in-Quote-clause-stopped : goal.returns-in-Quote-clause-stopped
returns-in-Quote-clause-stopped c =
    let top = unclosed_some c.args.self.now.text.now c.args.self.now.stack c.args.self.now.end c.in-Some.unclosed c.requires.sound.stack (sym c.in-Some.ensures) in
    unclosed_stops c.args.self.now UnterminatedQuote c.in-Some.unclosed.at c.requires.read (ap end_fault (top.opener ∙ ap (λ o. Some (opener_of o)) c.in-Quote.is)) top.at top.boundary

pub returns-in_default-by-clause-stopped : goal.returns-in_default-by-clause-stopped
returns-in_default-by-clause-stopped c =
    let top = unclosed_some c.args.self.now.text.now c.args.self.now.stack c.args.self.now.end c.in-Some.unclosed c.requires.sound.stack (sym c.in-Some.ensures) in
    unclosed_stops c.args.self.now UnterminatedTemplate c.in-Some.unclosed.at c.requires.read
    (unclosed_template c.args.self.now.text.now c.args.self.now.stack c.args.self.now.end c.in-Some.unclosed c.requires.sound.stack c.requires.no_heredoc c.in_default-by.not-Quote top) top.at top.boundary
