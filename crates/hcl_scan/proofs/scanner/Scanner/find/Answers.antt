use Rattle.std.proofs.Common.{sym, ◌∙◌, slice_range}
use Rattle.hcl_tokens.specs.Spelling.{context}
use Rattle.hcl_scan.specs.Inner.Openings.{openers_of}
use Rattle.hcl_scan.proofs.StepLemmas.{template_found, quoted_some}
use Rattle.hcl_scan.proofs.scanner.Scanner.find.Goals as goal

pub returns-in-Some-clause-found : goal.returns-in-Some-clause-found
returns-in-Some-clause-found c =
    template_found c.next_in_template.result (openers_of c.args.self.now.stack) c.args.self.now.after_dot c.in-Some.quoted c.as_bytes.result.now (slice_range c.args.self.now.text.now c.args.start c.args.self.now.end)
    (quoted_some (context (openers_of c.args.self.now.stack)) c.in-Some.quoted (sym c.in-Some.ensures)) (c.as_bytes.ensures.value ∙ c.range-seen.ensures.value) c.next_in_template.ensures.found
