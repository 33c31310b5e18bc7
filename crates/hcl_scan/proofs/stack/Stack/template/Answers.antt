use Rattle.std.proofs.Common.{List, ap, ◌∙◌}
use Rattle.hcl_tokens.specs.Spelling.{context}
use Rattle.hcl_scan.specs.Inner.Openings.{openers_of, quoted_in}
use Rattle.hcl_scan.specs.Inner.Readings.{template_in, stack_of}
use Rattle.hcl_scan.specs.declared.stack.Opened.{Opened}
use Rattle.hcl_scan.proofs.ReadingLemmas.{template_under}
use Rattle.hcl_scan.proofs.stack.Stack.template.Goals as goal

pub returns : goal.returns
returns c =
    c.template_in.ensures ∙ ap template_in c.self.invariant.read_so ∙ template_under (stack_of c.self.inside.room.now.depth c.self.inside.room.now.opened)
    ∙ ap (λ (stack : List Opened). quoted_in (context (openers_of stack))) c.self.view_is
