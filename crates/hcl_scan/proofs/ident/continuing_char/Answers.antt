use Rattle.std.proofs.Common.{sym, ◌∙◌}
use Rattle.hcl_tokens.specs.Spelling.{continues_ident}
use Rattle.hcl_scan.proofs.IdentLemmas.{char_found}
use Rattle.hcl_scan.proofs.ident.continuing_char.Goals as goal

pub returns-then-continues_ident-clause-found : goal.returns-then-continues_ident-clause-found
returns-then-continues_ident-clause-found c =
    char_found continues_ident c.args.text.now c.next.new.self.rest.now c.in-Some.c c.len_utf8.result c.continues_ident.result (sym c.chars.ensures.rest ∙ c.in-Some.ensures.steps.0) c.continues_ident.ensures c.if-continues_ident.true c.len_utf8.ensures.len
