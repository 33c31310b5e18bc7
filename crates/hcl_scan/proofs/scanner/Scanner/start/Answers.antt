use Rattle.std.proofs.Common.{◌+◌, slice_range, sym, ap, subst, ◌∙◌, IsUtf8}
use Rattle.std.specs.List.{prefix_len}
use Rattle.hcl_tokens.specs.Lexemes.{in_heredoc}
use Rattle.hcl_tokens.specs.Spelling.{context, is_blank}
use Rattle.hcl_scan.specs.Inner.Openings.{openers_of}
use Rattle.hcl_scan.proofs.StepLemmas.{start_gap, gaps_plain}
use Rattle.hcl_scan.proofs.scanner.Scanner.start.Goals as goal

pub returns-else-inside_heredoc : goal.returns-else-inside_heredoc
returns-else-inside_heredoc c =
    start_gap c.args.self.now c.past_blanks.result c.requires (subst IsUtf8 c.as_bytes.ensures.value c.as_bytes.ensures.utf8) (c.past_blanks.ensures ∙ ap (λ t. c.args.self.now.at + prefix_len is_blank (slice_range t c.args.self.now.at c.args.self.now.end)) c.as_bytes.ensures.value)
    (gaps_plain (context (openers_of c.args.self.now.stack)) (in_heredoc (openers_of c.args.self.now.stack)) (sym c.in-None.ensures) (sym c.inside_heredoc.ensures ∙ c.if-inside_heredoc.false))
