use Rattle.std.proofs.Common.{◌∙◌, ◌<◌, ap, subst, sym}
use Rattle.std.specs.Str.{IsCharBoundary}
use Rattle.source_snippet.proofs.LineLemmas.{line_boundary, line_len, many_chars}
use Rattle.source_snippet.proofs.line.short_line.Goals as goal

pub returns-in_default-clause-line : goal.returns-in_default-clause-line
returns-in_default-clause-line c = many_chars c.args.text.now c.utf8.text (subst (λ text. 960 < line_len text) c.as_bytes.ensures.value c.in_default.ensures.end)

pub range-line-requires-clause-end_boundary : goal.range-line-requires-clause-end_boundary
range-line-requires-clause-end_boundary c =
    let end = c.in-Some.ensures.end ∙ ap line_len c.as_bytes.ensures.value in
    subst (IsCharBoundary c.args.text.now) (sym end) (line_boundary c.args.text.now c.utf8.text)
