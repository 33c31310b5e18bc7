use Rattle.std.proofs.Common.{◌≡◌, ◌<◌, ◌+◌, length, slice_get, Some, sym, ap, subst, ◌∙◌}
use Rattle.std.specs.Prelude.{option_map, slice_range}
use Rattle.std.specs.Str.{IsCharBoundary}
use Rattle.std.proofs.lemmas.Option.{slice_get-map}
use Rattle.hcl_tokens.specs.Entries.{lexeme_of}
use Rattle.hcl_tokens.specs.Lexemes.{Lexeme}
use Rattle.hcl_tokens.specs.Scanned.{Scanned}
use Rattle.hcl_tokens.proofs.TokenEntryLemmas.{entry_in, token_is}
use Rattle.hcl_tokens.proofs.tokens.Tokens.get.Goals as goal

pub range-requires-clause-start_boundary : goal.range-requires-clause-start_boundary
range-requires-clause-start_boundary c = λ some.
    let e = entry_in c.self.inside.origin.now c.self.inside.entries c.args.i c.span-span.result (subst (λ (s : Scanned). c.args.i < length s.tokens) (sym c.self.view_is) c.requires) c.self.invariant.parts c.span-span.ensures in
    rw (c.text.ensures.value, e.has.start) e.is.start

pub range-requires-clause-end_boundary : goal.range-requires-clause-end_boundary
range-requires-clause-end_boundary c =
    let e = entry_in c.self.inside.origin.now c.self.inside.entries c.args.i c.span-span.result (subst (λ (s : Scanned). c.args.i < length s.tokens) (sym c.self.view_is) c.requires) c.self.invariant.parts c.span-span.ensures in
    rw (c.text.ensures.value, e.has.end) e.is.end

pub returns-clause-token : goal.returns-clause-token
returns-clause-token c =
    let text = c.self.inside.origin.now in
    let es = c.self.inside.entries in
    let e = entry_in text es c.args.i c.span-span.result (subst (λ (s : Scanned). c.args.i < length s.tokens) (sym c.self.view_is) c.requires) c.self.invariant.parts c.span-span.ensures in
    let read = c.range.ensures.value ∙ ap (λ t. slice_range t c.span-span.result.start (c.span-span.result.start + c.span-span.result.length)) c.text.ensures.value in
    let same = token_is text e.entry c.span-span.result c.kind.result c.is_inside_heredoc.result c.range.result.now e.has (c.kind.ensures e.entry e.at) (c.is_inside_heredoc.ensures e.entry e.at) read in
    sym (ap (λ (s : Scanned). slice_get s.tokens c.args.i) c.self.view_is) ∙ slice_get-map (lexeme_of text) es c.args.i
    ∙ ap (option_map (lexeme_of text)) e.at ∙ ap (λ (t : Lexeme). Some t) same

pub returns-clause-start : goal.returns-clause-start
returns-clause-start c =
    let e = entry_in c.self.inside.origin.now c.self.inside.entries c.args.i c.span-span.result (subst (λ (s : Scanned). c.args.i < length s.tokens) (sym c.self.view_is) c.requires) c.self.invariant.parts c.span-span.ensures in
    subst (λ (s : Scanned). IsCharBoundary s.text c.span-span.result.start) c.self.view_is (rw (e.has.start) e.is.start)
