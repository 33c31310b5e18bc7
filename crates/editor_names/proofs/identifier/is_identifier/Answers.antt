use Rattle.std.proofs.Common.{◌∙◌, ap, sym}
use Rattle.std.proofs.lemmas.Str.{chars_past_char}
use Rattle.std.specs.List.{list_all}
use Rattle.std.specs.Prelude.{◌&&◌}
use Rattle.std.specs.Str.{chars}
use Rattle.hcl_tokens.specs.Spelling.{are_ident, continues_ident}
use Rattle.editor_names.proofs.identifier.is_identifier.Goals as goal

pub returns-then-starts_ident : goal.returns-then-starts_ident
returns-then-starts_ident c =
    let rest = c.next.new.self.rest.now in
    c.all_continue.ensures ∙ ap (λ t. list_all continues_ident (chars t)) c.as_str.ensures
    ∙ ap (λ b. b && list_all continues_ident (chars rest)) (sym c.if-starts_ident.true ∙ c.starts_ident.ensures)
    ∙ ap are_ident (sym (chars_past_char c.args.text.now rest c.in-Some.first c.utf8.text (sym c.chars-chars.ensures.rest ∙ c.in-Some.ensures.steps.0)))
