use Rattle.std.proofs.Common.{◌∙◌, ap, length, sym}
use Rattle.std.specs.Str.{chars}
use Rattle.std.proofs.lemmas.Str.{Chars-Drains, encodes-chars}
use Rattle.source_snippet.proofs.line.char_count.Goals as goal

pub returns : goal.returns
returns c =
    let ran = c.count.ensures.ran in
    let text = c.args.text.now in
    ran.2 ∙ ap length (Chars-Drains (chars text) ran.0 c.chars.result (encodes-chars text c.utf8.text ∙ sym c.chars.ensures.rest) ran.1)
