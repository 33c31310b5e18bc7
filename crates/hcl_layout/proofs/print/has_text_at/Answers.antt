use Rattle.std.proofs.Common.{◌∙◌, ap, drop, length, sym, take}
use Rattle.hcl_layout.proofs.FormatLemmas.{front_text}
use Rattle.hcl_layout.proofs.print.has_text_at.Goals as goal

pub returns-then-piece-at : goal.returns-then-piece-at
returns-then-piece-at c =
    let text = c.args.piece.token.text.now in
    sym (front_text (drop c.args.at c.args.bytes.now) text (c.requires.source.0 ∙ ap (λ k. take (length text) (drop k c.args.bytes.now)) (c.if-piece-at.true)))
