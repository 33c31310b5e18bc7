use Rattle.std.proofs.Common.{◌≡◌, ◌∙◌, ◌++◌, ◌==◌, ◌&&◌, true, false, ap, drop, length, replicate, subst, sym, take}
use Rattle.std.specs.Prelude.{nat_eq, nat_le}
use Rattle.std.specs.List.{list_all, starts_with}
use Rattle.hcl_layout.proofs.FormatLemmas.{blank_front, after, blank_parts, not_blank, other_piece, piece_found, text_front}
use Rattle.hcl_layout.proofs.print.end_if_found.Goals as goal

pub returns-then-not-begins_blank-clause-found : goal.returns-then-not-begins_blank-clause-found
returns-then-not-begins_blank-clause-found c rest p =
    let xs = c.split_at.result.1.now in
    let no_blanks : (nat_le c.args.piece.gap (length xs) && list_all (λ b. b == 32) (take c.args.piece.gap xs)) ≡ false = sym c.begins_blank.ensures ∙ c.if-not-begins_blank.true in
    not_blank xs c.args.piece.gap c.args.piece.token.text.now rest no_blanks (c.split_at.ensures.back ∙ p)

pub returns-then-not-has_text_at-clause-found : goal.returns-then-not-has_text_at-clause-found
returns-then-not-has_text_at-clause-found c rest p =
    let xs = c.split_at.result.1.now in
    let gap = c.args.piece.gap in
    let parts = blank_parts gap (length xs) (list_all (λ b. b == 32) (take gap xs)) (sym c.begins_blank.ensures ∙ c.if-not-begins_blank.false) in
    let no_text : starts_with nat_eq (drop gap xs) c.args.piece.token.text.now ≡ false =
    ap (λ l. starts_with nat_eq l c.args.piece.token.text.now) (after gap c.args.at xs c.args.bytes.now c.split_at.ensures.back) ∙ sym c.has_text_at.ensures ∙ c.if-not-has_text_at.true in
    other_piece xs gap c.args.piece.token.text.now rest (blank_front xs gap parts.0 parts.1) no_text (c.split_at.ensures.back ∙ p)

pub returns-clause-found : goal.returns-clause-found
returns-clause-found c =
    let xs = c.split_at.result.1.now in
    let gap = c.args.piece.gap in
    let text = c.args.piece.token.text.now in
    let parts = blank_parts gap (length xs) (list_all (λ b. b == 32) (take gap xs)) (sym c.begins_blank.ensures ∙ c.if-not-begins_blank.false) in
    let has_text : starts_with nat_eq (drop gap xs) text ≡ true =
    ap (λ l. starts_with nat_eq l text) (after gap c.args.at xs c.args.bytes.now c.split_at.ensures.back) ∙ sym c.has_text_at.ensures ∙ c.if-not-has_text_at.false in
    let here : xs ≡ drop c.args.at c.args.bytes.now = c.split_at.ensures.back in
    piece_found c.args.bytes.now c.args.at gap text (subst (λ l. l ≡ replicate gap 32 ++ drop gap l) here (blank_front xs gap parts.0 parts.1))
    (subst (λ l. drop gap l ≡ text ++ drop (length text) (drop gap l)) here (text_front (drop gap xs) text has_text))
