use Rattle.std.proofs.Common.{◌≡◌, ◌∙◌, ◌+◌, ◌-◌, ◌==◌, ◌++◌, ◌∷◌, [], ℕ, List, ap, arith, drop, get_or, length-drop, refl, replicate, sym, take}
use Rattle.std.specs.List.{list_all}
use Rattle.std.proofs.lemmas.Bool.{eqb-true}
use Rattle.std.proofs.lemmas.List.{get_or-drop}
use Rattle.hcl_layout.proofs.FormatLemmas.{blank_front, piece_there}
use Rattle.hcl_layout.proofs.print.stays_in_place.Goals as goal

none_front : (xs : List ℕ) (gap : ℕ) → gap ≡ 0 → xs ≡ replicate gap 32 ++ drop gap xs
none_front xs gap e = rw e refl

one_front : (xs : List ℕ) (gap : ℕ) → gap ≡ 1 → get_or xs 0 0 ≡ 32 → xs ≡ replicate gap 32 ++ drop gap xs
one_front [] gap e f = absurd (omega arith)
one_front (x ∷ xs) gap e f = rw e (ap (λ (y : ℕ). y ∷ xs) f)

pub returns-then-piece-eq0-clause-goes : goal.returns-then-piece-eq0-clause-goes
returns-then-piece-eq0-clause-goes c t =
    let source = c.args.source.now in
    let p = c.args.piece in
    piece_there source c.args.at p.gap p.token.start p.token.text.now c.if-at-piece.false c.requires.source.0 (none_front (drop c.args.at source) p.gap c.if-piece-eq0.true)

pub returns-then-piece-eq1-clause-goes : goal.returns-then-piece-eq1-clause-goes
returns-then-piece-eq1-clause-goes c t =
    let source = c.args.source.now in
    let at = c.args.at in
    let p = c.args.piece in
    let front : get_or (drop at source) 0 0 ≡ 32 = get_or-drop at source 0 0 ∙ ap (λ n. get_or source n 0) (omega arith) ∙ eqb-true (get_or source at 0) 32 t in
    piece_there source at p.gap p.token.start p.token.text.now c.if-at-piece.false c.requires.source.0 (one_front (drop at source) p.gap c.if-piece-eq1.true front)

pub returns-clause-goes : goal.returns-clause-goes
returns-clause-goes c t =
    let source = c.args.source.now in
    let at = c.args.at in
    let gap = c.args.piece.gap in
    let start = c.args.piece.token.start in
    let there : at + gap ≡ start = c.if-at-piece.false in
    let long : start - at ≡ gap = omega (arith, there) in
    piece_there source at gap start c.args.piece.token.text.now there c.requires.source.0
    (blank_front (drop at source) gap (omega (arith, there, c.requires.source.1, length-drop at source)) (ap (λ n. list_all (λ b. b == 32) (take n (drop at source))) (sym long) ∙ sym c.are_spaces.ensures ∙ t))
