use Rattle.std.proofs.Common.{◌∙◌, ◌+◌, ◌-◌, ◌<◌, ◌≤◌, ◌^◌, ◌≡◌, ◌∷◌, ◌++◌, [], ℕ, List, ap, arith, drop, length, set, suc, zero, refl}
use Rattle.std.specs.Fmt.{decimal}
use Rattle.std.proofs.lemmas.Fmt.{length-decimal-le}
use Rattle.std.proofs.lemmas.List.{append-nil, drop_all, length-set}
use Rattle.tfrules_command.proofs.report.write_place.Goals as goal

-- a byte before the rest from a place on
put_before : (xs : List ℕ) (i v : ℕ) → i < length xs → drop i (set xs i v) ≡ v ∷ drop (i + 1) xs
put_before [] i v h = absurd (omega (arith, h))
put_before (x ∷ xs) zero v h = refl
put_before (x ∷ xs) (suc i) v h = let e : suc (i + 1) ≡ suc i + 1 = omega arith in put_before xs i v (omega (arith, h)) ∙ ap (λ k. v ∷ drop k (x ∷ xs)) e

digits : (n : ℕ) → n < 2 ^ 32 → length (decimal n) ≤ 10
digits n h = length-decimal-le 10 n (omega arith) (omega (arith, h)) (omega (arith, h))

-- the digits of both numbers, each with a colon before it
written : (room one two column line : List ℕ) (s t : ℕ) → length room ≡ 22 → 1 ≤ s → 1 ≤ t → t ≤ s - 1 → s ≤ 22 → length one ≡ length room → length two ≡ length (set one (s - 1) 58) → drop s one ≡ column ++ drop 22 room
    → drop t two ≡ line ++ drop (s - 1) (set one (s - 1) 58) → drop (t - 1) (set two (t - 1) 58) ≡ 58 ∷ (line ++ 58 ∷ column)
written room one two column line s t full some more order within same same' first second =
    let a : s - 1 < length one = omega (arith, full, some, within, same) in
    let b : t - 1 < length two = omega (arith, full, some, more, order, within, same, same', length-set one (s - 1) 58) in
    let sn : s - 1 + 1 ≡ s = omega (arith, some) in
    let tn : t - 1 + 1 ≡ t = omega (arith, more) in
    put_before two (t - 1) 58 b
    ∙ ap (λ k. 58 ∷ drop k two) tn
    ∙ ap (λ r. 58 ∷ r) second
    ∙ ap (λ r. 58 ∷ (line ++ r)) (put_before one (s - 1) 58 a ∙ ap (λ k. 58 ∷ drop k one) sn)
    ∙ ap (λ r. 58 ∷ (line ++ 58 ∷ r)) (first ∙ ap (λ r. column ++ r) (drop_all 22 room (omega (arith, full))) ∙ append-nil column)

pub write_digits-column-requires : goal.write_digits-column-requires
write_digits-column-requires c =
    let few : length (decimal c.args.at.column) ≤ 10 = digits c.args.at.column (omega arith) in
    (omega (arith, few), omega (arith, c.told-room))

pub overflow_sub-room : goal.overflow_sub-room
overflow_sub-room c =
    let few : length (decimal c.args.at.column) ≤ 10 = digits c.args.at.column (omega arith) in
    omega (arith, few, c.write_digits-column.ensures.start)

pub overflow_sub-column : goal.overflow_sub-column
overflow_sub-column c =
    let few : length (decimal c.args.at.column) ≤ 10 = digits c.args.at.column (omega arith) in
    omega (arith, few, c.write_digits-column.ensures.start)

pub write_digits-line-requires : goal.write_digits-line-requires
write_digits-line-requires c =
    let few : length (decimal c.args.at.column) ≤ 10 = digits c.args.at.column (omega arith) in
    let fewer : length (decimal c.args.at.line) ≤ 10 = digits c.args.at.line (omega arith) in
    (omega (arith, few, fewer, c.write_digits-column.ensures.start), omega (arith, few, c.write_digits-column.ensures.start, c.write_digits-column.auto.buf, c.told-room, length-set c.write_digits-column.new.buf (c.write_digits-column.result - 1) 58))

pub overflow_sub-room-2 : goal.overflow_sub-room-2
overflow_sub-room-2 c =
    let few : length (decimal c.args.at.column) ≤ 10 = digits c.args.at.column (omega arith) in
    let fewer : length (decimal c.args.at.line) ≤ 10 = digits c.args.at.line (omega arith) in
    omega (arith, few, fewer, c.write_digits-column.ensures.start, c.write_digits-line.ensures.start)

pub overflow_sub-result : goal.overflow_sub-result
overflow_sub-result c =
    let few : length (decimal c.args.at.column) ≤ 10 = digits c.args.at.column (omega arith) in
    let fewer : length (decimal c.args.at.line) ≤ 10 = digits c.args.at.line (omega arith) in
    omega (arith, few, fewer, c.write_digits-column.ensures.start, c.write_digits-line.ensures.start)

pub returns-clause-written : goal.returns-clause-written
returns-clause-written c =
    let few : length (decimal c.args.at.column) ≤ 10 = digits c.args.at.column (omega arith) in
    let fewer : length (decimal c.args.at.line) ≤ 10 = digits c.args.at.line (omega arith) in
    written c.args.room.now c.write_digits-column.new.buf c.write_digits-line.new.buf (decimal c.args.at.column) (decimal c.args.at.line) c.write_digits-column.result c.write_digits-line.result c.told-room
    (omega (arith, few, c.write_digits-column.ensures.start)) (omega (arith, few, fewer, c.write_digits-column.ensures.start, c.write_digits-line.ensures.start)) (omega (arith, c.write_digits-line.ensures.start))
    (omega (arith, c.write_digits-column.ensures.start)) c.write_digits-column.auto.buf c.write_digits-line.auto.buf
    c.write_digits-column.ensures.written c.write_digits-line.ensures.written
