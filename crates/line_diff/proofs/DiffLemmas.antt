-- The diff of lines, in turn, and the lengths of runs.
use Rattle.std.proofs.Common.{◌≡◌, ◌∙◌, ◌<◌, ◌≤◌, ◌+◌, ◌-◌, ◌++◌, [], ℕ, suc, Bool, true, false, List, ap, append_assoc, append-nil, arith, length, sym}
use Rattle.std.proofs.lemmas.List.{get_or_past}
use Rattle.std.specs.Prelude.{not, if◌then◌else◌}
use Rattle.std.specs.Str.{bytes_eq}
use Rattle.line_diff.specs.Diffs.{Texts, run_begins, body_at, count, each, head, hunk_at, is_changed, is_shown, line_at, run_length}

one_less : (n end : ℕ) → n < end → end - n ≡ suc (end - (n + 1))
one_less n end lt = omega (arith, lt)

none_left : (n end : ℕ) → end ≤ n → end - n ≡ 0
none_left n end le = omega (arith, le)

next_is : (n : ℕ) → suc n ≡ n + 1
next_is n = omega arith

and_none : (n : ℕ) → n + 0 ≡ n
and_none n = omega arith

pub each_next : (f : ℕ → List ℕ) (n end : ℕ) → n < end → each f n (end - n) ≡ f n ++ each f (n + 1) (end - (n + 1))
each_next f n end lt = ap (each f n) (one_less n end lt) ∙ ap (λ m. f n ++ each f m (end - (n + 1))) (next_is n)

-- the text of another line
pub each_goes : (f : ℕ → List ℕ) (whole items more : List ℕ) (n end : ℕ) → n < end → items ++ each f n (end - n) ≡ whole → more ≡ items ++ f n → more ++ each f (n + 1) (end - (n + 1)) ≡ whole
each_goes f whole items more n end lt before is =
    ap (λ l. l ++ each f (n + 1) (end - (n + 1))) is ∙ append_assoc items (f n) (each f (n + 1) (end - (n + 1))) ∙ ap (λ l. items ++ l) (sym (each_next f n end lt)) ∙ before

pub each_done : (f : ℕ → List ℕ) (whole items : List ℕ) (n end : ℕ) → end ≤ n → items ++ each f n (end - n) ≡ whole → items ≡ whole
each_done f whole items n end le before = sym (append-nil items) ∙ sym (ap (λ k. items ++ each f n k) (none_left n end le)) ∙ before

pub run_stops : (p : ℕ → Bool) (n end : ℕ) → n < end → p n ≡ false → run_length p n (end - n) ≡ 0
run_stops p n end lt e = ap (run_length p n) (one_less n end lt) ∙ ap (λ (v : Bool). if v then suc (run_length p (suc n) (end - (n + 1))) else 0) e

pub run_goes : (p : ℕ → Bool) (n end : ℕ) → n < end → p n ≡ true → run_length p n (end - n) ≡ suc (run_length p (n + 1) (end - (n + 1)))
run_goes p n end lt e =
    ap (run_length p n) (one_less n end lt) ∙ ap (λ (v : Bool). if v then suc (run_length p (suc n) (end - (n + 1))) else 0) e ∙ ap (λ m. suc (run_length p m (end - (n + 1)))) (next_is n)

-- the end of a run, from one line to the next
pub end_goes : (p : ℕ → Bool) (n end whole : ℕ) → n < end → p n ≡ true → n + run_length p n (end - n) ≡ whole → (n + 1) + run_length p (n + 1) (end - (n + 1)) ≡ whole
end_goes p n end whole lt e before = omega (arith, before, run_goes p n end lt e)

pub end_stops : (p : ℕ → Bool) (n end whole : ℕ) → n < end → p n ≡ false → n + run_length p n (end - n) ≡ whole → n ≡ whole
end_stops p n end whole lt e before = omega (arith, before, run_stops p n end lt e)

pub end_done : (p : ℕ → Bool) (n end whole : ℕ) → end ≤ n → n + run_length p n (end - n) ≡ whole → n ≡ whole
end_done p n end whole le before = sym (and_none n) ∙ sym (ap (λ k. n + run_length p n k) (none_left n end le)) ∙ before

-- after the last line nothing is changed
unchanged_after : (ts : Texts) (n : ℕ) → count ts ≤ n → is_changed ts n ≡ false
unchanged_after ts n le =
    let left : length ts.old ≤ n = omega (arith, le) in let right : length ts.new ≤ n = omega (arith, le) in
    ap (λ l. not (bytes_eq l (line_at ts.new n))) (get_or_past ts.old n [] left) ∙ ap (λ l. not (bytes_eq [] l)) (get_or_past ts.new n [] right)

pub none_after : (ts : Texts) (n distance len : ℕ) → len ≡ count ts → len - n ≤ distance → n < count ts → false ≡ is_changed ts (n + distance)
none_after ts n distance len e le lt = sym (unchanged_after ts (n + distance) (omega (arith, e, le, lt)))

the_run : (n run end : ℕ) → end ≡ n + run → end - n ≡ run
the_run n run end e = omega (arith, e)

-- removed lines, and then added lines
pub change_put : (f g : ℕ → List ℕ) (n run end : ℕ) (items mid new : List ℕ) → end ≡ n + run → mid ≡ items ++ each f n (end - n) → new ≡ mid ++ each g n (end - n) → new ≡ items ++ (each f n run ++ each g n run)
change_put f g n run end items mid new e first second =
    let all : end - n ≡ run = the_run n run end e in
    second ∙ ap (λ l. l ++ each g n (end - n)) first ∙ append_assoc items (each f n (end - n)) (each g n (end - n)) ∙ ap (λ k. items ++ (each f n k ++ each g n k)) all

pub hunk_put : (ts : Texts) (n end : ℕ) (items mid new : List ℕ) → run_begins (is_shown ts) n ≡ true → end ≡ n + run_length (is_shown ts) n (count ts - n) → mid ≡ items ++ head ts n end
    → new ≡ mid ++ each (body_at ts) n (end - n) → new ≡ items ++ hunk_at ts n
hunk_put ts n end items mid new here e first second =
    let run = run_length (is_shown ts) n (count ts - n) in
    second ∙ ap (λ l. l ++ each (body_at ts) n (end - n)) first ∙ append_assoc items (head ts n end) (each (body_at ts) n (end - n))
    ∙ ap (λ l. items ++ l) (ap (λ k. head ts n k ++ each (body_at ts) n (end - n)) e ∙ ap (λ k. head ts n (n + run) ++ each (body_at ts) n k) (the_run n run end e)
    ∙ sym (ap (λ (v : Bool). if v then head ts n (n + run) ++ each (body_at ts) n run else []) here))
