-- The diff of two texts, as `diff -u` shows it, except that lines of the same number are compared: the format of a text
-- has its lines. Our own choice.
use Rattle.std.specs.Prelude.{ℕ, zero, suc, Bool, List, [], ◌∷◌, ◌++◌, ◌+◌, ◌-◌, ◌==◌, ◌||◌, ◌&&◌, not, codes, decimal, get_or, length, max, min, if◌then◌else◌}
use Rattle.std.specs.Str.{bytes_eq}
use Rattle.std.specs.List.{onto_first}
use Rattle.std.specs.List as list

-- the lines of a text, each with its LF; one without is at the end
abbrev pub lines_of : List ℕ → List (List ℕ)
lines_of [] = []
lines_of (b ∷ bs) = if b == 10 then (b ∷ []) ∷ lines_of bs else onto_first b (lines_of bs)

-- two texts by lines, which are numbered from 0
pub record Texts : Type 0 where
  pub old : List (List ℕ)
  pub new : List (List ℕ)

abbrev pub texts : List ℕ → List ℕ → Texts
texts old new = record { old = lines_of old; new = lines_of new }

-- after its last line a text has empty ones
abbrev pub line_at : List (List ℕ) → ℕ → List ℕ
line_at lines n = get_or lines n []

abbrev pub count : Texts → ℕ
count ts = max (length ts.old) (length ts.new)

abbrev pub is_changed : Texts → ℕ → Bool
is_changed ts n = not (bytes_eq (line_at ts.old n) (line_at ts.new n))

-- a line this far from this one is changed
abbrev pub is_near : Texts → ℕ → ℕ → Bool
is_near ts n distance = is_changed ts (n - distance) || is_changed ts (n + distance)

-- a line is shown if one of those up to three lines from it is changed
abbrev pub is_shown : Texts → ℕ → Bool
is_shown ts n = is_near ts n 0 || is_near ts n 1 || is_near ts n 2 || is_near ts n 3

-- a run of lines with this property begins here
abbrev pub run_begins : (ℕ → Bool) → ℕ → Bool
run_begins holds n = holds n && (n == 0 || not (holds (n - 1)))

-- how many of the next lines, from this one on, are in the run
abbrev pub run_length : (ℕ → Bool) → ℕ → ℕ → ℕ
run_length holds n zero = 0
run_length holds n (suc more) = if holds n then suc (run_length holds (suc n) more) else 0

-- the texts for some lines, in turn
abbrev pub each : (ℕ → List ℕ) → ℕ → ℕ → List ℕ
each text n zero = []
each text n (suc more) = text n ++ each text (suc n) more

abbrev pub ended_line : List ℕ → List ℕ
ended_line line =
    if list.ends_with (λ a b. a == b) line (codes "\n") then line
    else line ++ codes "\n\\ No newline at end of file\n"

-- a line with its sign; an empty one is none
abbrev pub signed_line : List ℕ → List ℕ → List ℕ
signed_line sign line = if length line == 0 then [] else sign ++ ended_line line

-- the run of changed lines that begins here: first all removed lines and then all added ones
abbrev pub change_at : Texts → ℕ → List ℕ
change_at ts n =
    each (λ k. signed_line (codes "-") (line_at ts.old k)) n
    (run_length (is_changed ts) n (count ts - n))
    ++ each (λ k. signed_line (codes "+") (line_at ts.new k)) n
    (run_length (is_changed ts) n (count ts - n))

-- the text for a line of a hunk: at the beginning of a run of changed lines the whole run; otherwise the line
abbrev pub body_at : Texts → ℕ → List ℕ
body_at ts n =
    if is_changed ts n then (if run_begins (is_changed ts) n then change_at ts n else [])
    else signed_line (codes " ") (line_at ts.old n)

-- the lines of a text in a hunk, from one number up to another
abbrev pub range_by : ℕ → ℕ → List ℕ
range_by start end =
    if end - start == 1 then decimal end
    else decimal (if end - start == 0 then start else start + 1)
    ++ (codes "," ++ decimal (end - start))

abbrev pub range : ℕ → ℕ → ℕ → List ℕ
range start end len = range_by (min start (min end len)) (min end len)

abbrev pub head : Texts → ℕ → ℕ → List ℕ
head ts start end =
    codes "@@ -"
    ++ (range start end (length ts.old)
    ++ (codes " +" ++ (range start end (length ts.new) ++ codes " @@\n")))

-- at the beginning of a run of shown lines, their hunk
abbrev pub hunk_at : Texts → ℕ → List ℕ
hunk_at ts n =
    if run_begins (is_shown ts) n
    then head ts n (n + run_length (is_shown ts) n (count ts - n))
    ++ each (body_at ts) n (run_length (is_shown ts) n (count ts - n))
    else []

abbrev pub hunks : Texts → List ℕ
hunks ts = each (hunk_at ts) 0 (count ts)

-- THE DIFF of a text and another, under these two names as they are to be shown
abbrev pub diff_of : List ℕ → List ℕ → List ℕ → List ℕ → List ℕ
diff_of old_name new_name old new =
    codes "--- "
    ++ (old_name ++ (codes "\n+++ " ++ (new_name ++ (codes "\n" ++ hunks (texts old new)))))
