-- THE SNIPPET for a place in a text, as it is shown below a message: the line, and a caret below the column. Our own choice.
use Rattle.std.specs.Prelude.{ℕ, zero, suc, ◌-◌, ◌==◌, ◌||◌, true, false, Bool, List, [], ◌++◌, codes, chars, encode_utf8_all, length, map, nat_lt, replicate, take, if◌then◌else◌}
use Rattle.std.specs.Int.{is_in_range}
use Rattle.std.specs.List.{after_first, before_first, concat}
use Rattle.unicode_segmentation.specs.Grapheme.{graphemes}
use Rattle.unicode_width.specs.Width.{str_width}
use Rattle.hcl_source.specs.declared.fault.Position.{Position}

-- the most characters of a shown line: a longer one fills a terminal many times over
abbrev pub longest_line : ℕ
longest_line = 240

-- the text after this many lines, each of which ends at its LF
abbrev pub after_lines : ℕ → List ℕ → List ℕ
after_lines zero text = text
after_lines (suc n) text = after_first (λ b. b == 10) (after_lines n text)

-- the line of this number, the first being 1
abbrev pub nth_line : ℕ → List ℕ → List ℕ
nth_line number text = before_first (λ b. b == 10) (after_lines (number - 1) text)

-- a terminal may treat it as more than a character: a control, a line end, or one that turns the direction of writing
abbrev pub is_hidden : ℕ → Bool
is_hidden c =
    nat_lt c 32 || is_in_range 127 159 c || is_in_range 0x2028 0x202E c
    || is_in_range 0x2066 0x2069 c

-- the character that is shown for one: a blank for a hidden one
abbrev pub shown_char : ℕ → ℕ
shown_char c = if is_hidden c then 32 else c

-- a part of a line as it is shown
abbrev pub visible_part : List ℕ → List ℕ
visible_part part = encode_utf8_all (map shown_char (chars part))

-- the first extended grapheme clusters of a line, at most this many
abbrev pub first_clusters : ℕ → List ℕ → List ℕ
first_clusters count line = concat (take count (graphemes true line))

-- the part of a line before a column; columns count clusters, as in a place
abbrev pub before_column : ℕ → List ℕ → List ℕ
before_column column line = first_clusters (column - 1) line

-- blanks as wide as a part of a line is on a terminal
abbrev pub blanks_below : List ℕ → List ℕ
blanks_below part = replicate (str_width false (chars (visible_part part))) 32

-- a line, and below it a caret at a column
abbrev pub with_caret : ℕ → List ℕ → List ℕ
with_caret column line =
    codes "  "
    ++ (visible_part line ++ (codes "\n  " ++ (blanks_below (before_column column line) ++ codes "^\n")))

-- that snippet for a line that is shown: it has a character or more, and not too many
abbrev pub snippet_of_line : ℕ → List ℕ → List ℕ
snippet_of_line column line =
    if length line == 0 || nat_lt longest_line (length (chars line)) then []
    else with_caret column line

abbrev pub snippet : List ℕ → Position → List ℕ
snippet text at = snippet_of_line at.column (nth_line at.line text)

-- the snippet, if it is to be shown
abbrev pub snippet_if : Bool → List ℕ → Position → List ℕ
snippet_if shows text at = if shows then snippet text at else []
