-- The edits that make one text another. Lines end with LF, and lines of the same number are compared. Our own choice.
use Rattle.std.specs.Prelude.{ℕ, ◌≤◌, ◌+◌, ◌-◌, ◌==◌, ◌&&◌, Bool, List, [], ◌∷◌, ◌++◌, drop, length, take, if◌then◌else◌}
use Rattle.std.specs.List.{concat}
use Rattle.std.specs.Str.{bytes_eq}
use Rattle.line_diff.specs.Diffs.{lines_of}
use Rattle.text_places.specs.declared.edits.TextEdit.{TextEdit}

-- a text in place of the bytes of an old text, from one offset up to another
pub record Edit : Type 0 where
  pub from : ℕ
  pub to : ℕ
  pub text : List ℕ

abbrev pub edit_of : TextEdit → Edit
edit_of e = record { from = e.from; to = e.to; text = e.text.now }

-- no text in place of no bytes
abbrev pub nothing_at : ℕ → Edit
nothing_at at = record { from = at; to = at; text = [] }

abbrev pub is_nothing : Edit → Bool
is_nothing e = e.from == e.to && length e.text == 0

-- the edit that also puts a text in place of the bytes after its own
abbrev pub longer_edit : Edit → List ℕ → List ℕ → Edit
longer_edit e old new = record { from = e.from; to = e.to + length old; text = e.text ++ new }

abbrev pub with_edit : Edit → List Edit → List Edit
with_edit e es = if is_nothing e then es else e ∷ es

-- An edit grows over lines that differ, and ends before two that are the same. After the last line of one text the rest
-- of the other differs.
abbrev pub edits_from : Edit → List (List ℕ) → List (List ℕ) → List Edit
edits_from e (old ∷ olds) (new ∷ news) =
    if bytes_eq old new then with_edit e (edits_from (nothing_at (e.to + length old)) olds news)
    else edits_from (longer_edit e old new) olds news
edits_from e olds news = with_edit (longer_edit e (concat olds) (concat news)) []

-- THE EDITS that make an old text a new one: one for each run of lines that differ
abbrev pub line_edits : List ℕ → List ℕ → List Edit
line_edits old new = edits_from (nothing_at 0) (lines_of old) (lines_of new)

-- edits in order of the text that share no bytes, from one offset up to another
abbrev pub EditsAscend : ℕ → ℕ → List Edit → Type 0
EditsAscend at end [] = at ≤ end
EditsAscend at end (e ∷ es) = (at ≤ e.from) × (e.from ≤ e.to) × EditsAscend e.to end es

-- the rest of a text from an offset on, with these edits made
abbrev pub edited_from : ℕ → List Edit → List ℕ → List ℕ
edited_from at [] text = drop at text
edited_from at (e ∷ es) text =
    take (e.from - at) (drop at text) ++ (e.text ++ edited_from e.to es text)

-- THE TEXT with these edits made, which ascend
abbrev pub edited_text : List Edit → List ℕ → List ℕ
edited_text es text = edited_from 0 es text
