-- The bytes waiting on a page before they are written.
use Rattle.std.specs.Prelude.{◌≡◌, ◌++◌, ℕ, Bool, true, false, List, Option}
use Rattle.command_line.specs.Rows.{TookBy}

-- a text waits too, or the page is as it was
abbrev pub Holds : Bool → List ℕ → List ℕ → List ℕ → Type 0
Holds true old new text = new ≡ old ++ text
Holds false old new text = new ≡ old

-- The waiting bytes went out, and then a text, or a part of them waits: bytes taken from now on, of those waiting and
-- of any rest, complete those of the whole. Or a write failed, after a part of them.
abbrev pub GoesOut : Bool → Option (List ℕ) → Option (List ℕ) → List ℕ → List ℕ → List ℕ → Type 0
GoesOut false before now old new text = (rest : List ℕ) (after : Option (List ℕ)) (f : Bool) → TookBy f now after (new ++ rest) → TookBy f before after (old ++ (text ++ rest))
GoesOut true before now old new text = TookBy true before now (old ++ text)
