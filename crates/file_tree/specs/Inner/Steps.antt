-- Tidying a path, part by part.
use Rattle.std.specs.Prelude.{◌≡◌, Bool, true, false, List, [], ◌∷◌, ◌++◌, codes, if◌then◌else◌}
use Rattle.std.specs.List.{join_with_byte}
use Rattle.file_tree.specs.Files.{Name}
use Rattle.file_tree.specs.Paths.{is_step}

-- the separator before a part, after others or for the first one
abbrev pub gap : Bool → Name
gap has_step = if has_step then codes "/" else []

-- the text that a part adds
abbrev pub added_text : Bool → Name → Name
added_text has_step part = if is_step part then gap has_step ++ part else []

abbrev pub has_any : List Name → Bool
has_any [] = false
has_any (part ∷ parts) = true

-- these parts are joined, after a front
abbrev pub Joined : Name → List Name → Name → Bool → Type 0
Joined front parts path has_step = (path ≡ front ++ join_with_byte 47 parts) × (has_step ≡ has_any parts)
