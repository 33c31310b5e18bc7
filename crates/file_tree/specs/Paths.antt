-- Joined names. The name of a folder that is listed ends with `/`; that of the current one is empty. Our own choice.
use Rattle.std.specs.Prelude.{◌==◌, ◌&&◌, ◌||◌, not, Bool, List, [], ◌∷◌, ◌++◌, codes, filter, length, if◌then◌else◌}
use Rattle.std.specs.Str.{bytes_eq}
use Rattle.std.specs.List.{join_with_byte, slice_split}
use Rattle.file_tree.specs.Files.{Name}
use Rattle.file_tree.specs.Names.{begins, ends}

-- ---- given paths

-- a part of a path that leads somewhere: `.` and an empty one don't
abbrev pub is_step : Name → Bool
is_step part = not (length part == 0) && not (bytes_eq part (codes "."))

-- the parts of a path that do
abbrev pub steps : Name → List Name
steps path = filter is_step (slice_split (λ b. b == 47) path)

abbrev pub root : Name → Name
root path = if begins (codes "/") path then codes "/" else []

-- A PATH TIDIED: `./a//b/` is `a/b`, and a `/` at its front stays
abbrev pub tidy_path : Name → Name
tidy_path path = root path ++ join_with_byte 47 (steps path)

-- A GIVEN FOLDER, as it is listed: `./a//b` is `a/b/`
abbrev pub top : Name → Name
top path =
    if length (tidy_path path) == 0 || bytes_eq (tidy_path path) (codes "/") then tidy_path path
    else tidy_path path ++ codes "/"

-- the name under which a path is reported that can't be looked at: tidied, unless nothing is left of it. A `/` at its
-- end stays: `file/` isn't `file`
abbrev pub report_name : Name → Name
report_name path =
    if length (tidy_path path) == 0 then path
    else tidy_path path ++ (if ends (codes "/") path then codes "/" else [])

-- ---- folders below

-- the name under which a folder is listed
abbrev pub place : Name → Name
place folder = if length folder == 0 then codes "./" else folder

-- a folder in a folder
abbrev pub inside : Name → Name → Name
inside folder part = (folder ++ part) ++ codes "/"

-- the folder to which these parts of a name lead from a folder
abbrev pub within : Name → List Name → Name
within folder [] = folder
within folder (part ∷ parts) = within (inside folder part) parts
