-- Which files are taken, and which paths are excluded. A path is compared as it is shown. Our own choice.
use Rattle.std.specs.Prelude.{◌-◌, ◌==◌, ◌&&◌, ◌||◌, Bool, true, false, List, [], codes, length, map, nat_lt, take, if◌then◌else◌}
use Rattle.std.specs.List.{list_any, slice_split}
use Rattle.std.specs.Str.{bytes_eq}
use Rattle.file_tree.specs.Files.{Name}
use Rattle.file_tree.specs.Names.{begins, ends, is_taken}
use Rattle.file_tree.specs.Paths.{is_step, top}
use Rattle.file_tree.specs.declared.choice.Choice.{Choice}

-- whether a named file is taken whatever its name, and whether pipes, sockets and devices are taken if the walk meets
-- them; and the exclusions, by names and by paths of folders
pub record Chosen : Type 0 where
  pub any_name : Bool
  pub specials : Bool
  pub names : List Name
  pub folders : List Name

-- THE CHOICE by exclusions, each of which is a name or a path
abbrev pub chosen_by : Bool → List Name → Chosen
chosen_by any_name excluded =
    record { any_name = any_name; specials = false; names = excluded; folders = map top excluded }

-- with pipes, sockets and devices
abbrev pub with_specials : Bool → Chosen → Chosen
with_specials specials chosen = record chosen { specials = specials }

-- nothing is excluded
abbrev pub whole_tree : Chosen
whole_tree = with_specials true (chosen_by false [])

-- nor is any given name
abbrev pub any : Chosen
any = with_specials true (chosen_by true [])

abbrev pub choice_view : Choice → Chosen
choice_view choice =
    with_specials choice.specials
    (chosen_by choice.any_name (map (λ name. name.now) choice.excluded.now))

-- ---- exclusions

-- a name without a `/` at its end
abbrev pub without_slash : Name → Name
without_slash name = if ends (codes "/") name then take (length name - 1) name else name

-- a part of a path has this name
abbrev pub has_part : Name → Name → Bool
has_part name path =
    list_any (λ part. is_step part && bytes_eq part (without_slash name))
    (slice_split (λ b. b == 47) path)

-- a path is that of a folder, or is below it; the current folder isn't excluded
abbrev pub is_at : Name → Name → Bool
is_at folder path = nat_lt 0 (length folder)
    && (bytes_eq path (without_slash folder) || begins folder path)

-- EXCLUDED is a path with one of the names, one of the paths, and everything below
abbrev pub is_excluded : Chosen → Name → Bool
is_excluded chosen path =
    list_any (λ name. has_part name path) chosen.names
    || list_any (λ folder. is_at folder path) chosen.folders

-- ---- named files

-- A NAMED FILE is taken if the walk takes such names, or if its name ends with `.hcl`
abbrev pub is_wanted : Chosen → Name → Bool
is_wanted chosen name = chosen.any_name || (is_taken name || ends (codes ".hcl") name)
