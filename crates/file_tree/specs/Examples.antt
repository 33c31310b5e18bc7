-- Names at work, by computation: tidied paths, and the contents of a small tree.
use Rattle.std.specs.Prelude.{◌≡◌, ℕ, refl, true, false, List, [], ◌∷◌, ◌++◌, Option, Some, None, codes, if◌then◌else◌}
use Rattle.std.specs.Str.{bytes_eq}
use Rattle.std.proofs.Common.{inl, inr, lit<}
use Rattle.file_tree.specs.Below.{HasFile, HasFolder, IsBelow, is_met, names_in_listing, surely}
use Rattle.file_tree.specs.Choices.{Chosen, chosen_by, is_excluded, is_wanted, whole_tree}
use Rattle.file_tree.specs.Files.{Files, Name}
use Rattle.file_tree.specs.Names.{is_taken}
use Rattle.file_tree.specs.Paths.{place, report_name, tidy_path, top, within}
use Rattle.file_tree.specs.declared.kind.Identity.{Identity}
use Rattle.file_tree.specs.declared.kind.Kind.{Kind}
use Rattle.file_tree.specs.declared.kind.Kind.TheVariants.{File, Folder, Other}

-- ---- paths

dots : tidy_path (codes "./a//b/./c.tf") ≡ codes "a/b/c.tf"
dots = refl

up : tidy_path (codes "../a/") ≡ codes "../a"
up = refl

from_the_root : tidy_path (codes "//etc/./x") ≡ codes "/etc/x"
from_the_root = refl

this : tidy_path (codes ".") ≡ []
this = refl

root : tidy_path (codes "/") ≡ codes "/"
root = refl

-- a given folder, as it is listed
folder : top (codes "./a//b") ≡ codes "a/b/"
folder = refl

this_folder : top (codes "./.") ≡ []
this_folder = refl

root_folder : top (codes "/") ≡ codes "/"
root_folder = refl

-- the name under which a path is reported
as_a_folder : report_name (codes "./a/b/") ≡ codes "a/b/"
as_a_folder = refl

nothing_left : report_name (codes "./") ≡ codes "./"
nothing_left = refl

-- parts of a name that lead down
down : within (codes "a/") (codes "b" ∷ codes "c" ∷ []) ≡ codes "a/b/c/"
down = refl

listed_here : place [] ≡ codes "./"
listed_here = refl

listed_there : place (codes "a/") ≡ codes "a/"
listed_there = refl

-- ---- names in folders

two_names : names_in_listing (97 ∷ 0 ∷ 98 ∷ 99 ∷ 0 ∷ []) ≡ codes "a" ∷ codes "bc" ∷ [] ∷ []
two_names = refl

-- nothing is excluded
abbrev all : Chosen
all = chosen_by false []

hidden : is_met all [] (codes ".terraform") ≡ false
hidden = refl

backup : is_met all [] (codes "main.tf~") ≡ false
backup = refl

none : is_met all [] [] ≡ false
none = refl

-- ---- a tree: `modules/net/main.tf`, `modules/net/notes.txt`, the pipe `modules/net/pipe.tf` and the folder `modules/.git`

abbrev numbered : ℕ → Identity
numbered inode = record { device = 1; inode = inode }

abbrev kind_of : Name → Option Kind
kind_of name =
    if bytes_eq name (codes "modules") then Some Folder
    else (if bytes_eq name (codes "modules/net") then Some Folder
    else (if bytes_eq name (codes "modules/.git") then Some Folder
    else (if bytes_eq name (codes "modules/net/main.tf") then Some (File (numbered 7))
    else (if bytes_eq name (codes "modules/net/notes.txt") then Some (File (numbered 8))
    else (if bytes_eq name (codes "modules/net/pipe.tf") then Some Other else None)))))

abbrev listing_of : Name → Option (List ℕ)
listing_of name =
    if bytes_eq name (codes "modules/") then Some (codes ".git" ++ (0 ∷ codes "net" ++ 0 ∷ []))
    else (if bytes_eq name (codes "modules/net/") then Some (codes "notes.txt" ++ (0 ∷ codes "main.tf" ++ (0 ∷ codes "pipe.tf" ++ 0 ∷ []))) else None)

abbrev small : Files
small = record { kind = kind_of; entry = kind_of; listing = listing_of; real = λ name. name; told = λ name. None; path = λ name. None }

-- its file is below the given path
net : HasFolder surely small all (codes "modules/") (codes "net")
net = ((codes ".git" ++ (0 ∷ codes "net" ++ 0 ∷ []), refl, (1, lit< tt, refl), refl), refl)

main : HasFile surely small all (codes "modules/net/") (codes "main.tf")
main = ((codes "notes.txt" ++ (0 ∷ codes "main.tf" ++ (0 ∷ codes "pipe.tf" ++ 0 ∷ [])), refl, (1, lit< tt, refl), refl), inl (inl (numbered 7, refl)), refl)

below : IsBelow surely small all (codes "modules") (codes "net" ∷ []) (codes "main.tf")
below = (refl, (net, tt), main, refl)

-- and so is the pipe, if such are taken
pipe : HasFile surely small whole_tree (codes "modules/net/") (codes "pipe.tf")
pipe = ((codes "notes.txt" ++ (0 ∷ codes "main.tf" ++ (0 ∷ codes "pipe.tf" ++ 0 ∷ [])), refl, (2, lit< tt, refl), refl), inr (refl, inl refl), refl)

-- the other isn't, since files of its name aren't taken; nor is anything in the hidden folder
notes : is_taken (codes "notes.txt") ≡ false
notes = refl

git : is_met all (codes "modules/") (codes ".git") ≡ false
git = refl

-- ---- exclusions, and named files

-- a name, with or without a slash, anywhere; but not a part of a name
abbrev vendor : Chosen
vendor = chosen_by false (codes "vendor/" ∷ [])

by_name : is_excluded vendor (codes "modules/vendor/main.tf") ≡ true
by_name = refl

itself : is_excluded vendor (codes "vendor") ≡ true
itself = refl

no_part : is_excluded vendor (codes "modules/vendors/main.tf") ≡ false
no_part = refl

-- a path, with everything below, and nothing of its name elsewhere
abbrev here : Chosen
here = chosen_by true (codes "./modules//net" ∷ [])

by_path : is_excluded here (codes "modules/net/main.tf") ≡ true
by_path = refl

its_folder : is_excluded here (codes "modules/net") ≡ true
its_folder = refl

elsewhere : is_excluded here (codes "old/modules/net/main.tf") ≡ false
elsewhere = refl

beside : is_excluded here (codes "modules/nets") ≡ false
beside = refl

-- the current folder, and an empty name, aren't excluded
not_here : is_excluded (chosen_by false (codes "." ∷ [] ∷ [])) (codes "a.tf") ≡ false
not_here = refl

-- named files
script : is_wanted vendor (codes "bin/env.sh") ≡ false
script = refl

lock_file : is_wanted vendor (codes ".terraform.lock.hcl") ≡ true
lock_file = refl

whatever : is_wanted here (codes "bin/env.sh") ≡ true
whatever = refl
