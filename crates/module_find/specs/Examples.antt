-- Names of modules at work, by computation.
use Rattle.std.specs.Prelude.{◌≡◌, refl, true, false, [], codes, Some, None}
use Rattle.file_tree.specs.declared.fault.TreeFault.TheVariants.{DeadLink, Missing, NotAFile, Unreadable, UnreadableFolder}
use Rattle.module_find.specs.Modules.{breaks_by, folder_of, is_gone_by, is_lost_by, is_module_file, name_fault, stands_by}

deep : folder_of (codes "a/b/main.tf") ≡ codes "a/b/"
deep = refl

here : folder_of (codes "main.tf") ≡ []
here = refl

root : folder_of (codes "/main.tf") ≡ codes "/"
root = refl

tofu : is_module_file (codes "a/main.tofu") ≡ true
tofu = refl

variables : is_module_file (codes "x.tfvars") ≡ false
variables = refl

-- a deleted or unreadable file stands for its folder, and so does an unreadable folder
deleted : stands_by (Some Missing) (codes "a/main.tf") ≡ true
deleted = refl

unreadable : stands_by (Some Unreadable) (codes "a/main.tf") ≡ true
unreadable = refl

closed : stands_by (Some UnreadableFolder) (codes "a/") ≡ true
closed = refl

-- a name that doesn't exist stands for none, and an entry that is no file of a module breaks none
mistyped : stands_by (Some Missing) (codes "modulse") ≡ false
mistyped = refl

beside : breaks_by (Some Unreadable) (codes "a/notes.txt") ≡ false
beside = refl

-- a pipe under the name of a file of a module can't be linted
pipe : name_fault None (codes "a/p.tf") ≡ Some NotAFile
pipe = refl

other_pipe : name_fault None (codes "a/p") ≡ None
other_pipe = refl

-- a deleted file isn't reported if it was named, nor a dead link if no module has such a file
not_told : is_gone_by (Some Missing) (codes "a/main.tf") ≡ true
not_told = refl

dead_values : is_lost_by (Some DeadLink) (codes "a/x.tfvars") ≡ false
dead_values = refl

dead_file : is_lost_by (Some DeadLink) (codes "a/x.tf") ≡ true
dead_file = refl

dead_operand : is_lost_by (Some DeadLink) (codes "modules") ≡ true
dead_operand = refl
