-- The message of each fault, after the name and a colon: our own choice.
use Rattle.std.specs.Prelude.{ℕ, List, codes}
use Rattle.file_tree.specs.declared.fault.TreeFault.{TreeFault}
use Rattle.file_tree.specs.declared.fault.TreeFault.TheVariants.{NotUtf8, OtherKind, Missing, NoInput, DeadLink, NotAFile, Unreadable, UnreadableFolder, EndlessLink, LinkNotUtf8, NoFullPath, NotWritable, NoneBeside, OwnerNotKept, NotWritten, Changed, NotReplaced, WrittenInPart, NotSynced, ReadFailed, OutOfMemory}

abbrev pub tree_fault_text : TreeFault → List ℕ
tree_fault_text NotUtf8 = codes "the name isn't UTF-8"
tree_fault_text OtherKind = codes "not named as a Terraform file; --any-name formats it"
tree_fault_text Missing = codes "no such file or folder"
tree_fault_text NoInput =
    codes "no such file or folder; tffmt reads standard input, and tffmt-all formats files"
tree_fault_text DeadLink = codes "the link leads nowhere"
tree_fault_text NotAFile = codes "not a file"
tree_fault_text Unreadable = codes "cannot be read"
tree_fault_text UnreadableFolder = codes "the folder cannot be read"
tree_fault_text EndlessLink = codes "the link cannot be followed"
tree_fault_text LinkNotUtf8 = codes "the link leads to a name that isn't UTF-8"
tree_fault_text NoFullPath = codes "its full path isn't known"
tree_fault_text NotWritable = codes "cannot be written"
tree_fault_text NoneBeside = codes "no file can be made beside it"
tree_fault_text OwnerNotKept = codes "its owner cannot be kept; left as it is"
tree_fault_text NotWritten = codes "could not be written; left as it is"
tree_fault_text Changed = codes "changed while it was read; left as it is"
tree_fault_text NotReplaced = codes "cannot be replaced"
tree_fault_text WrittenInPart = codes "could not be written whole"
tree_fault_text NotSynced = codes "written, but may not be on the disk"
tree_fault_text ReadFailed = codes "read failed"
tree_fault_text OutOfMemory = codes "out of memory"
