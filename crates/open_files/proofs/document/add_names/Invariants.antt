use Rattle.std.proofs.Common.{◌≡◌, ◌++◌, take}
use Rattle.open_files.specs.OpenTexts.{open_names}
use Rattle.open_files.specs.Views.{open_seen}
use Rattle.open_files.proofs.document.add_names.Given as goal

abbrev pub invariant-loop-file : goal.invariant-loop-file
invariant-loop-file l = l.names.items ≡ l.initial.names.items ++ open_names l.folder (open_seen (take l.file-index l.documents))
