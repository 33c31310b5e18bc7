-- A choice in the form by which the code judges.
use Rattle.std.specs.Prelude.{map}
use Rattle.file_tree.specs.Choices.{Chosen}
use Rattle.file_tree.specs.declared.choice.Chooser.{Chooser}

abbrev pub chooser_view : Chooser → Chosen
chooser_view chooser = record { any_name = chooser.any_name; specials = chooser.specials; names = map (λ name. name.now) chooser.names.now; folders = map (λ folder. folder.items) chooser.folders.items }
