use Rattle.std.proofs.Common.{◌∙◌, ap}
use Rattle.std.specs.List.{list_any}
use Rattle.file_tree.specs.Choices.{is_at}
use Rattle.file_tree.proofs.ChoiceLemmas.{excluded_as}
use Rattle.file_tree.proofs.choice.Chooser.is_excluded.Goals as goal

pub returns : goal.returns
returns c =
    excluded_as c.args.self.now.names.now c.args.self.now.folders.items c.args.path.now _ _ _ c.any_part.ensures
    (c.any_at.ensures ∙ ap (list_any (λ folder. is_at folder.items c.args.path.now)) c.as_slice.ensures.value) c.either.ensures
