use Rattle.std.proofs.Common.{◌∙◌, ap, map, rules}
use Rattle.std.proofs.lemmas.Fn.{filter_same}
use Rattle.editor_modules.specs.Shown.{module_seen}
use Rattle.editor_modules.proofs.ShownLemmas.{without_seen}
use Rattle.editor_modules.proofs.shown.remove_module.Goals as goal

pub returns-clause-items : goal.returns-clause-items
returns-clause-items c =
    ap (map module_seen) (filter_same _ _ _ (λ x b f' k. search rules) _ _ c.retain.ensures.filtered)
    ∙ without_seen c.args.folder.now c.args.modules.now.items
