use Rattle.std.proofs.Common.{◌∙◌, List, ap, map}
use Rattle.std.specs.Prelude.{Option, find, option_map, string_bytes}
use Rattle.std.specs.Str.{bytes_eq}
use Rattle.editor_modules.specs.Shown.{ShownModule, module_seen, uris_shown}
use Rattle.editor_modules.specs.declared.shown.ModuleUris.{ModuleUris}
use Rattle.editor_modules.proofs.ShownLemmas.{shown_seen}
use Rattle.editor_modules.proofs.shown.Shown.uris.Goals as goal

pub returns-in-Some : goal.returns-in-Some
returns-in-Some c =
    let folder = c.args.folder.now in
    ap (map string_bytes) c.as_slice-in-Some.ensures.value
    ∙ ap (λ (found : Option ModuleUris). uris_shown (option_map module_seen found)) c.in-Some.ensures
    ∙ ap (λ (ms : List ModuleUris). uris_shown (option_map module_seen (find (λ m. bytes_eq folder m.folder.items) ms))) c.as_slice.ensures.value
    ∙ shown_seen folder c.self.inside.modules.items
    ∙ ap (λ (ms : List ShownModule). uris_shown (find (λ m. bytes_eq folder m.folder) ms)) c.self.view_is

pub returns-in-None : goal.returns-in-None
returns-in-None c =
    let folder = c.args.folder.now in
    ap (λ (found : Option ModuleUris). uris_shown (option_map module_seen found)) c.in-None.ensures
    ∙ ap (λ (ms : List ModuleUris). uris_shown (option_map module_seen (find (λ m. bytes_eq folder m.folder.items) ms))) c.as_slice.ensures.value
    ∙ shown_seen folder c.self.inside.modules.items
    ∙ ap (λ (ms : List ShownModule). uris_shown (find (λ m. bytes_eq folder m.folder) ms)) c.self.view_is
