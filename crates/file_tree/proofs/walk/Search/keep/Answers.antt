use Rattle.std.proofs.Common.{◌∙◌, Global, Vec, ap, map, refl, ℕ}
use Rattle.std.proofs.lemmas.List.{map-append}
use Rattle.file_tree.proofs.walk.Search.keep.Goals as goal

pub returns : goal.returns
returns c = record {
  l = record { folder = c.args.folder; found = c.shrink_to_fit.new.self };
  folder_is = refl;
  found_is = c.shrink_to_fit.ensures.items;
  named = refl;
  looked = c.in-Ok-push.ensures.items;
  folders = ap (map (λ (folder : Vec ℕ Global). folder.items)) c.in-Ok.ensures.items ∙ map-append (λ (folder : Vec ℕ Global). folder.items) c.args.self.now.walk.folders.items c.args.here.folders.items;
}
