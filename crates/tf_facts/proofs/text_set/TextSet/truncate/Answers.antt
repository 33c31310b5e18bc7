use Rattle.std.proofs.Common.{◌∙◌, ap, take}
use Rattle.std.specs.Prelude.{map}
use Rattle.std.specs.String.{string_bytes}
use Rattle.tf_facts.proofs.TextLemmas.{map-take}
use Rattle.tf_facts.proofs.text_set.TextSet.truncate.Goals as goal

pub returns : goal.returns
returns c = ap (map string_bytes) c.truncate.ensures.keys ∙ map-take string_bytes c.args.len c.self.inside.texts.keys ∙ ap (take c.args.len) c.self.view_is
