use Rattle.std.proofs.Common.{◌∙◌, ap, sym}
use Rattle.std.specs.List.{list_any}
use Rattle.std.specs.Str.{bytes_eq}
use Rattle.std.specs.String.{string_bytes}
use Rattle.tf_facts.proofs.TextLemmas.{list_any-map}
use Rattle.tf_facts.proofs.text_set.TextSet.contains.Goals as goal

pub returns : goal.returns
returns c = c.contains.ensures ∙ sym (list_any-map (bytes_eq c.args.text.now) string_bytes c.self.inside.texts.keys) ∙ ap (list_any (bytes_eq c.args.text.now)) c.self.view_is
