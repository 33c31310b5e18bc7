use Rattle.std.proofs.Common.{◌∙◌, ap}
use Rattle.std.specs.Prelude.{map}
use Rattle.std.specs.Str.{bytes_eq}
use Rattle.std.specs.String.{string_bytes}
use Rattle.indexmap.specs.IndexSet.{insert_key}
use Rattle.tf_facts.proofs.TextLemmas.{map-insert_key}
use Rattle.tf_facts.proofs.text_set.TextSet.insert.Goals as goal

pub returns-clause-ok : goal.returns-clause-ok
returns-clause-ok c =
    ap (map string_bytes) c.in-Ok.ensures.keys
    ∙ map-insert_key bytes_eq string_bytes c.self.inside.texts.keys c.args.text
    ∙ ap (λ ks. insert_key bytes_eq ks (string_bytes c.args.text)) c.self.view_is
