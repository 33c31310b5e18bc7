use Rattle.std.proofs.Common.{◌≡◌, ap, inl, rules}
use Rattle.std.specs.Prelude.{Err}
use Rattle.file_tree.specs.Files.{Name}
use Rattle.hcl_source.specs.Devices.{Tells}
use Rattle.hcl_source.specs.declared.fault.LoadError.TheVariants.{Fault}
use Rattle.editor_names.specs.Views.{query_seen}
use Rattle.editor_names.proofs.SearchLemmas.{fault_told, file_of_text}
use Rattle.editor_names.proofs.file.file_ranges.Goals as goal

pub returns-in-Ok-loaded-clause-is : goal.returns-in-Ok-loaded-clause-is
returns-in-Ok-loaded-clause-is g c =
    let files = g.T.Tree.files c.args.tree.now in
    let text = c.in-Ok-loaded.source in
    let told = files.told (files.real c.args.name.now) in
    let is : Tells told text = search rules in
    file_of_text (query_seen c.args.query) told text c.source_ranges.result is c.source_ranges.ensures

pub returns-in-Err-Fault-clause-is : goal.returns-in-Err-Fault-clause-is
returns-in-Err-Fault-clause-is g c =
    let files = g.T.Tree.files c.args.tree.now in
    let name = c.args.name.now in
    let bytes = c.as_bytes.result.now in
    let l = c.read_from-loaded.ensures.loaded in
    let is : c.read_from-loaded.result ≡ Err (Fault c.in-Err-Fault.field-0-0) = search rules in
    let t = fault_told (files.told (files.real name)) (files.told (files.real bytes)) _ _ l.0 c.read_from-loaded.result c.in-Err-Fault.field-0-0 is c.in-Ok.ensures.bytes (ap (λ (n : Name). files.told (files.real n)) c.as_bytes.ensures.value) l.1 l.3 in
    (t.0, t.1, (c.in-Err-Fault.field-0-0, inl t.2))
