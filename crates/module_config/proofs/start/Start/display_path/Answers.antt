use Rattle.std.proofs.Common.{◌∙◌, ap, length, sym}
use Rattle.module_config.proofs.LookLemmas.{shown_rest, shown_whole}
use Rattle.module_config.proofs.start.Start.display_path.Goals as goal

pub returns-then-not-starts_with : goal.returns-then-not-starts_with
returns-then-not-starts_with c =
    shown_whole c.args.self.now c.in-At.current c.args.path.now c.as_slice.result.now c.starts_with.result c.in-At.is c.as_slice.ensures.value c.starts_with.ensures.value c.if-not-starts_with.true

pub returns : goal.returns
returns c =
    shown_rest c.args.self.now c.in-At.current c.args.path.now c.as_slice.result.now c.len.result c.starts_with.result c.in-At.is c.as_slice.ensures.value (c.len.ensures ∙ sym c.as_slice.ensures.len ∙ ap length c.as_slice.ensures.value) c.starts_with.ensures.value c.if-not-starts_with.false
