use Rattle.std.proofs.Common.{sym, ap, ◌∙◌}
use Rattle.std.specs.List.{list_all}
use Rattle.std.specs.Char.{is_ascii_hexdigit}
use Rattle.hcl_scan.proofs.LiteralLemmas.{hexes_short, hexes_are}
use Rattle.hcl_scan.proofs.literal.hex_digits.Goals as goal

pub returns-then-bytes-count : goal.returns-then-bytes-count
returns-then-bytes-count c = sym (hexes_short c.args.count c.args.bytes.now c.if-bytes-count.true)

pub returns : goal.returns
returns c = c.are_hex.ensures ∙ ap (list_all is_ascii_hexdigit) c.split_at.ensures.front ∙ sym (hexes_are c.args.count c.args.bytes.now c.if-bytes-count.false)
