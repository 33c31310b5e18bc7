use Rattle.std.proofs.Common.{◌≡◌, ◌++◌, drop, string_bytes}
use Rattle.hcl_grammar.specs.Numbered.{number_tokens}
use Rattle.text_outline.specs.Symbols.{block_name, quoted_labels}
use Rattle.text_outline.proofs.name.block_name.Given as goal

abbrev pub invariant-loop-number : goal.invariant-loop-number
invariant-loop-number l =
    string_bytes l.name ++ quoted_labels (number_tokens l.accepted.tokens) (drop l.number l.items) ≡ block_name (number_tokens l.accepted.tokens) l.kind (drop l.from l.items)
