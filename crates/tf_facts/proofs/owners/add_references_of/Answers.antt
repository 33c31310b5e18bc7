use Rattle.std.proofs.Common.{◌∙◌, ap, map, false, List}
use Rattle.std.specs.Str.{bytes_eq}
use Rattle.indexmap.specs.IndexSet.{insert_all}
use Rattle.hcl_tokens.specs.Scanned.{Scanned}
use Rattle.hcl_grammar.specs.Numbered.{number_tokens}
use Rattle.tf_facts.specs.Inner.Blocks.{block_view}
use Rattle.tf_facts.specs.References.{variable_blocks, references_from}
use Rattle.tf_facts.specs.Seen.{seen_from}
use Rattle.tf_facts.specs.declared.variable_block.VariableBlock.{VariableBlock}
use Rattle.tf_facts.proofs.owners.add_references_of.Goals as goal

pub returns-clause-ok : goal.returns-clause-ok
returns-clause-ok c =
    c.in_ok-add_references.ensures.ok
    ∙ ap (λ (blocks : List VariableBlock). insert_all bytes_eq c.args.into.now (references_from (map block_view blocks) false (seen_from c.tokens-tokens.result.now.tokens 0))) c.deref.ensures.value
    ∙ ap (λ own. insert_all bytes_eq c.args.into.now (references_from own false (seen_from c.tokens-tokens.result.now.tokens 0))) c.in_ok-blocks.ensures.blocks
    ∙ ap (λ (s : Scanned). insert_all bytes_eq c.args.into.now (references_from (variable_blocks (number_tokens c.args.accepted.now.tokens)) false (seen_from s.tokens 0))) c.tokens-tokens.ensures.tokens
