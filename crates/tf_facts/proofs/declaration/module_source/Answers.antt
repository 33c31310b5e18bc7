use Rattle.std.proofs.Common.{◌∙◌, ap, sym, refl}
use Rattle.std.specs.Option.{option_map}
use Rattle.hcl_tokens.specs.Scanned.{Scanned}
use Rattle.tf_facts.specs.Declarations.{plain_text}
use Rattle.tf_facts.specs.Sources.{source_of}
use Rattle.tf_facts.specs.Inner.Values.{plain_text_of, values}
use Rattle.tf_facts.proofs.DeclarationLemmas.{source_found}
use Rattle.tf_facts.proofs.declaration.module_source.Goals as goal

pub returns : goal.returns
returns c = λ a e.
    source_found c.args.accepted.now.tokens a c.in-Some.value c.in-Some-plain_text.plain (record { source = c.source_of.result; at = c.in-Some-plain_text.plain.quote })
    (e ∙ c.in-Some.is)
    (ap (option_map plain_text_of) (sym c.in-Some-plain_text.is) ∙ c.plain_text.ensures ∙ ap (λ (s : Scanned). plain_text (values s.tokens c.in-Some.value.first c.in-Some.value.end)) c.tokens-tokens.ensures.tokens)
    (c.source_of.ensures ∙ ap source_of c.as_bytes.ensures.value) refl
