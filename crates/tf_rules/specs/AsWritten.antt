-- The contents of a label's quotes, for the law on labels. Our own words.
use Rattle.std.specs.Prelude.{◌≡◌, ℕ, ◌+◌, ◌-◌, true, List, [], ◌∷◌, drop, take}
use Rattle.hcl_tokens.specs.Kinds.{is}
use Rattle.hcl_tokens.specs.declared.token.Kind.TheVariants as kind
use Rattle.hcl_grammar.specs.Numbered.{Numbered}
use Rattle.hcl_grammar.specs.declared.item.Label.{Label}

abbrev pub between_quotes : List Numbered → Label → List Numbered
between_quotes ts l = take (l.last - (l.first + 1)) (drop (l.first + 1) ts)

-- nothing, or one literal, which is the text
abbrev pub IsAsWritten : List Numbered → List ℕ → Type 0
IsAsWritten [] text = text ≡ []
IsAsWritten (t ∷ []) text = (is kind.Lit t.kind ≡ true) × (text ≡ t.text)
IsAsWritten (t ∷ u ∷ ts) text = ⊥
