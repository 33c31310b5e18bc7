-- An attribute or a label weighs as much as the token of its name, and each `=` one more.
use Rattle.std.proofs.Common.{◌≡◌, ap, refl, ℕ, ◌+◌, ◌≤◌, Bool, true, false, cond, List, [], ◌∷◌, ◌++◌, arith}
use Rattle.hcl_tokens.specs.Kinds.{is}
use Rattle.hcl_tokens.specs.declared.token.Kind.TheVariants.{Assign, Ident, QuoteOpen}
use Rattle.hcl_grammar.specs.Items.{closing_quote, label_at}
use Rattle.hcl_grammar.specs.Numbered.{Numbered}
use Rattle.hcl_grammar.specs.declared.item.Item.{Item}
use Rattle.hcl_grammar.specs.declared.item.Item.TheVariants as item
use Rattle.hcl_tokens.specs.declared.token.Kind.{Kind}
use Rattle.tf_rules.proofs.ItemWeightLemmas.{IsCounted, bit}

-- the weight of the token with each number, as a name
module _ (w : ℕ → ℕ) where
  abbrev pub cost : List Item → ℕ
  cost [] = 0
  cost (item.Attribute level name first end ∷ is) = 1 + (w name + cost is)
  cost (item.Block level kind end ∷ is) = cost is
  cost (item.Label l ∷ is) = w l.first + cost is

  abbrev pub weigh : Numbered → ℕ
  weigh t = bit (is Assign t.kind) + w t.number

  cost_both : (is js : List Item) → cost (is ++ js) ≡ cost is + cost js
  cost_both [] js = omega arith
  cost_both (item.Attribute level name first end ∷ is) js = omega (arith, cost_both is js)
  cost_both (item.Block level kind end ∷ is) js = cost_both is js
  cost_both (item.Label l ∷ is) js = omega (arith, cost_both is js)

  label_costs : (n : ℕ) (k : Kind) (rest : List Numbered) → cost (label_at n k rest) ≤ w n
  label_costs n k rest = by (is Ident k) (is QuoteOpen k)
    where
      by : (b c : Bool) → cost (cond b (item.Label (record { first = n; last = n }) ∷ []) (cond c (item.Label (record { first = n; last = closing_quote rest }) ∷ []) [])) ≤ w n
      by true c = omega arith
      by false true = omega arith
      by false false = omega arith

  pub counted : IsCounted cost weigh
  counted = record {
    none = refl;
    both = cost_both;
    block = λ level kind end. refl;
    attribute = λ level end name second e. omega (arith, ap bit e);
    label = λ t ts. omega (arith, label_costs t.number t.kind ts);
  }
