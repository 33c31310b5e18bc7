-- The labels after a block, one by one.
use Rattle.std.proofs.Common.{◌≡◌, ◌∙◌, ◌+◌, ◌++◌, ◌∷◌, [], ℕ, List, ap, append-nil, append_assoc, drop, refl, sym}
use Rattle.std.specs.Prelude.{Some, slice_get}
use Rattle.hcl_grammar.specs.Labels.{label_text}
use Rattle.hcl_grammar.specs.Numbered.{Numbered}
use Rattle.hcl_grammar.specs.declared.item.Item.{Item}
use Rattle.hcl_grammar.specs.declared.item.Item.TheVariants as item
use Rattle.hcl_grammar.specs.declared.item.Label.{Label}
use Rattle.hcl_grammar.proofs.NumberedLemmas.{drop_at}
use Rattle.text_outline.specs.Symbols.{in_quotes, quoted_labels}

none_at_front : (ts : List Numbered) (i : Item) (is : List Item) → ((l : Label) → i ≡ item.Label l → ⊥) → quoted_labels ts (i ∷ is) ≡ []
none_at_front ts (item.Attribute level name first end) is other = refl
none_at_front ts (item.Block level kind end) is other = refl
none_at_front ts (item.Label l) is other = absurd (other l refl)

module _ (ts : List Numbered) (is : List Item) (n : ℕ) where
  pub labels_end : (i : Item) (name whole : List ℕ) → slice_get is n ≡ Some i → ((l : Label) → i ≡ item.Label l → ⊥) → name ++ quoted_labels ts (drop n is) ≡ whole → name ≡ whole
  labels_end i name whole e other so =
      sym (append-nil name)
      ∙ ap (λ l. name ++ l) (sym (ap (quoted_labels ts) (drop_at is n i e) ∙ none_at_front ts i (drop (n + 1) is) other))
      ∙ so

  pub labels_go_on : (l : Label) (name more whole text : List ℕ) → slice_get is n ≡ Some (item.Label l) → text ≡ label_text ts l → more ≡ name ++ in_quotes text
      → name ++ quoted_labels ts (drop n is) ≡ whole → more ++ quoted_labels ts (drop (n + 1) is) ≡ whole
  labels_go_on l name more whole text e is_text longer so =
      ap (λ m. m ++ quoted_labels ts (drop (n + 1) is)) (longer ∙ ap (λ t. name ++ in_quotes t) is_text)
      ∙ append_assoc name (in_quotes (label_text ts l)) (quoted_labels ts (drop (n + 1) is))
      ∙ ap (λ m. name ++ m) (sym (ap (quoted_labels ts) (drop_at is n (item.Label l) e)))
      ∙ so
