-- The labels of a block, token by token.
use Rattle.std.proofs.Common.{◌≡◌, ◌∙◌, ap, sym, refl, true≢false, ℕ, ◌+◌, ◌<◌, Bool, true, false, cond, not, List, [], ◌∷◌, ◌++◌, append_assoc}
use Rattle.std.specs.Prelude.{Some, slice_get}
use Rattle.std.proofs.lemmas.List.{append-nil}
use Rattle.hcl_tokens.specs.Kinds.{is}
use Rattle.hcl_tokens.specs.Lexemes.{Lexeme}
use Rattle.hcl_tokens.specs.declared.token.Kind.{Kind}
use Rattle.hcl_tokens.specs.declared.token.Kind.TheVariants as kind
use Rattle.hcl_grammar.specs.Numbered.{Numbered, is_comment}
use Rattle.hcl_grammar.specs.Items.{label_at, labels}
use Rattle.hcl_syntax.specs.Inner.Segments.{words}
use Rattle.hcl_grammar.specs.declared.item.Item.{Item}
use Rattle.hcl_grammar.proofs.NumberedLemmas.{number_of}
use Rattle.hcl_syntax.proofs.WordRangeLemmas.{words_step, words_here, open_word}

comment_label : (n : ℕ) (k : Kind) (rest : List Numbered) → is_comment k ≡ true → label_at n k rest ≡ []
comment_label n kind.LineComment rest e = refl
comment_label n kind.InlineComment rest e = refl
comment_label n _ rest e = absurd (true≢false (sym e))

-- the labels so far, with the remaining ones, are all labels
abbrev pub AreLabels : List Lexeme → ℕ → ℕ → List Item → List Item → ℕ → Type 0
AreLabels ts from to old new n = new ++ labels (words ts n to) ≡ old ++ labels (words ts from to)

module _ (ts : List Lexeme) (from to : ℕ) (old new : List Item) (n : ℕ) where
  pub labels_brace : (t : Lexeme) → slice_get ts n ≡ Some t → n < to → is kind.BraceOpen t.kind ≡ true → AreLabels ts from to old new n → new ≡ old ++ labels (words ts from to)
  labels_brace t e less brace h =
      sym (append-nil new)
      ∙ ap (λ b. new ++ cond b [] (label_at n t.kind (words ts (n + 1) to) ++ labels (words ts (n + 1) to))) (sym brace)
      ∙ ap (λ ws. new ++ labels ws) (sym (words_here ts n to t e less (open_word t.kind brace)))
      ∙ h

  pub labels_more : (t : Lexeme) (next : List Item) → slice_get ts n ≡ Some t → n < to → is kind.BraceOpen t.kind ≡ false → next ≡ new ++ label_at n t.kind (words ts (n + 1) to) → AreLabels ts from to old new n
      → AreLabels ts from to old next (n + 1)
  labels_more t next e less brace put h =
      ap (λ r. r ++ labels W) put
      ∙ append_assoc new (label_at n t.kind W) (labels W)
      ∙ ap (λ r. new ++ r) (by (is_comment t.kind) refl)
      ∙ ap (λ ws. new ++ labels ws) (sym (words_step ts n to t e less))
      ∙ h
    where
      W : List Numbered
      W = words ts (n + 1) to

      by : (b : Bool) → is_comment t.kind ≡ b → label_at n t.kind W ++ labels W ≡ labels (cond (not (is_comment t.kind)) (number_of n t ∷ W) W)
      by true comment = ap (λ r. r ++ labels W) (comment_label n t.kind W comment) ∙ ap (λ b. labels (cond (not b) (number_of n t ∷ W) W)) (sym comment)
      by false word = ap (λ b. cond b [] (label_at n t.kind W ++ labels W)) (sym brace) ∙ ap (λ b. labels (cond (not b) (number_of n t ∷ W) W)) (sym word)
