-- The item of a segment, by its first two words.
use Rattle.std.proofs.Common.{◌≡◌, ◌∙◌, ap, sym, refl, ℕ, ◌+◌, false, cond, List, [], ◌∷◌, ◌++◌, arith}
use Rattle.hcl_tokens.specs.Kinds.{is}
use Rattle.hcl_tokens.specs.declared.token.Kind.TheVariants as kind
use Rattle.hcl_tokens.specs.Lexemes.{Lexeme}
use Rattle.hcl_grammar.specs.Numbered.{Numbered, end_of}
use Rattle.hcl_grammar.specs.Items.{block, item_of}
use Rattle.hcl_syntax.specs.Inner.Segments.{IsFirst, words}
use Rattle.hcl_syntax.specs.Inner.Bodies.{PushesBlock, PushesSegment}
use Rattle.hcl_syntax.specs.declared.segments.BlockBody.{BlockBody}
use Rattle.hcl_syntax.specs.declared.words.NumberedKind.{NumberedKind}
use Rattle.hcl_grammar.specs.declared.item.Item.{Item}
use Rattle.hcl_grammar.specs.declared.item.Item.TheVariants as item

abbrev head_of : NumberedKind → List ℕ → Numbered
head_of w text = record { number = w.number; kind = w.kind; text = text }

pub puts_alone : (ts : List Lexeme) (level from to : ℕ) (old new : List Item) (name : NumberedKind) (b : BlockBody) → IsFirst ts from to name → words ts (name.number + 1) to ≡ [] → PushesBlock ts level name.number to old new b
    → PushesSegment ts level from to old new b
puts_alone ts level from to old new name b f none h = record {
  is = λ inner nothing.
      h.is inner (head_of name f.text) refl
      ∙ ap (λ ws. old ++ block inner level (head_of name f.text) ws) none
      ∙ ap (λ ws. old ++ item_of inner level (head_of name f.text ∷ ws)) (sym none)
      ∙ ap (λ ws. old ++ item_of inner level ws) (sym f.first);
  within = h.within;
  deeper = λ less. omega (arith, h.deeper, f.from_on);
  begins = h.begins;
}

pub puts_labelled : (ts : List Lexeme) (level from to : ℕ) (old new : List Item) (name second : NumberedKind) (b : BlockBody) → IsFirst ts from to name → IsFirst ts (name.number + 1) to second → is kind.Assign second.kind ≡ false
    → PushesBlock ts level name.number to old new b → PushesSegment ts level from to old new b
puts_labelled ts level from to old new name second b f s plain h = record {
  is = λ inner nothing.
      h.is inner (head_of name f.text) refl
      ∙ ap (λ ws. old ++ block inner level (head_of name f.text) ws) s.first
      ∙ ap (λ c. old ++ cond c (item.Attribute level name.number (second.number + 1) (end_of (head_of second s.text ∷ words ts (second.number + 1) to)) ∷ []) (block inner level (head_of name f.text) (head_of second s.text ∷ words ts (second.number + 1) to))) (sym plain)
      ∙ ap (λ ws. old ++ item_of inner level (head_of name f.text ∷ ws)) (sym s.first)
      ∙ ap (λ ws. old ++ item_of inner level ws) (sym f.first);
  within = h.within;
  deeper = λ less. omega (arith, h.deeper, f.from_on);
  begins = h.begins;
}
