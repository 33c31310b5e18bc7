-- The items of tokens, segment by segment, up to the whole outline.
use Rattle.std.proofs.Common.{◌≡◌, ◌∙◌, ap, sym, refl, ℕ, suc, ◌+◌, ◌-◌, ◌≤◌, ◌<◌, not, min, List, [], ◌∷◌, ◌++◌, append_assoc, length, take, arith}
use Rattle.std.specs.List.{flat_map}
use Rattle.std.proofs.lemmas.List.{append-nil}
use Rattle.hcl_tokens.specs.Lexemes.{Lexeme}
use Rattle.hcl_grammar.specs.Numbered.{Numbered, number_tokens, numbered_from, without_comments, is_comment}
use Rattle.hcl_grammar.specs.Items.{segments, item_of, outline}
use Rattle.hcl_syntax.specs.Inner.Segments.{words, newline_from, items_at}
use Rattle.hcl_syntax.specs.Inner.Bodies.{PushesSegment}
use Rattle.hcl_syntax.specs.declared.segments.BlockBody.{BlockBody}
use Rattle.hcl_grammar.specs.declared.item.Item.{Item}
use Rattle.hcl_grammar.proofs.NumberedLemmas.{number_of}
use Rattle.hcl_syntax.proofs.WordRangeLemmas.{words_none}
use Rattle.hcl_syntax.proofs.DeeperLemmas.{filter_short, items_more, items_at_segments}
use Rattle.hcl_syntax.proofs.FirstSegmentLemmas.{first_segment}

-- the items so far, with those of the remaining segments, are all items
pub record AreItems (ts : List Lexeme) (level from to : ℕ) (old new : List Item) (start : ℕ) : Type 0 where
  pub is : new ++ flat_map (item_of (items_at (level + 1)) level) (segments 0 (words ts start to)) ≡ old ++ items_at level (words ts from to)
  pub from_on : from ≤ start

pub items_begin : (ts : List Lexeme) (level from to : ℕ) (old : List Item) → AreItems ts level from to old old from
items_begin ts level from to old = record { is = ap (λ r. old ++ r) (sym (items_at_segments level (words ts from to))); from_on = omega arith }

pub items_step : (ts : List Lexeme) (level from to : ℕ) (old new mid next : List Item) (start end : ℕ) (b : BlockBody) → start < to → end ≡ min (newline_from ts 0 start) to
    → PushesSegment ts level start end new mid b → next ≡ mid ++ items_at (level + 1) (words ts b.first b.end) → AreItems ts level from to old new start → AreItems ts level from to old next (end + 1)
items_step ts level from to old new mid next start end b less at segment deeper h = record {
  is =
      ap (λ r. r ++ flat_map f (segments 0 (words ts (end + 1) to))) (deeper ∙ segment.is (items_at (level + 1)) refl)
      ∙ append_assoc new (f (words ts start end)) (flat_map f (segments 0 (words ts (end + 1) to)))
      ∙ ap (λ r. new ++ r) (sym (first_segment f refl ts start to end less at))
      ∙ h.is;
  from_on = omega (arith, h.from_on, at, less);
}
  where
    f : List Numbered → List Item
    f = item_of (items_at (level + 1)) level

-- a segment without a body
pub items_step_alone : (ts : List Lexeme) (level from to : ℕ) (old new mid : List Item) (start end : ℕ) (b : BlockBody) → start < to → end ≡ min (newline_from ts 0 start) to
    → PushesSegment ts level start end new mid b → b.end ≤ b.first → AreItems ts level from to old new start → AreItems ts level from to old mid (end + 1)
items_step_alone ts level from to old new mid start end b less at segment none h =
    items_step ts level from to old new mid mid start end b less at segment
    (sym (append-nil mid) ∙ ap (λ ws. mid ++ items_at (level + 1) ws) (sym (words_none ts b.first b.end none))) h

numbered_length : (n : ℕ) (xs : List Lexeme) → take (length xs) (numbered_from n xs) ≡ numbered_from n xs
numbered_length n [] = refl
numbered_length n (x ∷ xs) = ap (λ r. number_of n x ∷ r) (numbered_length (n + 1) xs)

pub words_all : (ts : List Lexeme) → words ts 0 (length ts) ≡ without_comments (number_tokens ts)
words_all ts = let z : length ts - 0 ≡ length ts = omega arith in ap (λ k. without_comments (take k (numbered_from 0 ts))) z ∙ ap without_comments (numbered_length 0 ts)

length_numbered : (n : ℕ) (xs : List Lexeme) → length (numbered_from n xs) ≡ length xs
length_numbered n [] = refl
length_numbered n (x ∷ xs) = ap suc (length_numbered (n + 1) xs)

pub outline_is : (ts : List Lexeme) → items_at 0 (words ts 0 (length ts)) ≡ outline ts
outline_is ts =
    ap (items_at 0) (words_all ts)
    ∙ items_more (length (without_comments (number_tokens ts))) (length (number_tokens ts)) 0 (without_comments (number_tokens ts)) (omega arith) (filter_short (λ t. not (is_comment t.kind)) (number_tokens ts))
