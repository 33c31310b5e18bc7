-- Between the quotes of a label there is nothing, or one literal; and no dot is beside labels and the names of
-- attributes.
use Rattle.std.proofs.Common.{◌≡◌, ℕ, zero, suc, ◌+◌, ◌-◌, ◌<◌, List, [], ◌∷◌, length, arith, refl, subst, inl}
use Rattle.std.specs.Prelude.{Some, None, slice_get, not}
use Rattle.hcl_tokens.specs.Lexemes.{Lexeme}
use Rattle.hcl_tokens.specs.Scans.{Scans}
use Rattle.hcl_grammar.specs.Items.{outline, segments}
use Rattle.hcl_grammar.specs.Labels.{label_text}
use Rattle.tf_rules.specs.AsWritten.{IsAsWritten, between_quotes}
use Rattle.hcl_grammar.specs.Numbered.{Numbered, is_comment, number_tokens, without_comments}
use Rattle.hcl_grammar.specs.Verdict.{IsAccepted}
use Rattle.hcl_grammar.specs.declared.item.Item.{Item}
use Rattle.hcl_grammar.specs.declared.item.Item.TheVariants as item
use Rattle.hcl_grammar.specs.declared.item.Label.{Label}
use Rattle.hcl_grammar.proofs.ItemOrderLemmas.{Rises, rises_filter, rises_numbered}
use Rattle.tf_rules.proofs.TurnLemmas.{line, depth}
use Rattle.tf_rules.proofs.SegmentTurnLemmas.{AllGood, Good, Segments, cut, items_good}
use Rattle.tf_rules.proofs.ReadingLemmas.{whole_file}

good_at : (all : List Numbered) (is : List Item) (n : ℕ) (i : Item) → AllGood all is → slice_get is n ≡ Some i → Good all i
good_at all [] n i h e = absurd (let f : None ≡ Some i = e in cc)
good_at all (j ∷ is) zero i h e = let same : j ≡ i = cc in subst (λ x. Good all x) same h.0
good_at all (j ∷ is) (suc n) i h e = good_at all is n i h.1 e

pub file_good : (text : List ℕ) (tokens : List Lexeme) → Scans text tokens → IsAccepted tokens → AllGood (number_tokens tokens) (outline tokens)
file_good text tokens scans accepted =
    let all = number_tokens tokens in
    let led = whole_file text tokens scans accepted in
    let z : depth (line 0) - 0 ≡ 0 = omega arith in
    let ps : Segments all 0 (line 0) (segments 0 (without_comments all)) = subst (λ (n : ℕ). Segments all 0 (line 0) (segments n (without_comments all))) z (cut all 0 (line 0) (without_comments all) led.0 (omega arith) led.1 led.2) in
    let rises : Rises 0 (without_comments all) (0 + length tokens) = rises_filter (λ t. not (is_comment t.kind)) 0 (0 + length tokens) all (rises_numbered 0 tokens) in
    items_good all (length all) 0 0 (line 0) 0 (0 + length tokens) (without_comments all) (inl refl) rises ps

pub one_literal : (text : List ℕ) (tokens : List Lexeme) → Scans text tokens → IsAccepted tokens → (i : ℕ) (l : Label) → slice_get (outline tokens) i ≡ Some (item.Label l) → l.first < l.last
    → IsAsWritten (between_quotes (number_tokens tokens) l) (label_text (number_tokens tokens) l)
one_literal text tokens scans accepted i l e = (good_at (number_tokens tokens) (outline tokens) i (item.Label l) (file_good text tokens scans accepted) e).0
