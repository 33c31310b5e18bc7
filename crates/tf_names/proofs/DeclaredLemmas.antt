-- What holds of all declarations of a file, given that it holds of a declaration at each word and at each label.
use Rattle.std.proofs.Common.{◌≡◌, refl, ℕ, suc, zero, Bool, true, false, cond, List, [], ◌∷◌, ◌++◌, arith, map}
use Rattle.std.specs.Prelude.{All, codes}
use Rattle.std.specs.Str.{bytes_eq}
use Rattle.std.proofs.lemmas.List.Elements.{All-append}
use Rattle.hcl_grammar.specs.Items.{is_closed}
use Rattle.hcl_grammar.specs.Labels.{text_of}
use Rattle.hcl_grammar.specs.Numbered.{number_tokens}
use Rattle.hcl_grammar.specs.declared.item.Item.{Item}
use Rattle.hcl_grammar.specs.declared.item.Item.TheVariants as item
use Rattle.hcl_grammar.specs.declared.item.Label.{Label}
use Rattle.hcl_tokens.specs.Lexemes.{Lexeme}
use Rattle.tf_facts.specs.Declarations.{Attribute, attributes_in}
use Rattle.tf_names.specs.Names.{Name, Occurrence, Stretch, Variable, Local, Data, Module, attribute_stretches, declaration_of, declared_by_items, declared_in_block, label_stretch, label_stretches, last_part, word_stretch}

pub all_none : {X : Type 0} (P : X → Type 0) → All P []
all_none P k d h = absurd (omega (arith, h))

all_one : {X : Type 0} (P : X → Type 0) (x : X) → P x → All P (x ∷ [])
all_one P x p zero d h = p
all_one P x p (suc k) d h = absurd (omega (arith, h))

pub all_more : {X : Type 0} (P : X → Type 0) (x : X) (xs : List X) → P x → All P xs → All P (x ∷ xs)
all_more P x xs p ps zero d h = p
all_more P x xs p ps (suc k) d h = ps k d (omega (arith, h))

-- `Q` of a stretch gives `P` of a declaration of the name that ends with its text
module _ (Q : Stretch → Type 0) (P : Occurrence → Type 0) (declared : (name : Name) (s : Stretch) → last_part name ≡ s.text → Q s → P (declaration_of name s)) where
  abbrev Each : List Stretch → Type 0
  Each [] = Unit {0}
  Each (s ∷ ss) = Q s × Each ss

  each_local : (attributes : List Stretch) → Each attributes → All P (map (λ n. declaration_of (Local n.text) n) attributes)
  each_local [] h = all_none P
  each_local (s ∷ ss) h = all_more P (declaration_of (Local s.text) s) (map (λ n. declaration_of (Local n.text) n) ss) (declared (Local s.text) s refl h.0) (each_local ss h.1)

  in_block : (word : List ℕ) (ls attributes : List Stretch) → Each ls → Each attributes → All P (declared_in_block word ls attributes)
  in_block word [] attributes h k = by (bytes_eq word (codes "locals"))
    where
      by : (b : Bool) → All P (cond b (map (λ n. declaration_of (Local n.text) n) attributes) [])
      by true = each_local attributes k
      by false = all_none P
  in_block word (n ∷ []) attributes h k = by (bytes_eq word (codes "variable")) (bytes_eq word (codes "module"))
    where
      by : (b c : Bool) → All P (cond b (declaration_of (Variable n.text) n ∷ []) (cond c (declaration_of (Module n.text) n ∷ []) []))
      by true c = all_one P (declaration_of (Variable n.text) n) (declared (Variable n.text) n refl h.0)
      by false true = all_one P (declaration_of (Module n.text) n) (declared (Module n.text) n refl h.0)
      by false false = all_none P
  in_block word (t ∷ n ∷ []) attributes h k = by (bytes_eq word (codes "data"))
    where
      by : (b : Bool) → All P (cond b (declaration_of (Data t.text n.text) n ∷ []) [])
      by true = all_one P (declaration_of (Data t.text n.text) n) (declared (Data t.text n.text) n refl h.1.0)
      by false = all_none P
  in_block word (t ∷ n ∷ m ∷ ls) attributes h k = all_none P

  module _ (tokens : List Lexeme) (words : (n : ℕ) → Q (word_stretch tokens n)) (labels : (l : Label) → Q (label_stretch tokens l)) where
    each_label : (items : List Item) → Each (label_stretches tokens items)
    each_label [] = tt
    each_label (item.Attribute level name first end ∷ items) = tt
    each_label (item.Block level token end ∷ items) = tt
    each_label (item.Label l ∷ items) = (labels l, each_label items)

    each_word : (attributes : List Attribute) → Each (map (λ a. word_stretch tokens a.token) attributes)
    each_word [] = tt
    each_word (a ∷ attributes) = (words a.token, each_word attributes)

    pub each_declared : (items : List Item) → All P (declared_by_items tokens items)
    each_declared [] = all_none P
    each_declared (item.Attribute level name first end ∷ items) = each_declared items
    each_declared (item.Label l ∷ items) = each_declared items
    each_declared (item.Block level token end ∷ items) = by (is_closed level) (each_declared items)
      where
        by : (b : Bool) → All P (declared_by_items tokens items) → All P (cond b (declared_in_block (text_of (number_tokens tokens) token) (label_stretches tokens items) (attribute_stretches tokens items)) [] ++ declared_by_items tokens items)
        by true more =
            All-append P (declared_in_block (text_of (number_tokens tokens) token) (label_stretches tokens items) (attribute_stretches tokens items)) (declared_by_items tokens items)
            (in_block (text_of (number_tokens tokens) token) (label_stretches tokens items) (attribute_stretches tokens items) (each_label items) (each_word (attributes_in (number_tokens tokens) items)))
            more
        by false more = more
