-- The labels and attributes after a block in the outline, item by item.
use Rattle.std.proofs.Common.{◌≡◌, ◌∙◌, ap, sym, refl, ℕ, suc, zero, ◌+◌, ◌<◌, ◌≤◌, Bool, true, false, cond, List, [], ◌∷◌, drop, length, arith}
use Rattle.std.specs.Prelude.{◌||◌, ◌==◌, Option, Some, None, codes, find, slice_get}
use Rattle.std.specs.Bool.{then_some}
use Rattle.std.specs.Option.{option_map, option_or}
use Rattle.std.specs.Str.{bytes_eq}
use Rattle.std.proofs.lemmas.List.{drop_all}
use Rattle.hcl_tokens.specs.Lexemes.{Lexeme}
use Rattle.hcl_grammar.specs.Numbered.{Numbered}
use Rattle.hcl_grammar.specs.Items.{outline}
use Rattle.hcl_grammar.specs.ItemOrder.{Climbs, lead, past}
use Rattle.hcl_grammar.specs.Labels.{text_of}
use Rattle.hcl_grammar.specs.declared.item.Item.{Item}
use Rattle.hcl_grammar.specs.declared.item.Item.TheVariants as item
use Rattle.hcl_grammar.proofs.NumberedLemmas.{drop_at}
use Rattle.hcl_grammar.proofs.ItemOrderLemmas.{climbs_wide, outline_climbs, spans_past}
use Rattle.tf_facts.specs.Inner.Values.{body_of, append_bodies, value_of_attribute}
use Rattle.tf_facts.specs.declared.value.Body.{Body}
use Rattle.tf_facts.specs.declared.value.Value.{Value}
use Rattle.tf_facts.specs.Declarations.{Attribute, attribute, attributes_in, has, is_inside, labels_in, with_attribute}

-- an item begins at a token
lead_within : (from to : ℕ) (is : List Item) (n : ℕ) (i : Item) → Climbs from is to → slice_get is n ≡ Some i → lead i < to
lead_within from to [] n i h e = absurd (cc)
lead_within from to (x ∷ xs) zero i h e =
    let wide : past x ≤ to = climbs_wide (past x) to xs h.1 in
    let low : lead x < past x = spans_past from to x h.0 in
    let same : x ≡ i = cc in
    let leads : lead x ≡ lead i = ap lead same in
    omega arith
lead_within from to (x ∷ xs) (suc n) i h e = lead_within (past x) to xs n i h.1 e

pub begins_within : (tokens : List Lexeme) (n : ℕ) (i : Item) → slice_get (outline tokens) n ≡ Some i → lead i < length tokens
begins_within tokens n i e = lead_within 0 (length tokens) (outline tokens) n i (outline_climbs tokens) e

module _ (ts : List Numbered) (items : List Item) (n : ℕ) (i : Item) (e : slice_get items n ≡ Some i) where
  pub labels_here : labels_in ts (drop n items) ≡ labels_in ts (i ∷ drop (n + 1) items)
  labels_here = ap (labels_in ts) (drop_at items n i e)

  pub attributes_here : attributes_in ts (drop n items) ≡ cond (is_inside i) (with_attribute (attribute ts i) (attributes_in ts (drop (n + 1) items))) []
  attributes_here = ap (attributes_in ts) (drop_at items n i e)

pub attributes_none : (ts : List Numbered) (items : List Item) (n : ℕ) → length items ≤ n → attributes_in ts (drop n items) ≡ []
attributes_none ts items n all = ap (attributes_in ts) (drop_all n items all)

-- ---- several attributes together

or_false : (b : Bool) → (b || false) ≡ b
or_false true = refl
or_false false = refl

or_assoc : (a b c : Bool) → ((a || b) || c) ≡ (a || (b || c))
or_assoc true b c = refl
or_assoc false b c = refl

first_assoc : (a b c : Option Value) → option_or (option_or a b) c ≡ option_or a (option_or b c)
first_assoc None b c = refl
first_assoc (Some x) b c = refl

abbrev saying : Bool → Bool → Bool → Option Value → Body
saying described typed versioned source = record { is_described = described; is_typed = typed; is_versioned = versioned; source = source }

same_body : (a b c d e f : Bool) (v w : Option Value) → a ≡ b → c ≡ d → e ≡ f → v ≡ w → saying a c e v ≡ saying b d f w
same_body a b c d e f v w p q r s = ap (λ x. saying x c e v) p ∙ ap (λ x. saying b x e v) q ∙ ap (λ x. saying b d x v) r ∙ ap (λ x. saying b d f x) s

pub both_assoc : (a b c : Body) → append_bodies (append_bodies a b) c ≡ append_bodies a (append_bodies b c)
both_assoc a b c =
    same_body _ _ _ _ _ _ _ _ (or_assoc a.is_described b.is_described c.is_described) (or_assoc a.is_typed b.is_typed c.is_typed) (or_assoc a.is_versioned b.is_versioned c.is_versioned)
    (first_assoc a.source b.source c.source)

pub both_none : (a : Body) → append_bodies a (body_of []) ≡ a
both_none a = same_body _ _ _ _ _ _ _ _ (or_false a.is_described) (or_false a.is_typed) (or_false a.is_versioned) (none a.source)
  where
    none : (v : Option Value) → option_or v None ≡ v
    none None = refl
    none (Some x) = refl

first_value : (a : Attribute) (more : List Attribute) (b : Bool)
    → option_map value_of_attribute (cond b (Some a) (find (λ x. bytes_eq x.name (codes "source")) more))
    ≡ option_or (option_map value_of_attribute (cond b (Some a) None)) (option_map value_of_attribute (find (λ x. bytes_eq x.name (codes "source")) more))
first_value a more true = refl
first_value a more false = refl

has_both : (wanted : List ℕ) (a : Attribute) (more : List Attribute) → has wanted (a ∷ more) ≡ (has wanted (a ∷ []) || has wanted more)
has_both wanted a more = ap (λ b. b || has wanted more) (sym (or_false (bytes_eq a.name wanted)))

with_more : (o : Option Attribute) (more : List Attribute) → body_of (with_attribute o more) ≡ append_bodies (body_of (with_attribute o [])) (body_of more)
with_more None more = refl
with_more (Some a) more =
    same_body _ _ _ _ _ _ _ _ (has_both (codes "description") a more) (has_both (codes "type") a more) (has_both (codes "version") a more) (first_value a more (bytes_eq a.name (codes "source")))

-- the body so far, together with the remaining attributes, is the body of the block
abbrev pub IsBody : List Numbered → List Item → ℕ → Body → ℕ → Type 0
IsBody ts items from said n = append_bodies said (body_of (attributes_in ts (drop n items))) ≡ body_of (attributes_in ts (drop from items))

module _ (ts : List Numbered) (items : List Item) (from : ℕ) (said : Body) (n : ℕ) (h : IsBody ts items from said n) where
  pub body_end : length items ≤ n → said ≡ body_of (attributes_in ts (drop from items))
  body_end past = sym (both_none said) ∙ ap (λ more. append_bodies said (body_of more)) (sym (attributes_none ts items n past)) ∙ h

  module _ (i : Item) (e : slice_get items n ≡ Some i) where
    pub body_over : is_inside i ≡ false → said ≡ body_of (attributes_in ts (drop from items))
    body_over outside =
        sym (both_none said)
        ∙ ap (λ more. append_bodies said (body_of more)) (sym (attributes_here ts items n i e ∙ ap (λ b. cond b (with_attribute (attribute ts i) (attributes_in ts (drop (n + 1) items))) []) outside))
        ∙ h

    pub body_more : is_inside i ≡ true → (next : Body) → next ≡ append_bodies said (body_of (with_attribute (attribute ts i) [])) → IsBody ts items from next (n + 1)
    body_more within next is =
        ap (λ b. append_bodies b (body_of (attributes_in ts (drop (n + 1) items)))) is
        ∙ both_assoc said (body_of (with_attribute (attribute ts i) [])) (body_of (attributes_in ts (drop (n + 1) items)))
        ∙ ap (append_bodies said) (sym (with_more (attribute ts i) (attributes_in ts (drop (n + 1) items))))
        ∙ ap (λ more. append_bodies said (body_of more)) (sym (attributes_here ts items n i e ∙ ap (λ b. cond b (with_attribute (attribute ts i) (attributes_in ts (drop (n + 1) items))) []) within))
        ∙ h

    -- an item that is no attribute of the block changes nothing
    pub body_silent : is_inside i ≡ true → attribute ts i ≡ None → IsBody ts items from said (n + 1)
    body_silent within none = body_more within said (sym (both_none said) ∙ ap (λ (o : Option Attribute). append_bodies said (body_of (with_attribute o []))) (sym none))

-- ---- one item

only_value : (a : Attribute) (b : Bool) → then_some b (value_of_attribute a) ≡ option_map value_of_attribute (cond b (Some a) None)
only_value a true = refl
only_value a false = refl

module _ (ts : List Numbered) (level name first end : ℕ) (i : Item) (is : i ≡ item.Attribute level name first end) where
  abbrev it : Attribute
  it = record { name = text_of ts name; token = name; first = first; end = end }

  pub says_nothing : (level == 1) ≡ false → body_of [] ≡ body_of (with_attribute (attribute ts i) [])
  says_nothing other = ap (λ b. body_of (with_attribute (cond b (Some it) None) [])) (sym other) ∙ ap (λ j. body_of (with_attribute (attribute ts j) [])) (sym is)

  pub says : (level == 1) ≡ true → (word : List ℕ) → word ≡ text_of ts name → (b : Body) → b.is_described ≡ bytes_eq word (codes "description") → b.is_typed ≡ bytes_eq word (codes "type") → b.is_versioned ≡ bytes_eq word (codes "version")
      → b.source ≡ then_some (bytes_eq word (codes "source")) (value_of_attribute it) → b ≡ body_of (with_attribute (attribute ts i) [])
  says one word same b d t v s =
      same_body _ _ _ _ _ _ _ _ (named (codes "description") b.is_described d) (named (codes "type") b.is_typed t) (named (codes "version") b.is_versioned v)
      (s ∙ ap (λ w. then_some (bytes_eq w (codes "source")) (value_of_attribute it)) same ∙ only_value it (bytes_eq (text_of ts name) (codes "source")))
      ∙ ap (λ c. body_of (with_attribute (cond c (Some it) None) [])) (sym one)
      ∙ ap (λ j. body_of (with_attribute (attribute ts j) [])) (sym is)
    where
      named : (wanted : List ℕ) (test : Bool) → test ≡ bytes_eq word wanted → test ≡ has wanted (it ∷ [])
      named wanted test e = e ∙ ap (λ w. bytes_eq w wanted) same ∙ sym (or_false (bytes_eq (text_of ts name) wanted))
