-- Whether a reference is a self-reference: whether it stands in the block of the variable that it names.
use Rattle.std.proofs.Common.{MatchBool, ◌≡◌, ◌∙◌, ap, sym, refl, ℕ, suc, zero, ◌+◌, ◌≤◌, ◌<◌, Bool, true, false, cond, max, List, [], ◌∷◌, ◌++◌, map, length, drop, arith, subst}
use Rattle.std.specs.Prelude.{◌&&◌, ◌||◌, nat_le, nat_lt, codes, Some, None, Option, slice_get, filter, ◌==◌}
use Rattle.std.proofs.lemmas.Bool.{lt-ltb, le-ltb, lt-leb}
use Rattle.std.specs.Str.{bytes_eq}
use Rattle.tf_facts.specs.VariableBlocks.{AreDisjoint}
use Rattle.tf_facts.specs.Inner.Blocks.{block_view, ArePassed}
use Rattle.hcl_tokens.specs.Lexemes.{Lexeme}
use Rattle.hcl_grammar.specs.Numbered.{Numbered, number_tokens}
use Rattle.hcl_grammar.specs.Items.{is_closed, outline}
use Rattle.hcl_grammar.specs.Labels.{text_of}
use Rattle.hcl_grammar.specs.ItemOrder.{TopsDisjoint}
use Rattle.hcl_grammar.specs.declared.item.Item.{Item}
use Rattle.hcl_grammar.specs.declared.item.Item.TheVariants as item
use Rattle.hcl_grammar.proofs.TopBlockLemmas.{tops_disjoint}
use Rattle.tf_facts.specs.Declarations.{Attribute, Declaration, Declarer, attributes_in, by_declarer, declarer, has, is_empty, is_kind, labels_in, module_source, of_block, of_local}
use Rattle.tf_facts.specs.declared.declaration_kind.DeclarationKind.TheVariants as declares
use Rattle.tf_facts.specs.References.{VariableSpan, is_self_reference, last_of, variable_blocks, variable_blocks_of_items, variable_reference, local_reference, data_reference}
use Rattle.tf_facts.specs.declared.variable_block.VariableBlock.{VariableBlock}
use Rattle.tf_facts.specs.declared.reference.Reference.{Reference}
use Rattle.tf_facts.specs.declared.reference.Reference.TheVariants.{Variable, Local, Data}
use Rattle.tf_facts.specs.Inner.Spelled.{spelling_of}
use denote.Bor.{Bor}

and_false : (b : Bool) → (b && false) ≡ false
and_false true = refl
and_false false = refl

none_own : (own : List VariableSpan) (number : ℕ) (text : List ℕ) → ((n : List ℕ) → bytes_eq (variable_reference n) text ≡ false) → is_self_reference own number text ≡ false
none_own [] number text h = refl
none_own (o ∷ own) number text h =
    ap (λ b. (nat_le o.first number && nat_lt number o.end && b) || is_self_reference own number text) (h o.name)
    ∙ ap (λ b. b || is_self_reference own number text) (and_false (nat_le o.first number && nat_lt number o.end))
    ∙ none_own own number text h

pub own_local : (own : List VariableSpan) (number : ℕ) (name : List ℕ) → is_self_reference own number (local_reference name) ≡ false
own_local own number name = none_own own number (local_reference name) (λ n. refl)

pub own_data : (own : List VariableSpan) (number : ℕ) (kind name : List ℕ) → is_self_reference own number (data_reference kind name) ≡ false
own_data own number kind name = none_own own number (data_reference kind name) (λ n. refl)

-- ---- one block alone

lt_false : (m n : ℕ) → n ≤ m → nat_lt m n ≡ false
lt_false m n h = le-ltb m n h

lt_true : (m n : ℕ) → m < n → nat_lt m n ≡ true
lt_true m n h = lt-ltb m n h

le_false : (m n : ℕ) → n < m → nat_le m n ≡ false
le_false m n h = lt-leb m n h

pub nothing_passed : (own : List VariableSpan) → ArePassed own 0 0
nothing_passed own = record { same = λ m text h. refl }

pub still_passed : (own : List VariableSpan) (next number later : ℕ) → number ≤ later → ArePassed own next number → ArePassed own next later
still_passed own next number later h p = record { same = λ m text k. p.same m text (omega (arith, h, k)) }

at_drop : (blocks : List VariableBlock) (n : ℕ) (o : VariableBlock) → slice_get blocks n ≡ Some o → drop n (map block_view blocks) ≡ block_view o ∷ drop (n + 1) (map block_view blocks)
at_drop [] n o e = absurd (cc)
at_drop (b ∷ blocks) zero o e = let f : b ≡ o = cc in let z : 0 + 1 ≡ suc 0 = omega arith in ap (λ x. block_view x ∷ map block_view blocks) f ∙ ap (λ j. block_view o ∷ drop j (map block_view (b ∷ blocks))) (sym z)
at_drop (b ∷ blocks) (suc n) o e = let s : suc n + 1 ≡ suc (n + 1) = omega arith in at_drop blocks n o e ∙ ap (λ j. block_view o ∷ drop j (map block_view (b ∷ blocks))) (sym s)

pub one_more_passed : (blocks : List VariableBlock) (next number : ℕ) (o : VariableBlock) → slice_get blocks next ≡ Some o → o.end ≤ number → ArePassed (map block_view blocks) next number → ArePassed (map block_view blocks) (next + 1) number
one_more_passed blocks next number o e ends p = record {
  same = λ m text h.
      let rest = is_self_reference (drop (next + 1) (map block_view blocks)) m text in
      sym (ap (λ own. is_self_reference own m text) (at_drop blocks next o e)
      ∙ ap (λ b. (nat_le o.first m && b && bytes_eq (variable_reference o.name.now) text) || rest) (lt_false m o.end (omega (arith, ends, h)))
      ∙ ap (λ b. b || rest) (none (nat_le o.first m) (bytes_eq (variable_reference o.name.now) text)))
      ∙ p.same m text h;
}
  where
    none : (b c : Bool) → (b && false && c) ≡ false
    none true c = refl
    none false c = refl

-- blocks from a number on contain no token before it
none_before : (from number : ℕ) (text : List ℕ) (own : List VariableSpan) → number < from → AreDisjoint from own → is_self_reference own number text ≡ false
none_before from number text [] h a = refl
none_before from number text (o ∷ own) h a =
    ap (λ b. (b && nat_lt number o.end && bytes_eq (variable_reference o.name) text) || is_self_reference own number text) (le_false o.first number (omega (arith, h, a.0)))
    ∙ none_before (max o.first o.end) number text own (omega (arith, h, a.0)) a.1

disjoint_drop : (from n : ℕ) (own : List VariableSpan) → AreDisjoint from own → (later : ℕ) × AreDisjoint later (drop n own)
disjoint_drop from zero own a = (from, a)
disjoint_drop from (suc n) [] a = (from, tt)
disjoint_drop from (suc n) (o ∷ own) a = disjoint_drop (max o.first o.end) n own a.1

-- if the next block ends after the token, that block alone decides
pub decides : (blocks : List VariableBlock) (next number : ℕ) (o : VariableBlock) (name : List ℕ) → slice_get blocks next ≡ Some o → number < o.end → AreDisjoint 0 (map block_view blocks) → ArePassed (map block_view blocks) next number
    → (nat_le o.first number && bytes_eq o.name.now name) ≡ is_self_reference (map block_view blocks) number (variable_reference name)
decides blocks next number o name e inside a p =
    by (nat_le o.first number) (bytes_eq o.name.now name) (is_self_reference (drop (next + 1) own) number (variable_reference name)) (none_before (max o.first o.end) number (variable_reference name) (drop (next + 1) own) (omega (arith, inside)) rest.1)
    ∙ ap (λ b. (nat_le o.first number && b && bytes_eq o.name.now name) || is_self_reference (drop (next + 1) own) number (variable_reference name)) (sym (lt_true number o.end inside))
    ∙ ap (λ os. is_self_reference os number (variable_reference name)) (sym here)
    ∙ p.same number (variable_reference name) (omega arith)
  where
    own : List VariableSpan
    own = map block_view blocks

    here : drop next own ≡ block_view o ∷ drop (next + 1) own
    here = at_drop blocks next o e

    whole : (later : ℕ) × AreDisjoint later (drop next own)
    whole = disjoint_drop 0 next own a

    rest : (whole.0 ≤ o.first) × AreDisjoint (max o.first o.end) (drop (next + 1) own)
    rest = subst (λ (os : List VariableSpan). AreDisjoint whole.0 os) here whole.1

    by : (a b c : Bool) → c ≡ false → (a && b) ≡ ((a && true && b) || c)
    by true true c h = refl
    by true false c h = sym h
    by false true c h = sym h
    by false false c h = sym h

-- if no block is left, none contains the token
pub none_left : (blocks : List VariableBlock) (next number : ℕ) (text : List ℕ) → length blocks ≤ next → ArePassed (map block_view blocks) next number → is_self_reference (map block_view blocks) number text ≡ false
none_left blocks next number text h p = sym (p.same number text (omega arith)) ∙ ap (λ own. is_self_reference own number text) (all_gone blocks next h)
  where
    all_gone : (bs : List VariableBlock) (n : ℕ) → length bs ≤ n → drop n (map block_view bs) ≡ []
    all_gone [] zero h = refl
    all_gone [] (suc n) h = refl
    all_gone (b ∷ bs) zero h = absurd (omega (arith, h))
    all_gone (b ∷ bs) (suc n) h = all_gone bs n (omega (arith, h))

pub own_other : (own : List VariableSpan) (number : ℕ) (r : Reference) → ((x : Bor (List ℕ)) → r ≡ Variable x → ⊥) → is_self_reference own number (spelling_of r) ≡ false
own_other own number (Variable n) h = absurd (h n refl)
own_other own number (Local n) h = own_local own number n.now
own_other own number (Data t n) h = own_data own number t.now n.now

-- ---- the blocks of a file follow one another

disjoint_from : (from later : ℕ) (own : List VariableSpan) → from ≤ later → AreDisjoint later own → AreDisjoint from own
disjoint_from from later [] h a = tt
disjoint_from from later (o ∷ own) h a = (omega (arith, h, a.0), a.1)

-- one declaration at most
abbrev AtMostOne : List (Declaration ℕ) → Type 0
AtMostOne [] = Unit {0}
AtMostOne (d ∷ []) = Unit {0}
AtMostOne (d ∷ e ∷ ds) = ⊥

pub no_locals : (attributes : List Attribute) → filter (λ d. is_kind declares.Variable d.kind) (map of_local attributes) ≡ []
no_locals [] = refl
no_locals (a ∷ attributes) = no_locals attributes

one_declared : (ts : List Numbered) (token : ℕ) (names : List (List ℕ)) (attributes : List Attribute) (d : Option Declarer) → AtMostOne (filter (λ e. is_kind declares.Variable e.kind) (by_declarer ts token names attributes d))
one_declared ts token names attributes None = tt
one_declared ts token names attributes (Some d) = by (length names == d.labels) (is_kind declares.Variable d.kind)
  where
    one : Declaration ℕ
    one = record {
      kind = d.kind;
      names = names;
      at = token;
      described = has (codes "description") attributes;
      typed = has (codes "type") attributes;
      versioned = has (codes "version") attributes;
      source = cond (is_kind declares.Module d.kind) (module_source ts attributes) None;
    }

    by : (a b : Bool) → AtMostOne (filter (λ e. is_kind declares.Variable e.kind) (cond a (one ∷ []) []))
    by false b = tt
    by true b = single (is_kind declares.Variable d.kind)
      where
        single : (c : Bool) → AtMostOne (cond c (one ∷ []) [])
        single true = tt
        single false = tt

one_in_block : (ts : List Numbered) (token : ℕ) (names : List (List ℕ)) (attributes : List Attribute) → AtMostOne (filter (λ e. is_kind declares.Variable e.kind) (of_block ts token names attributes))
one_in_block ts token names attributes = by (bytes_eq (text_of ts token) (codes "locals")) (is_empty names)
  where
    by : (a b : Bool) → AtMostOne (filter (λ e. is_kind declares.Variable e.kind) (cond a (cond b (map of_local attributes) []) (by_declarer ts token names attributes (declarer (text_of ts token)))))
    by true true = subst (λ (ds : List (Declaration ℕ)). AtMostOne ds) (sym (no_locals attributes)) tt
    by true false = tt
    by false b = one_declared ts token names attributes (declarer (text_of ts token))

in_front : (from token end : ℕ) (ds : List (Declaration ℕ)) (own : List VariableSpan) → AtMostOne ds → from ≤ token → AreDisjoint (max token end) own
    → AreDisjoint from (map (λ d. record { name = last_of d.names; first = token; end = end }) ds ++ own)
in_front from token end [] own one h a = disjoint_from from (max token end) own (omega (arith, h)) a
in_front from token end (d ∷ []) own one h a = (h, a)
in_front from token end (d ∷ e ∷ ds) own one h a = absurd one

items_own : (ts : List Numbered) (from to : ℕ) (is : List Item) → TopsDisjoint from is to → AreDisjoint from (variable_blocks_of_items ts is)
items_own ts from to [] h = tt
items_own ts from to (item.Attribute level name first end ∷ is) h = items_own ts from to is h
items_own ts from to (item.Label l ∷ is) h = items_own ts from to is h
items_own ts from to (item.Block level token end ∷ is) h = by (is_closed level) (λ n q. items_own ts n to is q) h
  where
    by : (b : Bool) → ((n : ℕ) → TopsDisjoint n is to → AreDisjoint n (variable_blocks_of_items ts is)) → MatchBool b ((from ≤ token) × TopsDisjoint (max token end) is to) (TopsDisjoint from is to)
        → AreDisjoint from (map (λ d. record { name = last_of d.names; first = token; end = end }) (filter (λ d. is_kind declares.Variable d.kind) (cond b (of_block ts token (labels_in ts is) (attributes_in ts is)) [])) ++ variable_blocks_of_items ts is)
    by true more r = in_front from token end (filter (λ e. is_kind declares.Variable e.kind) (of_block ts token (labels_in ts is) (attributes_in ts is))) (variable_blocks_of_items ts is) (one_in_block ts token (labels_in ts is) (attributes_in ts is)) r.0 (more (max token end) r.1)
    by false more r = more from r

-- THE LAW
pub variable_blocks_are_disjoint : (tokens : List Lexeme) → AreDisjoint 0 (variable_blocks (number_tokens tokens))
variable_blocks_are_disjoint tokens = items_own (number_tokens tokens) 0 (length tokens) (outline tokens) (tops_disjoint tokens)
