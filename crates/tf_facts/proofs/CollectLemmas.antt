-- A walk that inserts references into a set, token by token.
use Rattle.std.proofs.Common.{◌≡◌, ◌∙◌, ap, sym, refl, drop, ℕ, suc, zero, ◌+◌, ◌-◌, ◌≤◌, ◌<◌, ◌⊎◌, inl, inr, ◌≢◌, arith, Bool, true, false, cond, List, [], ◌∷◌, ◌++◌, length, append_assoc, subst}
use Rattle.std.specs.Prelude.{◌&&◌, None, Option, Some, slice_get}
use Rattle.std.specs.List.{list_any}
use Rattle.std.specs.Str.{bytes_eq}
use Rattle.std.proofs.lemmas.List.{append-nil}
use Rattle.std.proofs.lemmas.List.Sums.{fold-append}
use Rattle.indexmap.specs.IndexSet.{insert_all, insert_key}
use Rattle.std.proofs.lemmas.Bool.{cases_eq}
use Rattle.hcl_tokens.specs.Kinds.{is}
use Rattle.hcl_tokens.specs.declared.token.Kind.{Kind}
use Rattle.hcl_tokens.specs.declared.token.Kind.TheVariants as kind
use Rattle.hcl_tokens.specs.Lexemes.{Lexeme}
use Rattle.hcl_grammar.specs.Numbered.{Numbered, is_passed_over}
use Rattle.tf_facts.specs.References.{VariableSpan, by_name, name_after, reference_at, references_from, unless_self_reference}
use Rattle.tf_facts.specs.Inner.Idents.{AreNoIdents}
use Rattle.tf_facts.specs.Seen.{after_dot, number_of, seen_from}
use Rattle.tf_facts.specs.Inner.Blocks.{ArePassed, Extends}
use Rattle.tf_facts.proofs.PatternLemmas.{there_is}
use Rattle.tf_facts.proofs.SeenLemmas.{after_past, after_seen, seen_here, seen_past, seen_none}

-- ---- the tokens after a word

no_dot : (d : Numbered) (rest : List Numbered) → is kind.Dot d.kind ≡ false → name_after (d ∷ rest) ≡ None
no_dot d [] e = refl
no_dot d (n ∷ rest) e = ap (λ b. cond (b && is kind.Ident n.kind) (Some n) None) e

module _ (ts : List Lexeme) (n : ℕ) where
  pub unnamed_at_end : length ts ≤ n → name_after (seen_from ts n) ≡ None
  unnamed_at_end past = ap name_after (seen_none ts n past)

  pub unnamed : (t : Lexeme) → slice_get ts n ≡ Some t → is kind.Dot t.kind ≡ false → is_passed_over t.kind ≡ false → name_after (seen_from ts n) ≡ None
  unnamed t e dot seen = ap name_after (seen_here ts n t e seen) ∙ no_dot (number_of n t) (seen_from ts (n + 1)) dot

cond-same : {X : Type 0} (b : Bool) (x : X) → cond b x x ≡ x
cond-same true x = refl
cond-same false x = refl

-- ---- the walk

-- the set, together with the remaining references, is what it is to become; and it begins with its old texts
pub record IsCollected (own : List VariableSpan) (ts : List Lexeme) (old new : List (List ℕ)) (after_dot : Bool) (n : ℕ) : Type 0 where
  pub left : insert_all bytes_eq new (references_from own after_dot (seen_from ts n)) ≡ insert_all bytes_eq old (references_from own false (seen_from ts 0))
  pub kept : Extends old new

-- the loop has come to token `n`, and has passed `next` blocks
pub record IsWalked (own : List VariableSpan) (ts : List Lexeme) (old new : List (List ℕ)) (after_dot : Bool) (next count n : ℕ) : Type 0 where
  pub collected : IsCollected own ts old new after_dot n
  pub passed : ArePassed own next n
  pub within : next ≤ count

module _ (own : List VariableSpan) (ts : List Lexeme) (old : List (List ℕ)) where
  pub begins : IsCollected own ts old old false 0
  begins = record { left = refl; kept = record { more = []; is = sym (append-nil old) } }

  pub ends : (new : List (List ℕ)) (after_dot : Bool) (n : ℕ) → length ts ≤ n → IsCollected own ts old new after_dot n
      → new ≡ insert_all bytes_eq old (references_from own false (seen_from ts 0))
  ends new after_dot n past h = ap (λ s. insert_all bytes_eq new (references_from own after_dot s)) (sym (seen_none ts n past)) ∙ h.left

  pub passes : (new : List (List ℕ)) (after_dot : Bool) (n : ℕ) (t : Lexeme) → slice_get ts n ≡ Some t → is_passed_over t.kind ≡ true → IsCollected own ts old new after_dot n
      → IsCollected own ts old new after_dot (n + 1)
  passes new after_dot n t e passed h = record {
    left = ap (λ s. insert_all bytes_eq new (references_from own after_dot s)) (sym (seen_past ts n t e passed)) ∙ h.left;
    kept = h.kept;
  }

  -- after a dot no reference is inserted
  pub skips : (new : List (List ℕ)) (n : ℕ) (t : Lexeme) → slice_get ts n ≡ Some t → is_passed_over t.kind ≡ false → IsCollected own ts old new true n
      → IsCollected own ts old new (is kind.Dot t.kind) (n + 1)
  skips new n t e seen h = record {
    left = ap (λ s. insert_all bytes_eq new (references_from own true s)) (sym (seen_here ts n t e seen)) ∙ h.left;
    kept = h.kept;
  }

  extends_key : (new : List (List ℕ)) (key : List ℕ) → Extends old new → Extends old (insert_key bytes_eq new key)
  extends_key new key h = by (list_any (bytes_eq key) new)
    where
      by : (b : Bool) → Extends old (cond b new (new ++ key ∷ []))
      by true = h
      by false = record { more = h.more ++ key ∷ []; is = ap (λ r. r ++ key ∷ []) h.is ∙ append_assoc old h.more (key ∷ []) }

  extends_all : (new xs : List (List ℕ)) → Extends old new → Extends old (insert_all bytes_eq new xs)
  extends_all new [] h = h
  extends_all new (x ∷ xs) h = extends_all (insert_key bytes_eq new x) xs (extends_key new x h)

  pub puts : (new next : List (List ℕ)) (n : ℕ) (t : Lexeme) → slice_get ts n ≡ Some t → is_passed_over t.kind ≡ false
      → next ≡ insert_all bytes_eq new (unless_self_reference own n (reference_at (number_of n t ∷ seen_from ts (n + 1))))
      → IsCollected own ts old new false n → IsCollected own ts old next (is kind.Dot t.kind) (n + 1)
  puts new next n t e seen put h =
      let here = unless_self_reference own n (reference_at (number_of n t ∷ seen_from ts (n + 1))) in
      let rest = references_from own (is kind.Dot t.kind) (seen_from ts (n + 1)) in
      let P : List (List ℕ) → Type 0 = λ s. Extends old s in
      record {
        left =
            ap (λ s. insert_all bytes_eq s rest) put
            ∙ sym (fold-append (insert_key bytes_eq) new here rest)
            ∙ ap (λ s. insert_all bytes_eq new (references_from own false s)) (sym (seen_here ts n t e seen))
            ∙ h.left;
        kept = rw put (extends_all new here h.kept);
      }

  -- after a dot no reference is inserted, with the loop's variables given by equations
  pub skipped : (new into : List (List ℕ)) (after dot : Bool) (n : ℕ) (t : Lexeme) → slice_get ts n ≡ Some t → is_passed_over t.kind ≡ false → after ≡ true → dot ≡ is kind.Dot t.kind → into ≡ new
      → IsCollected own ts old new after n → IsCollected own ts old into dot (n + 1)
  skipped new into after dot n t e seen is_after is same h =
      let P : Bool → Type 0 = λ b. IsCollected own ts old new b n in
      rw same (rw is (skips new n t e seen (subst P is_after h)))

  pub collected : (new next into : List (List ℕ)) (after dot : Bool) (n : ℕ) (t : Lexeme) → slice_get ts n ≡ Some t → is_passed_over t.kind ≡ false → after ≡ false → dot ≡ is kind.Dot t.kind → into ≡ next
      → next ≡ insert_all bytes_eq new (unless_self_reference own n (reference_at (number_of n t ∷ seen_from ts (n + 1))))
      → IsCollected own ts old new after n → IsCollected own ts old into dot (n + 1)
  collected new next into after dot n t e seen free is same put h =
      let P : Bool → Type 0 = λ b. IsCollected own ts old new b n in
      rw same (rw is (puts new next n t e seen put (subst P free h)))

  -- a token that is no identifier begins no reference
  pub no_word : (new : List (List ℕ)) (after dot : Bool) (n : ℕ) (t : Lexeme) → slice_get ts n ≡ Some t → is_passed_over t.kind ≡ false → is kind.Ident t.kind ≡ false → dot ≡ is kind.Dot t.kind → IsCollected own ts old new after n
      → IsCollected own ts old new dot (n + 1)
  no_word new true dot n t e seen none is_dot h = skipped new new true dot n t e seen refl is_dot refl h
  no_word new false dot n t e seen none is_dot h =
      collected new new new false dot n t e seen refl is_dot refl
      (sym (ap (λ b. insert_all bytes_eq new (unless_self_reference own n (cond b (by_name t.text (name_after (seen_from ts (n + 1))) (drop 2 (seen_from ts (n + 1)))) None))) none)) h

  -- a word without a name after a dot begins no reference
  pub no_name : (new : List (List ℕ)) (after dot : Bool) (n : ℕ) (t : Lexeme) → slice_get ts n ≡ Some t → is_passed_over t.kind ≡ false → name_after (seen_from ts (n + 1)) ≡ None → after ≡ false → dot ≡ is kind.Dot t.kind
      → IsCollected own ts old new after n → IsCollected own ts old new dot (n + 1)
  no_name new after dot n t e seen none free same h =
      collected new new new after dot n t e seen free same refl
      (sym (ap (λ (o : Option Numbered). insert_all bytes_eq new (unless_self_reference own n (cond (is kind.Ident t.kind) (by_name t.text o (drop 2 (seen_from ts (n + 1)))) None))) none
      ∙ ap (λ (r : Option (List ℕ)). insert_all bytes_eq new (unless_self_reference own n r)) (cond-same (is kind.Ident t.kind) None))) h

  -- a token that is no identifier begins no reference, whether it is significant or not
  pub no_ident : (new : List (List ℕ)) (n : ℕ) (t : Lexeme) → slice_get ts n ≡ Some t → is kind.Ident t.kind ≡ false → IsCollected own ts old new (after_dot ts n) n → IsCollected own ts old new (after_dot ts (n + 1)) (n + 1)
  no_ident new n t e none h = by (is_passed_over t.kind) refl
    where
      by : (b : Bool) → is_passed_over t.kind ≡ b → IsCollected own ts old new (after_dot ts (n + 1)) (n + 1)
      by true passed = let P : Bool → Type 0 = λ b. IsCollected own ts old new b (n + 1) in subst P (sym (after_past ts n (n + 1) refl t e passed)) (passes new (after_dot ts n) n t e passed h)
      by false seen = no_word new (after_dot ts n) (after_dot ts (n + 1)) n t e seen none (after_seen ts n (n + 1) refl t e seen) h

  -- a word without a name after a dot begins no reference, whatever is before it
  pub no_after : (new : List (List ℕ)) (after dot : Bool) (n : ℕ) (t : Lexeme) → slice_get ts n ≡ Some t → is_passed_over t.kind ≡ false → name_after (seen_from ts (n + 1)) ≡ None → dot ≡ is kind.Dot t.kind
      → IsCollected own ts old new after n → IsCollected own ts old new dot (n + 1)
  no_after new true dot n t e seen none is_dot h = skipped new new true dot n t e seen refl is_dot refl h
  no_after new false dot n t e seen none is_dot h = no_name new false dot n t e seen none refl is_dot h

  -- several tokens that are no identifiers begin no reference
  pub no_idents : (new : List (List ℕ)) (n d m : ℕ) → m ≡ n + d → m ≤ length ts → AreNoIdents ts n m → IsCollected own ts old new (after_dot ts n) n → IsCollected own ts old new (after_dot ts m) m
  no_idents new n zero m at within none h = let e : n ≡ m = omega (arith, at) in let P : ℕ → Type 0 = λ k. IsCollected own ts old new (after_dot ts k) k in subst P e h
  no_idents new n (suc d) m at within none h =
      no_idents new (n + 1) d m (omega (arith, at)) within (λ k u from below here. none k u (omega (arith, from)) below here)
      (no_ident new n here.0 here.1 (none n here.0 (omega arith) (omega (arith, at)) here.1) h)
    where
      here : (t : Lexeme) × (slice_get ts n ≡ Some t)
      here = there_is ts n (omega (arith, at, within))

  pub over_no_idents : (new : List (List ℕ)) (n m : ℕ) → n ≤ m → m ≤ length ts → AreNoIdents ts n m → IsCollected own ts old new (after_dot ts n) n → IsCollected own ts old new (after_dot ts m) m
  over_no_idents new n m order within none h = no_idents new n (m - n) m (omega (arith, order)) within none h

pub no_ident_more : (ts : List Lexeme) (from n : ℕ) (k : Kind) → ((t : Lexeme) → slice_get ts n ≡ Some t → k ≡ t.kind) → is kind.Ident k ≡ false → AreNoIdents ts from n → AreNoIdents ts from (n + 1)
no_ident_more ts from n k is_k none h = λ i t after below here. by i t after below here (cases_eq i n)
  where
    by : (i : ℕ) (t : Lexeme) → from ≤ i → i < n + 1 → slice_get ts i ≡ Some t → (i ≡ n) ⊎ (i ≢ n) → is kind.Ident t.kind ≡ false
    by i t after below here (inl e) = ap (is kind.Ident) (sym (is_k t (ap (slice_get ts) (sym e) ∙ here))) ∙ none
    by i t after below here (inr ne) = h i t after (omega (arith, below, ne)) here
