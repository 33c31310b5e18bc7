-- The patterns of tokens, from the last token to the first.
use Rattle.std.proofs.Common.{◌≡◌, ◌∙◌, ap, sym, subst, refl, ℕ, suc, zero, ◌+◌, ◌<◌, ◌≤◌, ◌-◌, arith, Bool, true, false, cond, List, [], ◌∷◌, ◌++◌, length, reverse, get_or}
use Rattle.std.specs.Prelude.{◌&&◌, Some, slice_get}
use Rattle.std.proofs.lemmas.List.{append-nil, reverse-append}
use Rattle.hcl_tokens.specs.Lexemes.{Lexeme}
use Rattle.hcl_tokens.specs.declared.token.Kind.{Kind}
use Rattle.hcl_tokens.specs.declared.token.Kind.TheVariants as kind
use Rattle.hcl_grammar.specs.Numbered.{Numbered, is_passed_over}
use Rattle.hcl_tokens.specs.Kinds.{is}
use Rattle.tf_facts.specs.Patterns.{begins_with_close, after_closer, is_index, is_wrapped, numbers_where}
use Rattle.tf_facts.specs.Inner.Closings.{AreAhead, role_of, quote_from}
use Rattle.tf_facts.specs.Seen.{number_of, seen_from}
use Rattle.tf_facts.specs.declared.role.Role.{Role}
use Rattle.tf_facts.specs.declared.role.Role.TheVariants as part
use Rattle.tf_facts.proofs.ClosingLemmas.{Says, at_closer, at_dot, at_opener, at_plain, at_quote, closes, opens, passes}
use Rattle.tf_facts.proofs.SeenLemmas.{seen_here, seen_none, seen_past}

pub there_is : (ts : List Lexeme) (n : ℕ) → n < length ts → (t : Lexeme) × (slice_get ts n ≡ Some t)
there_is [] n h = absurd (omega arith)
there_is (t ∷ ts) zero h = (t, refl)
there_is (t ∷ ts) (suc n) h = there_is ts n (omega arith)

-- ---- the tokens ahead

abbrev pub number_first : List Numbered → Bool
number_first [] = false
number_first (t ∷ ts) = is kind.Number t.kind

abbrev pub wrapped_first : List Numbered → Bool
wrapped_first [] = false
wrapped_first (t ∷ ts) = is kind.InterpOpen t.kind && begins_with_close (after_closer 0 ts)

and_false : (b : Bool) → (b && false) ≡ false
and_false true = refl
and_false false = refl

and_then : (a b c : Bool) → ((a && b) && c) ≡ (a && (b && c))
and_then true b c = refl
and_then false b c = refl

index_here : (t : Numbered) (rest : List Numbered) → is_index (t ∷ rest) ≡ (is kind.Dot t.kind && number_first rest)
index_here t [] = sym (and_false (is kind.Dot t.kind))
index_here t (x ∷ rest) = refl

wrapped_here : (t : Numbered) (rest : List Numbered) → is_wrapped (t ∷ rest) ≡ (is kind.QuoteOpen t.kind && wrapped_first rest)
wrapped_here t [] = sym (and_false (is kind.QuoteOpen t.kind))
wrapped_here t (x ∷ rest) = and_then (is kind.QuoteOpen t.kind) (is kind.InterpOpen x.kind) (begins_with_close (after_closer 0 rest))

-- ---- the walk

-- one more number, if the test holds of its token
found_more : (test : List Numbered → Bool) (t : Numbered) (rest : List Numbered) (b : Bool) (old new : List ℕ) → b ≡ test (t ∷ rest) → new ≡ old ++ cond b (t.number ∷ []) [] → reverse old ≡ numbers_where test rest
    → reverse new ≡ numbers_where test (t ∷ rest)
found_more test t rest b old new is pushed h =
    ap reverse pushed
    ∙ reverse-append old (cond b (t.number ∷ []) [])
    ∙ ap (λ r. r ++ reverse old) (turned b)
    ∙ ap (λ r. cond b (t.number ∷ []) [] ++ r) h
    ∙ ap (λ v. cond v (t.number ∷ []) [] ++ numbers_where test rest) is
  where
    turned : (v : Bool) → reverse (cond v (t.number ∷ []) []) ≡ cond v (t.number ∷ []) []
    turned true = refl
    turned false = refl

pub record IsWalkedBack (ts : List Lexeme) (indexes interpolations : List ℕ) (openers : List Bool) (next : Kind) (closed : Bool) (n : ℕ) : Type 0 where
  pub within : n ≤ length ts
  pub closes : AreAhead ts openers n
  pub quote : is kind.QuoteClose next ≡ quote_from ts n
  pub number : is kind.Number next ≡ number_first (seen_from ts n)
  pub wrapped : (is kind.InterpOpen next && closed) ≡ wrapped_first (seen_from ts n)
  pub dots : reverse indexes ≡ numbers_where is_index (seen_from ts n)
  pub quotes : reverse interpolations ≡ numbers_where is_wrapped (seen_from ts n)

pub walk_begins : (ts : List Lexeme) (n : ℕ) (indexes interpolations : List ℕ) (openers : List Bool) (next : Kind) (closed : Bool) → n ≡ length ts → indexes ≡ [] → interpolations ≡ [] → openers ≡ [] → next ≡ kind.Newline
    → IsWalkedBack ts indexes interpolations openers next closed n
walk_begins ts n indexes interpolations openers next closed at is_empty ips ops none = record {
  within = omega (arith, at);
  closes = λ d. ap (λ o. get_or (reverse o) d false) ops ∙ sym (ap (λ s. begins_with_close (after_closer d s)) end);
  quote = ap (is kind.QuoteClose) none ∙ sym (ap begins_with_close end);
  number = ap (is kind.Number) none ∙ sym (ap number_first end);
  wrapped = ap (λ k. is kind.InterpOpen k && closed) none ∙ sym (ap wrapped_first end);
  dots = ap reverse is_empty ∙ sym (ap (numbers_where is_index) end);
  quotes = ap reverse ips ∙ sym (ap (numbers_where is_wrapped) end);
}
  where
    end : seen_from ts n ≡ []
    end = seen_none ts n (omega (arith, at))

-- a step from `m` to `n`, at a token of the kind `k`
module _ (ts : List Lexeme) (n m : ℕ) (at : m ≡ n + 1) (indexes interpolations : List ℕ) (openers : List Bool) (next : Kind) (closed : Bool) (before : IsWalkedBack ts indexes interpolations openers next closed m) (k : Kind)
    (kind_is : (t : Lexeme) → slice_get ts n ≡ Some t → k ≡ t.kind) where
  h : IsWalkedBack ts indexes interpolations openers next closed (n + 1)
  h = let P : ℕ → Type 0 = λ i. IsWalkedBack ts indexes interpolations openers next closed i in subst P at before

  there : (t : Lexeme) × (slice_get ts n ≡ Some t)
  there = there_is ts n (omega (arith, h.within))

  abbrev t : Lexeme
  t = there.0

  e : slice_get ts n ≡ Some t
  e = there.1

  is_k : k ≡ t.kind
  is_k = kind_is t e

  part_is : (p : Role) → role_of k ≡ p → role_of t.kind ≡ p
  part_is p is_p = ap role_of (sym is_k) ∙ is_p

  -- a token that is passed over
  pub walk_past : is_passed_over k ≡ true → IsWalkedBack ts indexes interpolations openers next closed n
  walk_past passed = record {
    within = omega (arith, h.within);
    closes = λ d. h.closes d ∙ ap (λ s. begins_with_close (after_closer d s)) same;
    quote = h.quote ∙ ap begins_with_close same;
    number = h.number ∙ ap number_first same;
    wrapped = h.wrapped ∙ ap wrapped_first same;
    dots = h.dots ∙ ap (numbers_where is_index) same;
    quotes = h.quotes ∙ ap (numbers_where is_wrapped) same;
  }
    where
      same : seen_from ts (n + 1) ≡ seen_from ts n
      same = sym (seen_past ts n t e (ap is_passed_over (sym is_k) ∙ passed))

  -- a significant token
  walk_over : (dot quote opener closer : Bool) (move : ℕ → ℕ) (dots quotes : List ℕ) (rest : List Bool) (here : Bool) → Says t.kind dot quote opener closer move
      → dots ≡ indexes ++ cond (dot && is kind.Number next) (n ∷ []) [] → quotes ≡ interpolations ++ cond (quote && (is kind.InterpOpen next && closed)) (n ∷ []) []
      → (opener ≡ true → here ≡ get_or (reverse openers) 0 false) → AreAhead ts rest n
      → IsWalkedBack ts dots quotes rest k here n
  walk_over dot quote opener closer move dots quotes rest here m dots_is quotes_is known after = record {
    within = omega (arith, h.within);
    closes = after;
    quote = ap (is kind.QuoteClose) is_k ∙ sym (ap begins_with_close cut);
    number = ap (is kind.Number) is_k ∙ sym (ap number_first cut);
    wrapped = ap (λ j. is kind.InterpOpen j && here) is_k ∙ m.opened here (get_or (reverse openers) 0 false) known ∙ ap (λ b. is kind.InterpOpen t.kind && b) (h.closes 0) ∙ sym (ap wrapped_first cut);
    dots = found_more is_index (number_of n t) (seen_from ts (n + 1)) (dot && is kind.Number next) indexes dots
        (ap (λ b. dot && b) h.number ∙ ap (λ b. b && number_first (seen_from ts (n + 1))) (sym m.dot_is) ∙ sym (index_here (number_of n t) (seen_from ts (n + 1)))) dots_is h.dots
        ∙ sym (ap (numbers_where is_index) cut);
    quotes = found_more is_wrapped (number_of n t) (seen_from ts (n + 1)) (quote && (is kind.InterpOpen next && closed)) interpolations quotes
        (ap (λ b. quote && b) h.wrapped ∙ ap (λ b. b && wrapped_first (seen_from ts (n + 1))) (sym m.quote_is) ∙ sym (wrapped_here (number_of n t) (seen_from ts (n + 1)))) quotes_is h.quotes
        ∙ sym (ap (numbers_where is_wrapped) cut);
  }
    where
      cut : seen_from ts n ≡ number_of n t ∷ seen_from ts (n + 1)
      cut = seen_here ts n t e m.seen

  pub walk_plain : role_of k ≡ part.Plain → IsWalkedBack ts indexes interpolations openers k closed n
  walk_plain p =
      let says = at_plain t.kind (part_is part.Plain p) in
      walk_over false false false false (λ d. d) indexes interpolations openers closed says (sym (append-nil indexes)) (sym (append-nil interpolations)) (λ never. absurd (cc)) (passes ts n t e false false openers says h.closes)

  pub walk_dot : (dots : List ℕ) (found : Bool) → role_of k ≡ part.Dot → found ≡ is kind.Number next → dots ≡ indexes ++ cond found (n ∷ []) [] → IsWalkedBack ts dots interpolations openers k closed n
  walk_dot dots found p is_found pushed =
      let says = at_dot t.kind (part_is part.Dot p) in
      walk_over true false false false (λ d. d) dots interpolations openers closed says (pushed ∙ ap (λ b. indexes ++ cond b (n ∷ []) []) is_found) (sym (append-nil interpolations)) (λ never. absurd (cc))
      (passes ts n t e true false openers says h.closes)

  pub walk_quote : (quotes : List ℕ) (opened : Bool) → role_of k ≡ part.QuoteOpen → opened ≡ is kind.InterpOpen next → quotes ≡ interpolations ++ cond (opened && closed) (n ∷ []) [] → IsWalkedBack ts indexes quotes openers k closed n
  walk_quote quotes opened p is_opened pushed =
      let says = at_quote t.kind (part_is part.QuoteOpen p) in
      walk_over false true false false (λ d. d) indexes quotes openers closed says (sym (append-nil indexes)) (pushed ∙ ap (λ b. interpolations ++ cond (b && closed) (n ∷ []) []) is_opened) (λ never. absurd (cc))
      (passes ts n t e false true openers says h.closes)

  pub walk_opener : (rest : List Bool) (here : Bool) → role_of k ≡ part.Opens → here ≡ get_or (reverse openers) 0 false → ((d : ℕ) (c : Bool) → get_or (reverse rest) d c ≡ get_or (reverse openers) (suc d) c)
      → IsWalkedBack ts indexes interpolations rest k here n
  walk_opener rest here p taken left =
      let says = at_opener t.kind (part_is part.Opens p) in
      walk_over false false true false (λ d. d + 1) indexes interpolations rest here says (sym (append-nil indexes)) (sym (append-nil interpolations)) (λ _. taken) (opens ts n t e openers rest says left h.closes)

  pub walk_closer : (rest : List Bool) (flag : Bool) → role_of k ≡ part.Closes → flag ≡ is kind.QuoteClose next → rest ≡ openers ++ flag ∷ [] → IsWalkedBack ts indexes interpolations rest k closed n
  walk_closer rest flag p is_flag pushed =
      let says = at_closer t.kind (part_is part.Closes p) in
      walk_over false false false true (λ d. d - 1) indexes interpolations rest closed says (sym (append-nil indexes)) (sym (append-nil interpolations)) (λ never. absurd (cc))
      (closes ts n t e openers rest flag says (is_flag ∙ h.quote) pushed h.closes)
