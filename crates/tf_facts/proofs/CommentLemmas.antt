-- Comments, token by token.
use Rattle.std.proofs.Common.{◌≡◌, ◌∙◌, ap, sym, subst, refl, ℕ, ◌+◌, ◌<◌, ◌≤◌, Bool, true, false, cond, List, [], ◌∷◌, ◌++◌, map, drop, length, reverse}
use Rattle.std.specs.Prelude.{◌||◌, Some, filter, slice_get}
use Rattle.std.specs.List.{list_any}
use Rattle.std.proofs.lemmas.List.{reverse-append}
use Rattle.indexmap.proofs.ReorderLemmas.{map-reverse}
use Rattle.hcl_tokens.specs.Kinds.{is}
use Rattle.hcl_tokens.specs.declared.token.Kind.{Kind}
use Rattle.hcl_tokens.specs.declared.token.Kind.TheVariants.{LineComment}
use Rattle.hcl_tokens.specs.Lexemes.{Lexeme}
use Rattle.hcl_grammar.specs.Numbered.{Numbered, number_tokens}
use Rattle.hcl_grammar.proofs.NumberedLemmas.{numbered_at, numbered_here, numbered_past}
use Rattle.tf_facts.specs.Comments.{Comment, comment_of, comments, if_telling, is_any}
use Rattle.rule_set.specs.Rules.{all_rules}
use Rattle.rule_set.specs.RuleSets.{holds, rules_of}
use Rattle.tf_facts.specs.Silencing.{has_slashes, silenced_rules, silences}
use Rattle.tf_facts.specs.Found.{comment}
use Rattle.tf_facts.specs.Seen.{number_of}
use Rattle.tf_facts.specs.declared.found.FoundComment.{FoundComment}
use Rattle.rule_set.specs.declared.rule.Rule.{Rule}
use Rattle.rule_set.specs.declared.rule_set.RuleSet.{RuleSet}
use Rattle.tf_facts.proofs.PatternLemmas.{there_is}

filter_same : {X : Type 0} (p q : X → Bool) (xs : List X) → ((x : X) → p x ≡ q x) → filter p xs ≡ filter q xs
filter_same p q [] h = refl
filter_same p q (x ∷ xs) h = ap (λ b. cond b (x ∷ filter p xs) (filter p xs)) (h x) ∙ ap (λ r. cond (q x) (x ∷ r) r) (filter_same p q xs h)

any_left : (p : Rule → Bool) (rules : List Rule) → list_any p rules ≡ is_any (filter p rules)
any_left p [] = refl
any_left p (r ∷ rules) = by (p r) (any_left p rules)
  where
    by : (b : Bool) → list_any p rules ≡ is_any (filter p rules) → (b || list_any p rules) ≡ is_any (cond b (r ∷ filter p rules) (filter p rules))
    by true h = refl
    by false h = h

pub holds_any : (set : RuleSet) → list_any (holds set) all_rules ≡ is_any (rules_of set)
holds_any set = any_left (holds set) all_rules

abbrev made : ℕ → Bool → List Rule → Comment ℕ
made at slashes rules = record { at = at; slashes = slashes; silences = rules }

comment_is : (c : FoundComment) (text : List ℕ) → c.has_slashes ≡ has_slashes text → ((rule : Rule) → holds c.silences rule ≡ silences text rule)
    → comment c ≡ record { at = c.at; slashes = has_slashes text; silences = silenced_rules text }
comment_is c text slashes same = ap (λ b. made c.at b (rules_of c.silences)) slashes ∙ ap (λ rs. made c.at (has_slashes text) rs) (filter_same (holds c.silences) (silences text) all_rules same)

module _ (c : FoundComment) (text : List ℕ) (slashes : c.has_slashes ≡ has_slashes text) (same : (rule : Rule) → holds c.silences rule ≡ silences text rule) where
  pub is_told : (c.has_slashes || is_any (rules_of c.silences)) ≡ true → comment c ∷ [] ≡ if_telling (record { at = c.at; slashes = has_slashes text; silences = silenced_rules text })
  is_told telling = ap (λ b. cond b (comment c ∷ []) []) (sym telling) ∙ ap if_telling (comment_is c text slashes same)

  pub is_silent : (c.has_slashes || is_any (rules_of c.silences)) ≡ false → [] ≡ if_telling (record { at = c.at; slashes = has_slashes text; silences = silenced_rules text })
  is_silent silent = ap (λ b. cond b (comment c ∷ []) []) (sym silent) ∙ ap if_telling (comment_is c text slashes same)

-- ---- all tokens, from the last to the first

-- the comments that were found are those of the tokens from a number on
abbrev pub AreCommentsFrom : List Lexeme → List FoundComment → ℕ → Type 0
AreCommentsFrom ts found n = reverse (map comment found) ≡ comments (drop n (number_tokens ts))

pub comments_begin : (ts : List Lexeme) (found : List FoundComment) (n : ℕ) → length ts ≤ n → found ≡ [] → AreCommentsFrom ts found n
comments_begin ts found n past none = ap (λ f. reverse (map comment f)) none ∙ sym (ap comments (numbered_past ts n past))

pub comments_end : (ts : List Lexeme) (found turned : List FoundComment) (n : ℕ) → n ≡ 0 → turned ≡ reverse found → AreCommentsFrom ts found n → map comment turned ≡ comments (number_tokens ts)
comments_end ts found turned n at is h = ap (map comment) is ∙ map-reverse comment found ∙ h ∙ ap (λ k. comments (drop k (number_tokens ts))) at

-- a token is one comment at most
one_turned : (c : Comment ℕ) (a b : Bool) → reverse (cond a (cond b (c ∷ []) []) []) ≡ cond a (cond b (c ∷ []) []) []
one_turned c true true = refl
one_turned c true false = refl
one_turned c false b = refl

turned : (t : Numbered) → reverse (comment_of t) ≡ comment_of t
turned t = one_turned (made t.number (has_slashes t.text) (silenced_rules t.text)) (is LineComment t.kind) (has_slashes t.text || is_any (silenced_rules t.text))

-- a step from `m` to `n`
module _ (ts : List Lexeme) (n m : ℕ) (at : m ≡ n + 1) (less : n < length ts) (found : List FoundComment) (before : AreCommentsFrom ts found m) where
  h : AreCommentsFrom ts found (n + 1)
  h = let P : ℕ → Type 0 = λ i. AreCommentsFrom ts found i in subst P at before

  there : (t : Lexeme) × (slice_get ts n ≡ Some t)
  there = there_is ts n less

  -- the comments of the token, and those of the tokens after it
  split : comment_of (number_of n there.0) ++ comments (drop (n + 1) (number_tokens ts)) ≡ comments (drop n (number_tokens ts))
  split = ap comments (ap (λ r. number_of n there.0 ∷ r) (numbered_at ts (n + 1)) ∙ sym (numbered_here ts n there.0 there.1))

  pub comments_over : (k : Kind) → ((t : Lexeme) → slice_get ts n ≡ Some t → k ≡ t.kind) → is LineComment k ≡ false → AreCommentsFrom ts found n
  comments_over k kind_is other =
      h
      ∙ ap (λ b. cond b (if_telling (made n (has_slashes there.0.text) (silenced_rules there.0.text))) [] ++ comments (drop (n + 1) (number_tokens ts))) (sym (ap (is LineComment) (sym (kind_is there.0 there.1)) ∙ other))
      ∙ split

  pub comments_noted : (new : List FoundComment) → ((t : Lexeme) → slice_get ts n ≡ Some t → map comment new ≡ map comment found ++ comment_of (number_of n t)) → AreCommentsFrom ts new n
  comments_noted new noted =
      ap reverse (noted there.0 there.1)
      ∙ reverse-append (map comment found) (comment_of (number_of n there.0))
      ∙ ap (λ r. r ++ reverse (map comment found)) (turned (number_of n there.0))
      ∙ ap (λ r. comment_of (number_of n there.0) ++ r) h
      ∙ split
