-- The opener of a heredoc, which ends at the first LF, and the closers of braces and sequences: no longer text begins
-- there, whatever comes after.
use Rattle.std.proofs.Common.{◌≡◌, ℕ, ◌+◌, ◌<◌, Bool, true, cond, List, [], ◌∷◌, ◌++◌, length, ◌⊎◌, inl, inr, sym, ap, subst, ◌∙◌, arith, length-append, append_assoc}
use Rattle.std.specs.List.{list_all, prefix_len}
use Rattle.std.proofs.lemmas.Bool.Decides.{nat_tests}
use Rattle.hcl_tokens.specs.Lexemes.{Opener}
use Rattle.hcl_tokens.specs.Spelling.{IsNewline, IsHeredocOpen, IsExpressionText}
use Rattle.hcl_scan.specs.Inner.Prefixes.{prefix_of}
use Rattle.hcl_scan.specs.declared.front.Prefix.TheVariants.{Closer}
use Rattle.hcl_tokens.specs.declared.token.Kind.{Kind}
use Rattle.hcl_tokens.specs.declared.token.Kind.TheVariants.{HeredocOpen, SeqClose, BraceClose}
use Rattle.hcl_tokens.proofs.BooleanLemmas.{and_true}
use Rattle.hcl_scan.proofs.CommentTextLemmas.{goes_on}
use Rattle.hcl_scan.proofs.WordLemmas.{ident_word, is_word, all_to, all_append}
use Rattle.hcl_scan.proofs.PrefixLemmas.{less_kind, closer_kinds}
use Rattle.hcl_scan.proofs.LongerTextLemmas.{Alone, lead_kind, first_same}

-- ---- the opener of a heredoc: it ends at the first LF
over : (q : ℕ → Bool) (xs ys : List ℕ) → list_all q xs ≡ true → prefix_len q (xs ++ ys) ≡ length xs + prefix_len q ys
over q [] ys h = omega arith
over q (x ∷ xs) ys h =
    let parts = and_true (q x) (list_all q xs) h in
    let rec = over q xs ys parts.1 in
    let step : prefix_len q (x ∷ (xs ++ ys)) ≡ 1 + prefix_len q (xs ++ ys) = ap (λ v. cond v (1 + prefix_len q (xs ++ ys)) 0) parts.0 in
    omega arith

word_on : (b : ℕ) → is_word b ≡ true → goes_on b ≡ true
word_on b h = grind (arith, nat_tests)

newline_ends : (end after : List ℕ) → IsNewline end → prefix_len goes_on (end ++ after) + 1 ≡ length end
newline_ends end after (inl e) = ap (λ l. prefix_len goes_on (l ++ after) + 1) e ∙ ap length (sym e)
newline_ends end after (inr e) = ap (λ l. prefix_len goes_on (l ++ after) + 1) e ∙ ap length (sym e)

dash_on : (dash : List ℕ) → (dash ≡ []) ⊎ (dash ≡ 45 ∷ []) → list_all goes_on dash ≡ true
dash_on dash (inl e) = ap (list_all goes_on) e
dash_on dash (inr e) = ap (list_all goes_on) e

opener_len : (text after : List ℕ) → IsHeredocOpen text → prefix_len goes_on (text ++ after) + 1 ≡ length text
opener_len text after is =
    let front : List ℕ = (60 ∷ 60 ∷ is.0) ++ is.1 in
    let words = all_to is_word goes_on word_on is.1 (ident_word is.1 is.4).words in
    let passes : list_all goes_on front ≡ true = all_append goes_on (60 ∷ 60 ∷ is.0) is.1 (dash_on is.0 is.3) words in
    let split : text ++ after ≡ front ++ (is.2 ++ after) = ap (λ l. l ++ after) is.6 ∙ append_assoc front is.2 after in
    let len = over goes_on front (is.2 ++ after) passes in
    omega (arith, ap (prefix_len goes_on) split, len, newline_ends is.2 after is.5, ap length is.6, length-append front is.2)

pub heredoc_alone : (opens : List Opener) (dot : Bool) (text other : List ℕ) → IsHeredocOpen text → Alone opens dot text other
heredoc_alone opens dot text other is kind longer left e lt h =
    let own = opener_len text other is in
    let long : 0 < length text = omega (arith, own) in
    let kind_is : kind ≡ HeredocOpen = less_kind kind (lead_kind opens dot kind longer left (text ++ other) e (omega (arith, long, lt)) h ∙ ap (λ l. prefix_of (l ++ other)) is.6) in
    let is' : IsHeredocOpen longer = subst (λ (k : Kind). IsExpressionText opens dot k longer left) kind_is h in
    omega (arith, own, opener_len longer left is', ap (prefix_len goes_on) e, lt)

-- ---- closers
closer_text : (opens : List Opener) (dot : Bool) (kind : Kind) (longer left : List ℕ) → (kind ≡ SeqClose) ⊎ (kind ≡ BraceClose) → IsExpressionText opens dot kind longer left → (longer ≡ 125 ∷ []) ⊎ (longer ≡ 126 ∷ 125 ∷ [])
closer_text opens dot kind longer left (inl k) h = (subst (λ (z : Kind). IsExpressionText opens dot z longer left) k h).1
closer_text opens dot kind longer left (inr k) h = inl (subst (λ (z : Kind). IsExpressionText opens dot z longer left) k h).1

pub closer_alone : (opens : List Opener) (dot : Bool) (text other : List ℕ) → (text ≡ 125 ∷ []) ⊎ (text ≡ 126 ∷ 125 ∷ []) → Alone opens dot text other
closer_alone opens dot text other is kind longer left e lt h = by is (closer_text opens dot kind longer left (closer_kinds kind (lead_kind opens dot kind longer left (text ++ other) e (long is) h ∙ prefix is)) h)
  where
    long : (text ≡ 125 ∷ []) ⊎ (text ≡ 126 ∷ 125 ∷ []) → 1 < length longer
    long (inl f) = omega (arith, ap length f, lt)
    long (inr f) = omega (arith, ap length f, lt)

    prefix : (text ≡ 125 ∷ []) ⊎ (text ≡ 126 ∷ 125 ∷ []) → prefix_of (text ++ other) ≡ Closer
    prefix (inl f) = ap (λ l. prefix_of (l ++ other)) f
    prefix (inr f) = ap (λ l. prefix_of (l ++ other)) f

    by : (text ≡ 125 ∷ []) ⊎ (text ≡ 126 ∷ 125 ∷ []) → (longer ≡ 125 ∷ []) ⊎ (longer ≡ 126 ∷ 125 ∷ []) → ⊥
    by (inl f) (inl g) = omega (arith, ap length f, ap length g, lt)
    by (inr f) (inl g) = omega (arith, ap length f, ap length g, lt)
    by (inr f) (inr g) = omega (arith, ap length f, ap length g, lt)
    by (inl f) (inr g) = let c = first_same text other longer left 125 126 [] (125 ∷ []) e f g in omega (arith, c)
