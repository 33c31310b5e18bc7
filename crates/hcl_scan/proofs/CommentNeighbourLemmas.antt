-- Newlines, comments and slashes: no longer text begins there. For a comment to the end of its line this holds if the
-- line ends there, and for a slash if no comment begins with it.
use Rattle.std.proofs.Common.{◌≡◌, ℕ, suc, ◌+◌, ◌<◌, ◌||◌, ◌==◌, Bool, true, false, cond, List, [], ◌∷◌, ◌++◌, length, take, drop, get_or, inl, inr, ⊎_elim, refl, sym, ap, subst, ◌∙◌, arith, length-append, append_assoc}
use Rattle.std.specs.List.{list_any}
use Rattle.hcl_tokens.specs.Lexemes.{Opener}
use Rattle.hcl_tokens.specs.Spelling.{IsNewline, IsLineComment, IsInlineComment, IsExpressionText, starts}
use Rattle.hcl_scan.specs.Inner.Found.{EndsComment}
use Rattle.hcl_scan.specs.Inner.Prefixes.{prefix_of}
use Rattle.hcl_tokens.specs.Neighbours.{grows, ends_comment}
use Rattle.hcl_scan.specs.declared.front.Prefix.TheVariants.{LineEnd, HashOrSlashes, SlashStar, OneSlash}
use Rattle.hcl_tokens.specs.declared.token.Kind.{Kind}
use Rattle.hcl_tokens.specs.declared.token.Kind.TheVariants.{Newline, LineComment, InlineComment, Slash}
use Rattle.hcl_tokens.proofs.BooleanLemmas.{or_true, or_cases}
use Rattle.hcl_scan.proofs.CommentTextLemmas.{starts_split, end_cut, ends_in, ends_less, star_moved}
use Rattle.hcl_scan.proofs.PrefixLemmas.{line_kind, hash_kind, star_kind, slash_kind}
use Rattle.hcl_scan.proofs.LongerTextLemmas.{Alone, Longer, longer_is, lead_kind, first_same}

-- ---- a newline
pub newline_alone : (opens : List Opener) (dot : Bool) (text other : List ℕ) → IsNewline text → Alone opens dot text other
newline_alone opens dot text other is kind longer left e lt h = by is (subst (λ (k : Kind). IsExpressionText opens dot k longer left) kind_is h)
  where
    prefix : IsNewline text → prefix_of (text ++ other) ≡ LineEnd
    prefix (inl f) = ap (λ l. prefix_of (l ++ other)) f
    prefix (inr f) = ap (λ l. prefix_of (l ++ other)) f

    long : IsNewline text → 1 < length longer
    long (inl f) = omega (arith, ap length f, lt)
    long (inr f) = omega (arith, ap length f, lt)

    kind_is : kind ≡ Newline
    kind_is = line_kind kind (lead_kind opens dot kind longer left (text ++ other) e (long is) h ∙ prefix is)

    by : IsNewline text → IsNewline longer → ⊥
    by (inl f) (inl g) = omega (arith, ap length f, ap length g, lt)
    by (inl f) (inr g) = let c = first_same text other longer left 10 13 [] (10 ∷ []) e f g in omega (arith, c)
    by (inr f) (inl g) = omega (arith, ap length f, ap length g, lt)
    by (inr f) (inr g) = omega (arith, ap length f, ap length g, lt)

-- ---- a comment to the end of its line
any_after : (text : List ℕ) (b : ℕ) (bs : List ℕ) → (b == 10) ≡ true → list_any (λ c. c == 10) (text ++ b ∷ bs) ≡ true
any_after [] b bs h = ap (λ v. v || list_any (λ c. c == 10) bs) h
any_after (c ∷ text) b bs h = ap (λ v. (c == 10) || v) (any_after text b bs h) ∙ or_true (c == 10)

comment_lead : (text other : List ℕ) → IsLineComment text → prefix_of (text ++ other) ≡ HashOrSlashes
comment_lead text other is = ⊎_elim
    (λ a. ap (λ l. prefix_of (l ++ other)) (starts_split text (35 ∷ []) a).1)
    (λ b. ap (λ l. prefix_of (l ++ other)) (starts_split text (47 ∷ 47 ∷ []) b).1)
    (or_cases (starts text (35 ∷ [])) (starts text (47 ∷ 47 ∷ [])) is.0)

pub line_alone : (opens : List Opener) (dot : Bool) (text other : List ℕ) → 0 < length text → IsLineComment text → ends_comment other ≡ true → Alone opens dot text other
line_alone opens dot text other some is stop kind longer left e lt h = by more.bs more.some more.whole more.after
  where
    more : Longer text other longer left
    more = longer_is text other longer left e lt

    kind_is : kind ≡ LineComment
    kind_is = hash_kind kind (lead_kind opens dot kind longer left (text ++ other) e (omega (arith, some, lt)) h ∙ comment_lead text other is)

    is' : IsLineComment longer
    is' = subst (λ (k : Kind). IsExpressionText opens dot k longer left) kind_is h

    by : (bs : List ℕ) → 0 < length bs → longer ≡ text ++ bs → bs ++ left ≡ other → ⊥
    by [] some w a = omega arith
    by (b ∷ bs) some w a =
        let lf : (b == 10) ≡ true = ap ends_comment a ∙ stop in
        let there : list_any (λ c. c == 10) longer ≡ true = ap (list_any (λ c. c == 10)) w ∙ any_after text b bs lf in
        let none : list_any (λ c. c == 10) longer ≡ false = is'.1 in absurd (cc)

-- ---- a comment to its `*/`
pub inline_alone : (opens : List Opener) (dot : Bool) (text other : List ℕ) → IsInlineComment text → Alone opens dot text other
inline_alone opens dot text other is kind longer left e lt h = is'.2 held
  where
    more : Longer text other longer left
    more = longer_is text other longer left e lt

    long : length text ≡ length is.0 + 4
    long = omega (arith, ap length is.1, length-append is.0 (42 ∷ 47 ∷ []))

    kind_is : kind ≡ InlineComment
    kind_is = star_kind kind (lead_kind opens dot kind longer left (text ++ other) e (omega (arith, long, lt)) h ∙ ap (λ l. prefix_of (l ++ other)) is.1)

    is' : IsInlineComment longer
    is' = subst (λ (k : Kind). IsExpressionText opens dot k longer left) kind_is h

    inner : List ℕ
    inner = is'.0

    n : ℕ
    n = length is.0

    both : inner ++ (42 ∷ 47 ∷ []) ≡ is.0 ++ (42 ∷ 47 ∷ more.bs)
    both = ap (drop 2) (sym is'.1 ∙ more.whole ∙ ap (λ l. l ++ more.bs) is.1) ∙ append_assoc is.0 (42 ∷ 47 ∷ []) more.bs

    further : n < length inner
    further = omega (arith, ap length both, length-append inner (42 ∷ 47 ∷ []), length-append is.0 (42 ∷ 47 ∷ more.bs), more.some)

    there : EndsComment ((inner ++ (42 ∷ [])) ++ (47 ∷ [])) n
    there = subst (λ l. EndsComment l n) (sym (star_moved inner [] ∙ both)) (ends_in is.0 more.bs)

    here : EndsComment (inner ++ (42 ∷ [])) n
    here = ends_less (inner ++ (42 ∷ [])) (47 ∷ []) n (omega (arith, further, length-append inner (42 ∷ []))) there

    held : (before after : List ℕ) × (inner ++ (42 ∷ []) ≡ before ++ (42 ∷ 47 ∷ []) ++ after)
    held = (take n (inner ++ (42 ∷ [])), drop (suc (suc n)) (inner ++ (42 ∷ [])), end_cut (inner ++ (42 ∷ [])) n here ∙ sym (append_assoc (take n (inner ++ (42 ∷ []))) (42 ∷ 47 ∷ []) (drop (suc (suc n)) (inner ++ (42 ∷ [])))))

-- ---- a slash
slash_leads : (other : List ℕ) → grows Slash (get_or other 0 0) ≡ false → prefix_of (47 ∷ other) ≡ OneSlash
slash_leads other h = by (get_or other 0 0 == 47) (get_or other 0 0 == 42) h
  where
    by : (v w : Bool) → (v || w) ≡ false → cond v HashOrSlashes (cond w SlashStar OneSlash) ≡ OneSlash
    by true w k = absurd (cc)
    by false true k = absurd (cc)
    by false false k = refl

pub slash_alone : (opens : List Opener) (dot : Bool) (text other : List ℕ) → text ≡ 47 ∷ [] → grows Slash (get_or other 0 0) ≡ false → Alone opens dot text other
slash_alone opens dot text other is stop kind longer left e lt h =
    let kind_is : kind ≡ Slash = slash_kind kind (lead_kind opens dot kind longer left (text ++ other) e (omega (arith, ap length is, lt)) h ∙ ap (λ l. prefix_of (l ++ other)) is ∙ slash_leads other stop) in
    let is' = subst (λ (k : Kind). IsExpressionText opens dot k longer left) kind_is h in
    omega (arith, ap length is, ap length is'.0, lt)
