-- Files with the same tokens on the same lines have the same issues, apart from columns.
use Rattle.std.proofs.Common.{◌≡◌, ◌∙◌, ap, ap₂, sym, refl, ℕ, Bool, true, false, cond, not, List, [], ◌∷◌, ◌++◌, map}
use Rattle.std.specs.Prelude.{◌==◌, ◌&&◌, ◌||◌, filter}
use Rattle.std.specs.List.{flat_map, list_any, AllZip}
use Rattle.std.proofs.lemmas.List.Folds.{list_any-append}
use Rattle.tf_facts.specs.References.{references}
use Rattle.rule_set.specs.Rules.{is_rule}
use Rattle.tf_facts.specs.Comments.{Comment, comments}
use Rattle.tf_rules.specs.Findings.{Finding, findings}
use Rattle.tf_facts.specs.Facts.{facts_of}
use Rattle.tf_rules.specs.Issues.{Asked, File, Place, tokens_of, place_in, all_references, all_comments, comment_at, covers, is_beside, issue_in, issues_in, reported_issues, issues}
use Rattle.tf_rules.specs.Agreement.{SameTokens, Told, told_of, line_in}
use Rattle.rule_set.specs.declared.rule.Rule.{Rule}
use Rattle.tf_rules.proofs.FindingLemmas.{map-map, map_same, map-flat_map, flat_map_same}

abbrev told_in : File → Rule → Finding ℕ → Told
told_in file rule f = record { file = file.number; token = f.at; line = line_in file f.at; rule = rule; message = f.message }

same_references : (files others : List File) → AllZip SameTokens files others → all_references files ≡ all_references others
same_references [] [] h = refl
same_references [] (g ∷ others) h = absurd h
same_references (f ∷ files) [] h = absurd h
same_references (f ∷ files) (g ∷ others) h = ap₂ (λ x y. x ++ y) (ap references h.0.tokens) (same_references files others h.1)

same_told_in : (asked : Asked) (used : List (List ℕ)) (rule : Rule) (f g : File) → SameTokens f g → map told_of (issues_in asked used rule f) ≡ map told_of (issues_in asked used rule g)
same_told_in asked used rule f g h =
    map-map told_of (issue_in f rule) (findings asked.naming used (facts_of (tokens_of f)) rule)
    ∙ ap (λ ts. map (told_in f rule) (findings asked.naming used (facts_of ts) rule)) h.tokens
    ∙ map_same (told_in f rule) (told_in g rule) (λ x. ap₂ (λ number line. record { file = number; token = x.at; line = line; rule = rule; message = x.message }) h.number (h.lines x.at))
    (findings asked.naming used (facts_of (tokens_of g)) rule)
    ∙ sym (map-map told_of (issue_in g rule) (findings asked.naming used (facts_of (tokens_of g)) rule))

same_in_all : (asked : Asked) (used : List (List ℕ)) (rule : Rule) (files others : List File) → AllZip SameTokens files others
    → flat_map (λ f. map told_of (issues_in asked used rule f)) files ≡ flat_map (λ f. map told_of (issues_in asked used rule f)) others
same_in_all asked used rule [] [] h = refl
same_in_all asked used rule [] (g ∷ others) h = absurd h
same_in_all asked used rule (f ∷ files) [] h = absurd h
same_in_all asked used rule (f ∷ files) (g ∷ others) h = ap₂ (λ x y. x ++ y) (same_told_in asked used rule f g h.0) (same_in_all asked used rule files others h.1)

by_rule : (asked : Asked) (files others : List File) → AllZip SameTokens files others → (rule : Rule)
    → map told_of (flat_map (issues_in asked (all_references files) rule) files) ≡ map told_of (flat_map (issues_in asked (all_references others) rule) others)
by_rule asked files others h rule =
    ap (λ used. map told_of (flat_map (issues_in asked used rule) files)) (same_references files others h)
    ∙ map-flat_map told_of (issues_in asked (all_references others) rule) files
    ∙ same_in_all asked (all_references others) rule files others h
    ∙ sym (map-flat_map told_of (issues_in asked (all_references others) rule) others)

reported_agree : (asked : Asked) (files others : List File) → AllZip SameTokens files others → map told_of (reported_issues asked files) ≡ map told_of (reported_issues asked others)
reported_agree asked files others h =
    map-flat_map told_of (λ rule. flat_map (issues_in asked (all_references files) rule) files) asked.rules
    ∙ flat_map_same (λ rule. map told_of (flat_map (issues_in asked (all_references files) rule) files)) (λ rule. map told_of (flat_map (issues_in asked (all_references others) rule) others))
    (by_rule asked files others h) asked.rules
    ∙ sym (map-flat_map told_of (λ rule. flat_map (issues_in asked (all_references others) rule) others) asked.rules)

-- ---- silencing

list_any_same : {X : Type 0} (p q : X → Bool) → ((x : X) → p x ≡ q x) → (xs : List X) → list_any p xs ≡ list_any q xs
list_any_same p q h [] = refl
list_any_same p q h (x ∷ xs) = ap₂ (λ a b. a || b) (h x) (list_any_same p q h xs)

list_any-map : {X Y : Type 0} (p : Y → Bool) (f : X → Y) (xs : List X) → list_any p (map f xs) ≡ list_any (λ x. p (f x)) xs
list_any-map p f [] = refl
list_any-map p f (x ∷ xs) = ap (λ b. p (f x) || b) (list_any-map p f xs)

filter_same : {X : Type 0} (p q : X → Bool) → ((x : X) → p x ≡ q x) → (xs : List X) → filter p xs ≡ filter q xs
filter_same p q h [] = refl
filter_same p q h (x ∷ xs) = ap₂ (λ b r. cond b (x ∷ r) r) (h x) (filter_same p q h xs)

map-filter : {X Y : Type 0} (q : Y → Bool) (f : X → Y) (xs : List X) → map f (filter (λ x. q (f x)) xs) ≡ filter q (map f xs)
map-filter q f [] = refl
map-filter q f (x ∷ xs) = by (q (f x)) (map-filter q f xs)
  where
    by : (b : Bool) → map f (filter (λ y. q (f y)) xs) ≡ filter q (map f xs) → map f (cond b (x ∷ filter (λ y. q (f y)) xs) (filter (λ y. q (f y)) xs)) ≡ cond b (f x ∷ filter q (map f xs)) (filter q (map f xs))
    by true e = ap (λ r. f x ∷ r) e
    by false e = e

-- whether an issue is silenced depends only on its parts except the column
abbrev mutes : List (Comment Place) → Told → Bool
mutes cs t = list_any (covers t.file t.line t.rule) cs

same_cover : (f g : File) → SameTokens f g → (t : Told) (c : Comment ℕ) → covers t.file t.line t.rule (comment_at (place_in f) c) ≡ covers t.file t.line t.rule (comment_at (place_in g) c)
same_cover f g h t c = ap₂ (λ number line. (number == t.file) && is_beside line t.line && list_any (is_rule t.rule) c.silences) h.number (h.lines c.at)

same_mutes : (files others : List File) → AllZip SameTokens files others → (t : Told) → mutes (all_comments files) t ≡ mutes (all_comments others) t
same_mutes [] [] h t = refl
same_mutes [] (g ∷ others) h t = absurd h
same_mutes (f ∷ files) [] h t = absurd h
same_mutes (f ∷ files) (g ∷ others) h t =
    list_any-append (covers t.file t.line t.rule) (map (comment_at (place_in f)) (comments (tokens_of f))) (all_comments files)
    ∙ ap₂ (λ a b. a || b) (
    list_any-map (covers t.file t.line t.rule) (comment_at (place_in f)) (comments (tokens_of f))
    ∙ ap (λ ts. list_any (λ c. covers t.file t.line t.rule (comment_at (place_in f) c)) (comments ts)) h.0.tokens
    ∙ list_any_same (λ c. covers t.file t.line t.rule (comment_at (place_in f) c)) (λ c. covers t.file t.line t.rule (comment_at (place_in g) c)) (same_cover f g h.0 t) (comments (tokens_of g))
    ∙ sym (list_any-map (covers t.file t.line t.rule) (comment_at (place_in g)) (comments (tokens_of g)))) (same_mutes files others h.1 t)
    ∙ sym (list_any-append (covers t.file t.line t.rule) (map (comment_at (place_in g)) (comments (tokens_of g))) (all_comments others))

pub agree : (asked : Asked) (files others : List File) → AllZip SameTokens files others → map told_of (issues asked files) ≡ map told_of (issues asked others)
agree asked files others h =
    map-filter (λ t. not (mutes (all_comments files) t)) told_of (reported_issues asked files)
    ∙ ap (filter (λ t. not (mutes (all_comments files) t))) (reported_agree asked files others h)
    ∙ filter_same (λ t. not (mutes (all_comments files) t)) (λ t. not (mutes (all_comments others) t)) (λ t. ap not (same_mutes files others h t)) (map told_of (reported_issues asked others))
    ∙ sym (map-filter (λ t. not (mutes (all_comments others) t)) told_of (reported_issues asked others))
