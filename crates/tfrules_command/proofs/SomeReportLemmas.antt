-- The issues of files have an ordered list.
use Rattle.std.proofs.Common.{◌≡◌, ◌∙◌, ◌<◌, inl, inr, refl, subst, sym, Bool, true, false, List, [], ◌∷◌, filter}
use Rattle.std.specs.Prelude.{◌⊎◌, ◌==◌, ◌&&◌, not}
use Rattle.std.proofs.lemmas.Bool.{and_from, cases_order, eq-eqb}
use Rattle.tf_rules.specs.Answers.{Rising}
use Rattle.tf_rules.specs.Issues.{Asked, Before, File, IsReport, Issue, Key, Precedes, all_comments, asked_of, is_silenced, issues, key_of, reported_issues}
use Rattle.tf_rules.specs.Ordered.{Ascends, BeforeAll, Member, SameMembers}
use Rattle.rule_set.specs.RuleSets.{holds, rules_of}
use Rattle.rule_set.specs.Rules.{all_rules}
use Rattle.rule_set.specs.declared.rule.Rule.{Rule}
use Rattle.rule_set.specs.declared.rule.Rule.TheVariants.{CommentSyntax, DeprecatedIndex, DeprecatedInterpolation, DocumentedOutputs, DocumentedVariables, ModulePinnedSource, ModuleVersion, NamingConvention, TypedVariables, UnusedDeclarations}
use Rattle.rule_set.specs.declared.rule_set.RuleSet.{RuleSet}
use Rattle.tf_rules.specs.declared.settings.Settings.{Settings}
use Rattle.tf_rules.proofs.DistinctLemmas.{reported_disjoint}
use Rattle.tf_rules.proofs.ReportLemmas.{in_turn}
use Rattle.tf_rules.proofs.SortLemmas.{Differ, filter_ascends, same_key}
use Rattle.tfrules_command.proofs.ListLemmas.{filter_same}

-- ---- issues with distinct keys, inserted one at a time

in_some_order : (a b : Key) → same_key a b ≡ false → Precedes a b ⊎ Precedes b a
in_some_order a b apart = by_file (cases_order a.file b.file)
  where
    by_rank : a.file ≡ b.file → a.token ≡ b.token → (a.rank ≡ b.rank) ⊎ ((a.rank < b.rank) ⊎ (b.rank < a.rank)) → Precedes a b ⊎ Precedes b a
    by_rank f t (inl e) = absurd (not_same (sym (and_from ((a.file == b.file) && (a.token == b.token)) (a.rank == b.rank) (and_from (a.file == b.file) (a.token == b.token) (eq-eqb a.file b.file f) (eq-eqb a.token b.token t)) (eq-eqb a.rank b.rank e)) ∙ apart))
      where
        not_same : true ≡ false → ⊥
        not_same e = cc
    by_rank f t (inr (inl h)) = inl (inr (f, inr (t, h)))
    by_rank f t (inr (inr h)) = inr (inr (sym f, inr (sym t, h)))

    by_token : a.file ≡ b.file → (a.token ≡ b.token) ⊎ ((a.token < b.token) ⊎ (b.token < a.token)) → Precedes a b ⊎ Precedes b a
    by_token f (inl t) = by_rank f t (cases_order a.rank b.rank)
    by_token f (inr (inl h)) = inl (inr (f, inl h))
    by_token f (inr (inr h)) = inr (inr (sym f, inl h))

    by_file : (a.file ≡ b.file) ⊎ ((a.file < b.file) ⊎ (b.file < a.file)) → Precedes a b ⊎ Precedes b a
    by_file (inl f) = by_token f (cases_order a.token b.token)
    by_file (inr (inl h)) = inl (inl h)
    by_file (inr (inr h)) = inr (inl h)

module _ (R : Issue → Issue → Type 0) where
  of_all : (x z : Issue) (xs : List Issue) → BeforeAll R x xs → Member z xs → R x z
  of_all x z [] h m = absurd m
  of_all x z (y ∷ ys) h (inl e) = subst (λ v. R x v) (sym e) h.0
  of_all x z (y ∷ ys) h (inr m) = of_all x z ys h.1 m

  to_all : (x : Issue) (xs : List Issue) → ((z : Issue) → Member z xs → R x z) → BeforeAll R x xs
  to_all x [] h = tt
  to_all x (y ∷ ys) h = (h y (inl refl), to_all x ys (λ z m. h z (inr m)))

through : (x y : Issue) (zs : List Issue) → Before x y → BeforeAll Before y zs → BeforeAll Before x zs
through x y [] h k = tt
through x y (z ∷ zs) h k = (in_turn (key_of x) (key_of y) (key_of z) h k.0, through x y zs h k.1)

-- a list in order with these members
abbrev Sorted : List Issue → Type 0
Sorted xs = (sorted : List Issue) × Ascends Before sorted × SameMembers xs sorted

first_of_all : (x y : Issue) (ys : List Issue) → Before x y → Ascends Before (y ∷ ys) → Sorted (x ∷ y ∷ ys)
first_of_all x y ys h a = (x ∷ y ∷ ys, ((h, through x y ys h a.0), a), λ z. (λ m. m, λ m. m))

after_first : (x y : Issue) (ys : List Issue) → Before y x → Ascends Before (y ∷ ys) → Sorted (x ∷ ys) → Sorted (x ∷ y ∷ ys)
after_first x y ys h a s = (y ∷ s.0, (to_all Before y s.0 (λ z m. below z ((s.2 z).1 m)), s.1), λ z. (into z, from z))
  where
    below : (z : Issue) → Member z (x ∷ ys) → Before y z
    below z (inl e) = subst (λ v. Before y v) (sym e) h
    below z (inr m) = of_all Before y z ys a.0 m

    into : (z : Issue) → Member z (x ∷ y ∷ ys) → Member z (y ∷ s.0)
    into z (inl e) = inr ((s.2 z).0 (inl e))
    into z (inr (inl e)) = inl e
    into z (inr (inr m)) = inr ((s.2 z).0 (inr m))

    from : (z : Issue) → Member z (y ∷ s.0) → Member z (x ∷ y ∷ ys)
    from z (inl e) = inr (inl e)
    from z (inr m) = back ((s.2 z).1 m)
      where
        back : Member z (x ∷ ys) → Member z (x ∷ y ∷ ys)
        back (inl e) = inl e
        back (inr n) = inr (inr n)

among : (x : Issue) (ys : List Issue) → BeforeAll Differ x ys → Ascends Before ys → Sorted (x ∷ ys)
among x [] d a = (x ∷ [], (tt, tt), λ z. (λ m. m, λ m. m))
among x (y ∷ ys) d a = by (in_some_order (key_of x) (key_of y) d.0) (among x ys d.1 a.1)
  where
    by : Precedes (key_of x) (key_of y) ⊎ Precedes (key_of y) (key_of x) → Sorted (x ∷ ys) → Sorted (x ∷ y ∷ ys)
    by (inl h) s = first_of_all x y ys h a
    by (inr h) s = after_first x y ys h a s

sorted : (xs : List Issue) → Ascends Differ xs → Sorted xs
sorted [] d = ([], tt, λ z. (λ m. m, λ m. m))
sorted (x ∷ xs) d = more (sorted xs d.1)
  where
    more : Sorted xs → Sorted (x ∷ xs)
    more s = all (among x s.0 (to_all Differ x s.0 (λ z m. of_all Differ x z xs d.0 ((s.2 z).1 m))) s.1)
      where
        into : (z : Issue) → Member z (x ∷ xs) → Member z (x ∷ s.0)
        into z (inl e) = inl e
        into z (inr m) = inr ((s.2 z).0 m)

        from : (z : Issue) → Member z (x ∷ s.0) → Member z (x ∷ xs)
        from z (inl e) = inl e
        from z (inr m) = inr ((s.2 z).1 m)

        all : Sorted (x ∷ s.0) → Sorted (x ∷ xs)
        all t = (t.0, t.1, λ z. (λ m. (t.2 z).0 (into z m), λ m. from z ((t.2 z).1 m)))

-- ---- the requested rules, as a set

abbrev set_of : (Rule → Bool) → RuleSet
set_of p = record { held = p CommentSyntax ∷ p DeprecatedIndex ∷ p DeprecatedInterpolation ∷ p DocumentedOutputs ∷ p DocumentedVariables ∷ p ModulePinnedSource ∷ p ModuleVersion ∷ p NamingConvention ∷ p TypedVariables ∷ p UnusedDeclarations ∷ [] }

held_by : (p : Rule → Bool) (rule : Rule) → holds (set_of p) rule ≡ p rule
held_by p CommentSyntax = refl
held_by p DeprecatedIndex = refl
held_by p DeprecatedInterpolation = refl
held_by p DocumentedOutputs = refl
held_by p DocumentedVariables = refl
held_by p ModulePinnedSource = refl
held_by p ModuleVersion = refl
held_by p NamingConvention = refl
held_by p TypedVariables = refl
held_by p UnusedDeclarations = refl

settings_of : (p : Rule → Bool) (asked : Asked) → filter p all_rules ≡ asked.rules → (settings : Settings) × (asked_of settings ≡ asked)
settings_of p asked is =
    let same : rules_of (set_of p) ≡ asked.rules = filter_same (holds (set_of p)) p all_rules (held_by p) ∙ is in
    (record { rules = set_of p; naming = asked.naming }, λ i. record { rules = same i; naming = asked.naming })

-- ---- THE LAW: files with rising numbers have a report by any set of rules
pub some_report : (p : Rule → Bool) (asked : Asked) (files : List File) → filter p all_rules ≡ asked.rules → Rising files → (report : List Issue) × IsReport asked files report
some_report p asked files is rising =
    let settings = settings_of p asked is in
    let apart : Ascends Differ (reported_issues asked files) = subst (λ (a : Asked). Ascends Differ (reported_issues a files)) settings.1 (reported_disjoint settings.0 files rising) in
    let s = sorted (issues asked files) (filter_ascends (λ i. not (is_silenced (all_comments files) i)) Differ (reported_issues asked files) apart) in
    (s.0, record { members = s.2; ordered = s.1 })
