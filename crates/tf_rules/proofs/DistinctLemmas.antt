-- All reported issues have different keys.
use Rattle.std.proofs.Common.{◌≡◌, ap, sym, refl, subst, ℕ, ◌+◌, ◌<◌, ◌≤◌, Bool, true, false, List, [], ◌∷◌, ◌++◌, map, filter, length, inl, inr, arith}
use Rattle.std.specs.Prelude.{◌⊎◌, ◌==◌, ◌&&◌, Option, Some, None, codes}
use Rattle.std.specs.List.{flat_map}
use Rattle.std.proofs.lemmas.Bool.{and_left, and_right, ne_eqb}
use Rattle.hcl_tokens.specs.Lexemes.{Lexeme}
use Rattle.hcl_grammar.specs.Numbered.{number_tokens}
use Rattle.tf_rules.specs.Answers.{IsBelow, Rising}
use Rattle.tf_facts.specs.Comments.{Comment, comments}
use Rattle.tf_facts.specs.Declarations.{Declaration, SourceAt, declarations}
use Rattle.tf_rules.specs.Findings.{Finding, finding, findings, says_if, says_of, slash_findings, unpinned_findings, unpinned_findings_by}
use Rattle.tf_facts.specs.Facts.{facts_of}
use Rattle.tf_rules.specs.Issues.{Asked, File, Issue, all_references, asked_of, issue_in, issues_in, reported_issues, tokens_of}
use Rattle.tf_rules.specs.Ordered.{Member, BeforeAll, Ascends}
use Rattle.tf_facts.specs.Patterns.{legacy_indexes, wrapped_interpolations}
use Rattle.rule_set.specs.Rules.{all_rules, rank}
use Rattle.rule_set.specs.RuleSets.{holds, rules_of}
use Rattle.tf_facts.specs.Sources.{Source, Other, NotPinned, DefaultBranch, Registry}
use Rattle.tf_rules.specs.Inner.Locating.{numbers_of, quotes}
use Rattle.tf_rules.specs.declared.naming.Naming.{Naming}
use Rattle.rule_set.specs.declared.rule.Rule.{Rule}
use Rattle.rule_set.specs.declared.rule.Rule.TheVariants.{CommentSyntax, DeprecatedIndex, DeprecatedInterpolation, DocumentedOutputs, DocumentedVariables, ModulePinnedSource, ModuleVersion, NamingConvention, TypedVariables, UnusedDeclarations}
use Rattle.tf_rules.specs.declared.settings.Settings.{Settings}
use Rattle.tf_rules.proofs.ForwardLemmas.{Rise, comments_in_order, declarations_in_order, indexes_in_order, interpolations_in_order}
use Rattle.tf_rules.proofs.ReportLemmas.{from-map}
use Rattle.tf_rules.proofs.RisingLemmas.{Up, up_from, up_filter, up_ascends, up_flat, up_map}
use Rattle.tf_rules.proofs.SortLemmas.{Differ}

-- ---- the findings of a rule in a file, by the numbers of tokens

abbrev comment_number : Comment ℕ → ℕ
comment_number c = c.at

abbrev number : ℕ → ℕ
number n = n

abbrev found_at : Finding ℕ → ℕ
found_at f = f.at

says_up : (test : Bool) (at : ℕ) (message : List ℕ) → Up found_at at (says_if test at message) (at + 1)
says_up true at message = (omega arith, omega arith)
says_up false at message = omega arith

rise_up : {X : Type 0} (m : X → ℕ) (from to : ℕ) (xs : List X) → Rise from (map m xs) to → Up m from xs to
rise_up m from to [] h = h
rise_up m from to (x ∷ xs) h = (h.0, rise_up m (m x + 1) to xs h.1)

rise_is : (from to : ℕ) (ns : List ℕ) → Rise from ns to → Up number from ns to
rise_is from to [] h = h
rise_is from to (n ∷ ns) h = (h.0, rise_is (n + 1) to ns h.1)

rise_earlier : (from later to : ℕ) (ns : List ℕ) → from ≤ later → Rise later ns to → Rise from ns to
rise_earlier from later to [] h r = omega (arith, h, r)
rise_earlier from later to (n ∷ ns) h r = (omega (arith, h, r.0), r.1)

without_quotes : (from to : ℕ) (o : Option (SourceAt ℕ)) (ns : List ℕ) → Rise from (quotes o ++ ns) to → Rise from ns to
without_quotes from to None ns h = h
without_quotes from to (Some s) ns h = rise_earlier from (s.at + 1) to ns (omega (arith, h.0)) h.1

abbrev declared_at : Declaration ℕ → ℕ
declared_at d = d.at

declared_up : (from to : ℕ) (ds : List (Declaration ℕ)) → Rise from (flat_map numbers_of ds) to → Up declared_at from ds to
declared_up from to [] h = h
declared_up from to (d ∷ ds) h = (h.0, declared_up (d.at + 1) to ds (without_quotes (d.at + 1) to d.source (flat_map numbers_of ds) h.1))

-- the findings at the opening quote of each source
module _ (naming : Naming) (used : List (List ℕ)) where
  pinned_up : (from to : ℕ) (ds : List (Declaration ℕ)) → Rise from (flat_map numbers_of ds) to → Up found_at from (flat_map (finding naming used ModulePinnedSource) ds) to
  pinned_up from to [] h = h
  pinned_up from to (d ∷ ds) h = by_source d.source h.1 (λ n r. pinned_up n to ds r)
    where
      more : List (Finding ℕ)
      more = flat_map (finding naming used ModulePinnedSource) ds

      by_kind : (s : SourceAt ℕ) (v : Source) → from ≤ s.at → Up found_at (s.at + 1) more to → Up found_at from (unpinned_findings_by d s.at v ++ more) to
      by_kind s NotPinned low r = (low, r)
      by_kind s (DefaultBranch branch) low r = (low, r)
      by_kind s Other low r = up_from found_at from (s.at + 1) to more (omega (arith, low)) r
      by_kind s Registry low r = up_from found_at from (s.at + 1) to more (omega (arith, low)) r

      by_source : (o : Option (SourceAt ℕ)) → Rise (d.at + 1) (quotes o ++ flat_map numbers_of ds) to → ((n : ℕ) → Rise n (flat_map numbers_of ds) to → Up found_at n more to) → Up found_at from (unpinned_findings d o ++ more) to
      by_source None r rest = up_from found_at from (d.at + 1) to more (omega (arith, h.0)) (rest (d.at + 1) r)
      by_source (Some s) r rest = by_kind s s.source (omega (arith, h.0, r.0)) (rest (s.at + 1) r.1)

module _ (naming : Naming) (used : List (List ℕ)) (tokens : List Lexeme) where
  over_declarations : (rule : Rule) → ((d : Declaration ℕ) → Up found_at d.at (finding naming used rule d) (d.at + 1)) → Up found_at 0 (flat_map (finding naming used rule) (declarations (number_tokens tokens))) (length tokens)
  over_declarations rule each =
      up_flat declared_at found_at (finding naming used rule) each 0 (length tokens) (declarations (number_tokens tokens)) (declared_up 0 (length tokens) (declarations (number_tokens tokens)) (declarations_in_order tokens))

  findings_up : (rule : Rule) → Up found_at 0 (findings naming used (facts_of (number_tokens tokens)) rule) (length tokens)
  findings_up CommentSyntax =
      up_flat comment_number found_at slash_findings (λ c. says_up c.slashes c.at (codes "line comments should begin with #")) 0 (length tokens) (comments (number_tokens tokens))
      (rise_up comment_number 0 (length tokens) (comments (number_tokens tokens)) (comments_in_order tokens))
  findings_up DeprecatedIndex = up_map found_at (says_of (codes "list items should be accessed using square brackets")) 0 (length tokens) (legacy_indexes (number_tokens tokens)) (rise_is 0 (length tokens) (legacy_indexes (number_tokens tokens)) (indexes_in_order tokens))
  findings_up DeprecatedInterpolation = up_map found_at (says_of (codes "interpolation-only expressions are deprecated")) 0 (length tokens) (wrapped_interpolations (number_tokens tokens)) (rise_is 0 (length tokens) (wrapped_interpolations (number_tokens tokens)) (interpolations_in_order tokens))
  findings_up DocumentedOutputs = over_declarations DocumentedOutputs (λ d. says_up _ d.at _)
  findings_up DocumentedVariables = over_declarations DocumentedVariables (λ d. says_up _ d.at _)
  findings_up ModulePinnedSource = pinned_up naming used 0 (length tokens) (declarations (number_tokens tokens)) (declarations_in_order tokens)
  findings_up ModuleVersion = over_declarations ModuleVersion (λ d. says_up _ d.at _)
  findings_up NamingConvention = over_declarations NamingConvention (λ d. says_up _ d.at _)
  findings_up TypedVariables = over_declarations TypedVariables (λ d. says_up _ d.at _)
  findings_up UnusedDeclarations = over_declarations UnusedDeclarations (λ d. says_up _ d.at _)

-- ---- all files and all rules

module _ {X Y : Type 0} (R : X → X → Type 0) (S : Y → Y → Type 0) (f : X → Y) (h : (a b : X) → R a b → S (f a) (f b)) where
  map_before : (x : X) (xs : List X) → BeforeAll R x xs → BeforeAll S (f x) (map f xs)
  map_before x [] k = tt
  map_before x (y ∷ ys) k = (h x y k.0, map_before x ys k.1)

  map_ascends : (xs : List X) → Ascends R xs → Ascends S (map f xs)
  map_ascends [] k = tt
  map_ascends (x ∷ xs) k = (map_before x xs k.0, map_ascends xs k.1)

module _ {Y : Type 0} (R : Y → Y → Type 0) where
  before_both : (y : Y) (xs ys : List Y) → BeforeAll R y xs → ((b : Y) → Member b ys → R y b) → BeforeAll R y (xs ++ ys)
  before_both y [] [] h k = tt
  before_both y [] (z ∷ zs) h k = (k z (inl refl), before_both y [] zs tt (λ b m. k b (inr m)))
  before_both y (x ∷ xs) ys h k = (h.0, before_both y xs ys h.1 k)

  both_ascend : (xs ys : List Y) → Ascends R xs → Ascends R ys → ((a b : Y) → Member a xs → Member b ys → R a b) → Ascends R (xs ++ ys)
  both_ascend [] ys h k disjoint = k
  both_ascend (x ∷ xs) ys h k disjoint = (before_both x xs ys h.0 (λ b m. disjoint x b (inl refl) m), both_ascend xs ys h.1 k (λ a b m n. disjoint a b (inr m) n))

member_left_or_right : {Y : Type 0} (z : Y) (xs ys : List Y) → Member z (xs ++ ys) → Member z xs ⊎ Member z ys
member_left_or_right z [] ys m = inr m
member_left_or_right z (x ∷ xs) ys (inl e) = inl (inl e)
member_left_or_right z (x ∷ xs) ys (inr m) = elim (member_left_or_right z xs ys m) [ inl l ↦ inl (inr l) | inr r ↦ inr r ]

module _ {X Y : Type 0} (f : X → List Y) where
  from_flat : (z : Y) (xs : List X) → Member z (flat_map f xs) → (x : X) × Member x xs × Member z (f x)
  from_flat z [] m = absurd m
  from_flat z (x ∷ xs) m = by (member_left_or_right z (f x) (flat_map f xs) m) (from_flat z xs)
    where
      by : Member z (f x) ⊎ Member z (flat_map f xs) → (Member z (flat_map f xs) → (y : X) × Member y xs × Member z (f y)) → (y : X) × Member y (x ∷ xs) × Member z (f y)
      by (inl l) rest = (x, inl refl, l)
      by (inr r) rest = let found = rest r in (found.0, inr found.1, found.2)

  module _ (R : X → X → Type 0) (S : Y → Y → Type 0) (each : (x : X) → Ascends S (f x)) (cross : (x y : X) → R x y → (a b : Y) → Member a (f x) → Member b (f y) → S a b) where
    above : (x z : X) (xs : List X) → BeforeAll R x xs → Member z xs → R x z
    above x z [] h m = absurd m
    above x z (y ∷ ys) h (inl e) = let P : X → Type 0 = λ v. R x v in subst P (sym e) h.0
    above x z (y ∷ ys) h (inr m) = above x z ys h.1 m

    flat_ascends : (xs : List X) → Ascends R xs → Ascends S (flat_map f xs)
    flat_ascends [] h = tt
    flat_ascends (x ∷ xs) h =
        both_ascend S (f x) (flat_map f xs) (each x) (flat_ascends xs h.1)
        (λ a b m n. let found = from_flat b xs n in cross x found.0 (above x found.0 xs h.0 found.1) a b m found.2)

module _ (asked : Asked) (used : List (List ℕ)) where
  of_file : (rule : Rule) (file : File) → Ascends Differ (issues_in asked used rule file)
  of_file rule file =
      map_ascends (λ a b. a.at < b.at) Differ (issue_in file rule)
      (λ a b less.
      and_left ((file.number == file.number) && (a.at == b.at)) (rank rule == rank rule) (and_right (file.number == file.number) (a.at == b.at) (ne_eqb a.at b.at (λ e. omega (arith, e, less)))))
      (findings asked.naming used (facts_of (tokens_of file)) rule)
      (up_ascends found_at 0 (length file.source.tokens) (findings asked.naming used (facts_of (tokens_of file)) rule) (findings_up asked.naming used file.source.tokens rule))

  made_in : (rule : Rule) (file : File) (i : Issue) → Member i (issues_in asked used rule file) → (i.place.file ≡ file.number) × (i.rule ≡ rule)
  made_in rule file i m =
      let found = from-map (issue_in file rule) i (findings asked.naming used (facts_of (tokens_of file)) rule) m in
      (ap (λ v. v.place.file) found.1, ap (λ v. v.rule) found.1)

  files_disjoint : (rule : Rule) (file other : File) → IsBelow file other → (a b : Issue) → Member a (issues_in asked used rule file) → Member b (issues_in asked used rule other) → Differ a b
  files_disjoint rule file other less a b m n =
      let here = (made_in rule file a m).0 in
      let there = (made_in rule other b n).0 in
      and_left ((a.place.file == b.place.file) && (a.place.token == b.place.token)) (rank a.rule == rank b.rule) (and_left (a.place.file == b.place.file) (a.place.token == b.place.token) (ne_eqb a.place.file b.place.file (λ e. omega (arith, e, here, there, less))))

  of_rule : (rule : Rule) (files : List File) → Rising files → Ascends Differ (flat_map (issues_in asked used rule) files)
  of_rule rule files rising = flat_ascends (issues_in asked used rule) IsBelow Differ (of_file rule) (files_disjoint rule) files rising

  rules_disjoint : (files : List File) (rule other : Rule) → rank rule < rank other → (a b : Issue) → Member a (flat_map (issues_in asked used rule) files) → Member b (flat_map (issues_in asked used other) files) → Differ a b
  rules_disjoint files rule other less a b m n =
      let x = from_flat (issues_in asked used rule) a files m in
      let y = from_flat (issues_in asked used other) b files n in
      let here : rank a.rule ≡ rank rule = ap rank (made_in rule x.0 a x.2).1 in
      let there : rank b.rule ≡ rank other = ap rank (made_in other y.0 b y.2).1 in
      and_right ((a.place.file == b.place.file) && (a.place.token == b.place.token)) (rank a.rule == rank b.rule) (ne_eqb (rank a.rule) (rank b.rule) (λ e. omega (arith, e, here, there, less)))

-- the rules of a set in the order of their names
rules_ascend : (p : Rule → Bool) → Ascends (λ r s. rank r < rank s) (filter p all_rules)
rules_ascend p =
    up_ascends rank 0 10 (filter p all_rules) (up_filter rank p 0 10 all_rules (
      omega arith,
      (omega arith, (omega arith, (omega arith, (omega arith, (omega arith, (omega arith, (omega arith, (omega arith, (omega arith, omega arith))))))))),
    ))

-- THE LAW
pub reported_disjoint : (settings : Settings) (files : List File) → Rising files → Ascends Differ (reported_issues (asked_of settings) files)
reported_disjoint settings files rising =
    let used = all_references files in
    flat_ascends (λ rule. flat_map (issues_in (asked_of settings) used rule) files) (λ r s. rank r < rank s) Differ
    (λ rule. of_rule (asked_of settings) used rule files rising) (rules_disjoint (asked_of settings) used files) (rules_of settings.rules) (rules_ascend (holds settings.rules))
