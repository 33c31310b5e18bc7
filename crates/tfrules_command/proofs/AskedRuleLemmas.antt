-- Rules requested by name.
use Rattle.std.proofs.Common.{◌≡◌, ◌∙◌, ◌<◌, ◌≤◌, ℕ, Bool, true, false, cond, List, [], ◌∷◌, ◌++◌, length, map, codes, refl, sym, ap, arith}
use Rattle.std.proofs.lemmas.Bool.Decides.{nat_tests}
use Rattle.clap.specs.Words.{Row}
use Rattle.command_line.specs.Flags.{is_set}
use Rattle.std.specs.Prelude.{◌||◌, ◌&&◌, ◌==◌, Option, Some, None, Ok, Err, filter, nat_lt, option_map}
use Rattle.std.specs.List.{list_all, list_any, slice_split}
use Rattle.std.specs.Borrow.{Bor}
use Rattle.std.specs.Str.{bytes_eq}
use Rattle.std.proofs.lemmas.List.Folds.{list_all-append}
use Rattle.std.proofs.lemmas.Slice.Eq.{bytes_eq-Decides}
use Rattle.rule_set.specs.RuleSets.{holds, rules_of}
use Rattle.rule_set.specs.Rules.{all_rules, is_recommended, rule_name}
use Rattle.tf_rules.specs.declared.naming.Naming.{Naming}
use Rattle.rule_set.specs.declared.rule.Severity.{Severity}
use Rattle.tfrules_command.specs.declared.usage.Usage.TheVariants as usage
use Rattle.rule_set.specs.declared.rule.Rule.{Rule}
use Rattle.rule_set.specs.declared.rule_set.RuleSet.{RuleSet}
use Rattle.tfrules_command.specs.Line.{asking_for, request_with, each_once, has_name, max_files, naming_of_text, rules_asked, rules_named, severity_of_text, value_or}
use Rattle.tfrules_command.specs.Inner.Named.{Named}
use Rattle.tfrules_command.proofs.ListLemmas.{filter_same}

abbrev known : List ℕ → Bool
known name = list_any (has_name name) all_rules

none_named : (name : List ℕ) → ((rule : Rule) → rule_name rule ≡ name → ⊥) → (rules : List Rule) → list_any (has_name name) rules ≡ false
none_named name none [] = refl
none_named name none (r ∷ rs) = by (has_name name r) refl (none_named name none rs)
  where
    by : (b : Bool) → has_name name r ≡ b → list_any (has_name name) rs ≡ false → (has_name name r || list_any (has_name name) rs) ≡ false
    by true e rest = absurd (none r ((bytes_eq-Decides (rule_name r) name).0 e))
    by false e rest = ap (λ b. b || list_any (has_name name) rs) e ∙ rest

and_false : (a : Bool) → (a && (false && true)) ≡ false
and_false true = refl
and_false false = refl

pub not_named : (names : List (List ℕ)) (name : List ℕ) → ((rule : Rule) → rule_name rule ≡ name → ⊥) → list_all known (names ++ name ∷ []) ≡ false
not_named names name none =
    list_all-append known names (name ∷ []) ∙ ap (λ b. list_all known names && (b && true)) (none_named name none all_rules) ∙ and_false (list_all known names)

-- the request of a set that was built name by name
pub set_named : (names : List (List ℕ)) (set : Option RuleSet) → Named names set → option_map rules_of set ≡ rules_named names
set_named names None e = ap (λ b. cond b (Some (filter (λ rule. list_any (λ name. has_name name rule) names) all_rules)) None) (sym e)
set_named names (Some set) (e, h) =
    ap Some (filter_same (holds set) (λ rule. list_any (λ name. has_name name rule) names) all_rules h)
    ∙ ap (λ b. cond b (Some (filter (λ rule. list_any (λ name. has_name name rule) names) all_rules)) None) (sym e)

-- ---- the requests `default` and `all`

abbrev by_tests : Bool → Bool → List (List ℕ) → Option (List Rule)
by_tests default all names = cond default (Some (filter is_recommended all_rules)) (cond all (Some all_rules) (rules_named names))

pub default_asked : (text : List ℕ) (set : RuleSet) → bytes_eq text (codes "default") ≡ true → ((rule : Rule) → holds set rule ≡ is_recommended rule) → option_map rules_of (Some set) ≡ rules_asked text
default_asked text set e h =
    ap Some (filter_same (holds set) is_recommended all_rules h) ∙ ap (λ b. by_tests b (bytes_eq text (codes "all")) (slice_split (λ b. b == 44) text)) (sym e)

pub all_asked : (text : List ℕ) (set : RuleSet) → bytes_eq text (codes "default") ≡ false → bytes_eq text (codes "all") ≡ true → ((rule : Rule) → holds set rule ≡ true) → option_map rules_of (Some set) ≡ rules_asked text
all_asked text set d e h =
    ap Some (filter_same (holds set) (λ rule. true) all_rules h) ∙ ap (λ b. by_tests false b (slice_split (λ b. b == 44) text)) (sym e)
    ∙ ap (λ b. by_tests b (bytes_eq text (codes "all")) (slice_split (λ b. b == 44) text)) (sym d)

pub list_asked : (text : List ℕ) (set : Option RuleSet) → bytes_eq text (codes "default") ≡ false → bytes_eq text (codes "all") ≡ false → Named (slice_split (λ b. b == 44) text) set → option_map rules_of set ≡ rules_asked text
list_asked text set d e h =
    set_named (slice_split (λ b. b == 44) text) set h ∙ ap (λ b. by_tests false b (slice_split (λ b. b == 44) text)) (sym e)
    ∙ ap (λ b. by_tests b (bytes_eq text (codes "all")) (slice_split (λ b. b == 44) text)) (sym d)

-- ---- the options of a line

lt_true : (a b : ℕ) → a < b → nat_lt a b ≡ true
lt_true a b h = grind (arith, nat_tests)

lt_false : (a b : ℕ) → b ≤ a → nat_lt a b ≡ false
lt_false a b h = grind (arith, nat_tests)

pub too_many : (force : Bool) (files : List (List ℕ)) (rules : List Rule) (naming : Naming) (minimum : Severity) → max_files < length files → Err usage.TooManyFiles ≡ asking_for force files (Some rules) (Some naming) (Some minimum)
too_many force files rules naming minimum h =
    ap (λ b. cond b (Err usage.TooManyFiles) (Ok (record { asked = record { rules = rules; naming = naming }; minimum = minimum; force = force; files = each_once files })))
    (sym (lt_true max_files (length files) h))

pub few_enough : (force : Bool) (files : List (List ℕ)) (rules : List Rule) (naming : Naming) (minimum : Severity) (names : List (List ℕ)) → length files ≤ max_files → names ≡ each_once files
    → Ok (record { asked = record { rules = rules; naming = naming }; minimum = minimum; force = force; files = names }) ≡ asking_for force files (Some rules) (Some naming) (Some minimum)
few_enough force files rules naming minimum names h e =
    ap (λ l. Ok (record { asked = record { rules = rules; naming = naming }; minimum = minimum; force = force; files = l })) e
    ∙ ap (λ b. cond b (Err usage.TooManyFiles) (Ok (record { asked = record { rules = rules; naming = naming }; minimum = minimum; force = force; files = each_once files })))
    (sym (lt_false max_files (length files) h))

-- the request of a line with files, by the answers of the parts
pub with_files : (rows : List Row) (files : List (List ℕ)) (force : Bool) (rules : Option (List Rule)) (naming : Option Naming) (minimum : Option Severity)
    → 0 < length files → force ≡ is_set (codes "force") rows → rules ≡ rules_asked (value_or (codes "default") (codes "rules") rows)
    → naming ≡ naming_of_text (value_or (codes "snake_case") (codes "naming") rows) → minimum ≡ severity_of_text (value_or (codes "notice") (codes "minimum-failure-severity") rows)
    → asking_for force files rules naming minimum ≡ request_with rows (Some files)
with_files rows [] force rules naming minimum h f r n m = absurd (omega (arith, h))
with_files rows (x ∷ xs) force rules naming minimum h f r n m = (λ i. asking_for (f i) (x ∷ xs) (r i) (n i) (m i))

not_empty : (given : List (Bor (List ℕ))) (e : Bool) → e ≡ (length given == 0) → e ≡ false → 0 < length (map (λ name. name.now) given)
not_empty [] e is f = absurd (cc)
not_empty (x ∷ xs) e is f = omega arith

pub with_parts : (rows : List Row) (given : List (Bor (List ℕ))) (e force : Bool) (r n s : List ℕ) (rules : Option RuleSet) (naming : Option Naming) (minimum : Option Severity)
    → e ≡ (length given == 0) → e ≡ false → force ≡ is_set (codes "force") rows → r ≡ value_or (codes "default") (codes "rules") rows
    → n ≡ value_or (codes "snake_case") (codes "naming") rows → s ≡ value_or (codes "notice") (codes "minimum-failure-severity") rows
    → option_map rules_of rules ≡ rules_asked r → naming ≡ naming_of_text n → minimum ≡ severity_of_text s
    → asking_for force (map (λ name. name.now) given) (option_map rules_of rules) naming minimum ≡ request_with rows (Some (map (λ name. name.now) given))
with_parts rows given e force r n s rules naming minimum is f fe re ne se ra na sa =
    with_files rows (map (λ name. name.now) given) force (option_map rules_of rules) naming minimum (not_empty given e is f) fe (ra ∙ ap rules_asked re) (na ∙ ap naming_of_text ne) (sa ∙ ap severity_of_text se)
