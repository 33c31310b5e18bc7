-- The meaning of a list of rules, such as `all,-terraform_typed_variables`: names with commas between them, each of
-- which adds its rules, or removes them after a dash. Our own choice.
use Rattle.std.specs.Prelude.{◌==◌, ℕ, Bool, true, false, not, List, [], Result, Ok, Err, codes, drop, filter, find, fold, option_map, unwrap_or, if◌then◌else◌}
use Rattle.std.specs.List.{list_all, list_any, slice_split, starts_with}
use Rattle.std.specs.Str.{bytes_eq}
use Rattle.rule_set.specs.Rules.{all_rules, is_recommended, rule_name}
use Rattle.rule_set.specs.RuleSets.{rules_of}
use Rattle.rule_set.specs.declared.rule.Rule.{Rule}
use Rattle.rule_set.specs.declared.rule_set.RuleSet.{RuleSet}
use Rattle.module_config.specs.declared.list_fault.ListFault.{ListFault}
use Rattle.module_config.specs.declared.list_fault.ListFault.TheVariants.{UnknownRule, NoneLeft}

abbrev pub is_rule_named : List ℕ → Rule → Bool
is_rule_named name rule = bytes_eq (rule_name rule) name

-- the rules of a name: `all` means each, `default` the recommended ones, and any other its own
abbrev pub stands_for : List ℕ → Rule → Bool
stands_for name rule =
    if bytes_eq name (codes "all") then true
    else (if bytes_eq name (codes "default") then is_recommended rule else is_rule_named name rule)

-- a part of a list removes its rules if it begins with a dash
abbrev pub takes_away : List ℕ → Bool
takes_away part = starts_with (λ a b. a == b) part (codes "-")

-- the name in it
abbrev pub part_name : List ℕ → List ℕ
part_name part = if takes_away part then drop 1 part else part

abbrev pub is_known_part : List ℕ → Bool
is_known_part part = list_any (stands_for (part_name part)) all_rules

-- A RULE IS REQUESTED by the parts in turn: the last that covers it decides
abbrev pub is_asked_after : Rule → Bool → List ℕ → Bool
is_asked_after rule before part =
    if stands_for (part_name part) rule then not (takes_away part) else before

abbrev pub is_asked : List (List ℕ) → Rule → Bool
is_asked parts rule = fold (is_asked_after rule) false parts

abbrev pub rules_of_parts : List (List ℕ) → Result (List Rule) ListFault
rules_of_parts parts =
    if list_all is_known_part parts
    then (if list_any (is_asked parts) all_rules then Ok (filter (is_asked parts) all_rules)
    else Err NoneLeft)
    else Err UnknownRule

-- THE RULES of a list, in the order of their names
abbrev pub rules_in : List ℕ → Result (List Rule) ListFault
rules_in list = rules_of_parts (slice_split (λ b. b == 44) list)

-- THE NAME that is reported if a text isn't a list: the first that isn't a rule's
abbrev pub unknown_in : List ℕ → List ℕ
unknown_in list =
    unwrap_or
    (option_map part_name
    (find (λ part. not (is_known_part part)) (slice_split (λ b. b == 44) list))) []

-- the rules of a set that represents a list
abbrev pub rules_found : Result RuleSet ListFault → Result (List Rule) ListFault
rules_found (Ok set) = Ok (rules_of set)
rules_found (Err fault) = Err fault
