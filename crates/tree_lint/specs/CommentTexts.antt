-- Messages about comments that are meant to silence a rule and don't. Our own choice.
use Rattle.std.specs.Prelude.{ℕ, Bool, not, List, [], ◌∷◌, ◌++◌, codes, filter, flat_map, map, if◌then◌else◌}
use Rattle.std.specs.List.{list_any}
use Rattle.file_tree.specs.Quotes.{in_quotes}
use Rattle.rule_set.specs.Rules.{all_rules}
use Rattle.tf_facts.specs.Silencing.{comment_words, names, parts, trim_blanks}
use Rattle.tf_facts.specs.Texts.{begins}

-- a name in a silencing comment means a rule, or all
abbrev pub is_known : List ℕ → Bool
is_known name = list_any (λ rule. names rule name) all_rules

-- the names in the comment of this text that mean none
abbrev pub unknown_names : List ℕ → List (List ℕ)
unknown_names text =
    filter (λ name. not (is_known name)) (map trim_blanks (parts (comment_words text)))

-- ` or "NAME"`
abbrev pub or_name : List ℕ → List ℕ
or_name name = codes " or " ++ in_quotes name

-- `no rule is called "NAME" or "NAME"`
abbrev pub unknown_text : List (List ℕ) → List ℕ
unknown_text [] = []
unknown_text (n ∷ ns) = codes "no rule is called " ++ (in_quotes n ++ flat_map or_name ns)

-- TFLint's comment for a whole file
abbrev pub has_file_keyword : List ℕ → Bool
has_file_keyword text = begins (codes "tflint-ignore-file:") (comment_words text)

-- THE MESSAGE about the line comment of this text: none for most
abbrev pub fault_text : List ℕ → List ℕ
fault_text text =
    if has_file_keyword text then codes "tflint-ignore-file silences nothing here"
    else unknown_text (unknown_names text)
