-- Line comments that silence issues. After its mark, `#` or `//`, and blanks, such a comment begins with
-- `tflint-ignore:`; after that, up to another `#`, it has the names of rules between commas, or `all`. It silences the
-- issues of these rules on its own line and on the line below. Our own choice, after TFLint's annotations.
use Rattle.std.specs.Prelude.{ℕ, ◌==◌, ◌||◌, Bool, List, [], codes, length, drop, filter, if◌then◌else◌}
use Rattle.std.specs.List.{list_any, before_first, slice_split}
use Rattle.std.specs.Str.{bytes_eq}
use Rattle.hcl_tokens.specs.Spelling.{is_blank}
use Rattle.tf_facts.specs.Texts.{begins, without_front, without_end}
use Rattle.rule_set.specs.Rules.{all_rules, rule_name}
use Rattle.rule_set.specs.declared.rule.Rule.{Rule}

abbrev pub has_slashes : List ℕ → Bool
has_slashes text = begins (codes "//") text

-- a comment without its mark
abbrev pub without_mark : List ℕ → List ℕ
without_mark text = if has_slashes text then drop 2 text else drop 1 text

-- a space, a tab or a CR
abbrev pub is_margin : ℕ → Bool
is_margin b = is_blank b || (b == 13)

abbrev pub trim_blanks : List ℕ → List ℕ
trim_blanks part = without_end is_margin (without_front is_margin part)

abbrev pub keyword : List ℕ
keyword = codes "tflint-ignore:"

-- the text of a comment after its mark and blanks
abbrev pub comment_words : List ℕ → List ℕ
comment_words text = without_front is_blank (without_mark text)

-- the parts between commas after the keyword, up to a `#`
abbrev pub parts : List ℕ → List (List ℕ)
parts rest =
    if begins keyword rest
    then slice_split (λ b. b == 44) (before_first (λ b. b == 35) (drop (length keyword) rest))
    else []

abbrev pub names : Rule → List ℕ → Bool
names rule part = bytes_eq part (codes "all") || bytes_eq part (rule_name rule)

-- THE RULES that the comment of this text silences
abbrev pub silences : List ℕ → Rule → Bool
silences text rule = list_any (λ part. names rule (trim_blanks part)) (parts (comment_words text))

abbrev pub silenced_rules : List ℕ → List Rule
silenced_rules text = filter (silences text) all_rules
