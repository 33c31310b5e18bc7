-- Marks that identify issues, comments and refusals when lines move: the rule, or its substitute, the file and the
-- message, and a number among the remarks that have all of these alike. Our own choice.
use Rattle.std.specs.Prelude.{ℕ, ◌+◌, ◌++◌, List, [], ◌∷◌, codes, count_by, decimal}
use Rattle.std.specs.Str.{bytes_eq}
use Rattle.hex.specs.Hex.{encode_lower}
use Rattle.sha2.specs.Sha256.{sha256}
use Rattle.lint_forms.specs.Remarks.{Remark}
use Rattle.lint_forms.specs.Words.{rule_id}

abbrev pub mark_key : Remark → List ℕ
mark_key r = rule_id r.subject ++ (0 ∷ []) ++ r.file ++ (0 ∷ []) ++ r.text

abbrev pub digits : Remark → List ℕ
digits r = encode_lower (sha256 (mark_key r))

-- THE MARK of one of these digits and this number
abbrev pub mark : List ℕ → ℕ → List ℕ
mark digits number = digits ++ (codes ":" ++ decimal number)

-- a remark, and its mark
pub record MarkedRemark : Type 0 where
  pub said : Remark
  pub mark : List ℕ

-- a remark after others
abbrev pub entry_after : List Remark → Remark → MarkedRemark
entry_after before r =
    record {
      said = r;
      mark = mark (digits r) (count_by (λ q. bytes_eq (digits r) (digits q)) before + 1);
    }

abbrev pub entries_after : List Remark → List Remark → List MarkedRemark
entries_after before [] = []
entries_after before (r ∷ rs) = entry_after before r ∷ entries_after (before ++ r ∷ []) rs

-- THE REMARKS of a module, each with its mark
abbrev pub entries : List Remark → List MarkedRemark
entries rs = entries_after [] rs
