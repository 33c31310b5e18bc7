-- Refusals that are kept for the end of a form, each as a remark.
use Rattle.std.specs.Prelude.{◌≡◌, ℕ, true, List, ◌++◌, Option, Some, None, map, string_bytes}
use Rattle.std.specs.Str.Lossy.{utf8_lossy}
use Rattle.hcl_source.specs.declared.fault.Position.{Position}
use Rattle.lint_forms.specs.Remarks.{Remark}
use Rattle.lint_forms.specs.declared.subject.Subject.TheVariants as subject
use Rattle.module_find.specs.Refusals.{Refusal}
use Rattle.module_find.specs.declared.kept.KeptRefusals.{KeptRefusals}
use Rattle.module_find.specs.declared.kept.KeptRefusal.{KeptRefusal}

-- a refusal without a place has the place 1:1
abbrev pub line_told : Option Position → ℕ
line_told None = 1
line_told (Some at) = at.line

abbrev pub column_told : Option Position → ℕ
column_told None = 1
column_told (Some at) = at.column

-- A REFUSAL AS A REMARK: forms are UTF-8, and so is the name in a remark
abbrev pub refusal_remark : Refusal → Remark
refusal_remark r =
    record {
      file = utf8_lossy r.name;
      line = line_told r.at;
      column = column_told r.at;
      subject = subject.Refusal;
      text = r.text;
    }

-- a kept refusal as a remark
abbrev pub kept_remark : KeptRefusal → Remark
kept_remark k =
    record {
      file = string_bytes k.name;
      line = k.line;
      column = k.column;
      subject = subject.Refusal;
      text = string_bytes k.text;
    }

-- these refusals are kept, and no others, unless one is missing
abbrev pub HoldsAll : KeptRefusals → List Refusal → Type 0
HoldsAll kept rs =
    kept.is_whole ≡ true → map kept_remark kept.refusals.items ≡ map refusal_remark rs

-- these refusals are kept after others, unless one is missing
abbrev pub KeepsAll : KeptRefusals → KeptRefusals → List Refusal → Type 0
KeepsAll old new rs =
    new.is_whole ≡ true → (old.is_whole ≡ true)
    × (map kept_remark new.refusals.items
    ≡ map kept_remark old.refusals.items ++ map refusal_remark rs)
