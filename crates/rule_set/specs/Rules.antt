-- The ten rules, their names, and the severity of their issues. The names are those of rules of TFLint's Terraform rule
-- set; the reports of each, the severities and the recommended set are our own choice.
use Rattle.std.specs.Prelude.{ℕ, Bool, true, false, List, [], ◌∷◌, codes}
use Rattle.std.specs.List.{position_or_len}
use Rattle.std.specs.Str.{bytes_eq}
use Rattle.rule_set.specs.declared.rule.Rule.{Rule}
use Rattle.rule_set.specs.declared.rule.Rule.TheVariants.{CommentSyntax, DeprecatedIndex, DeprecatedInterpolation, DocumentedOutputs, DocumentedVariables, ModulePinnedSource, ModuleVersion, NamingConvention, TypedVariables, UnusedDeclarations}
use Rattle.rule_set.specs.declared.rule.Severity.{Severity}
use Rattle.rule_set.specs.declared.rule.Severity.TheVariants.{Notice, Warning, Error}

abbrev pub rule_name : Rule → List ℕ
rule_name CommentSyntax = codes "terraform_comment_syntax"
rule_name DeprecatedIndex = codes "terraform_deprecated_index"
rule_name DeprecatedInterpolation = codes "terraform_deprecated_interpolation"
rule_name DocumentedOutputs = codes "terraform_documented_outputs"
rule_name DocumentedVariables = codes "terraform_documented_variables"
rule_name ModulePinnedSource = codes "terraform_module_pinned_source"
rule_name ModuleVersion = codes "terraform_module_version"
rule_name NamingConvention = codes "terraform_naming_convention"
rule_name TypedVariables = codes "terraform_typed_variables"
rule_name UnusedDeclarations = codes "terraform_unused_declarations"

abbrev pub severity : Rule → Severity
severity DocumentedOutputs = Notice
severity DocumentedVariables = Notice
severity NamingConvention = Notice
severity _ = Warning

-- in the order of the names
abbrev pub all_rules : List Rule
all_rules =
    CommentSyntax ∷ DeprecatedIndex ∷ DeprecatedInterpolation ∷ DocumentedOutputs
    ∷ DocumentedVariables ∷ ModulePinnedSource ∷ ModuleVersion ∷ NamingConvention ∷ TypedVariables
    ∷ UnusedDeclarations ∷ []

-- both are one rule, since no two have one name
abbrev pub is_rule : Rule → Rule → Bool
is_rule a b = bytes_eq (rule_name a) (rule_name b)

-- the place of a rule in the order of the names
abbrev pub rank : Rule → ℕ
rank rule = position_or_len (is_rule rule) all_rules

-- the default rules
abbrev pub is_recommended : Rule → Bool
is_recommended CommentSyntax = false
is_recommended DocumentedOutputs = false
is_recommended DocumentedVariables = false
is_recommended NamingConvention = false
is_recommended _ = true

abbrev pub severity_text : Severity → List ℕ
severity_text Notice = codes "Notice"
severity_text Warning = codes "Warning"
severity_text Error = codes "Error"
