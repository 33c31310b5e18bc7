-- The ranks of rules are in the order of their names.
use Rattle.std.proofs.Common.{◌≡◌, refl}
use Rattle.std.specs.Cmp.Lexicographic.{slice_cmp}
use Rattle.std.specs.Ordering.{nat_cmp}
use Rattle.rule_set.specs.Rules.{rule_name, rank}
use Rattle.rule_set.specs.declared.rule.Rule.{Rule}
use Rattle.rule_set.specs.declared.rule.Rule.TheVariants.{CommentSyntax, DeprecatedIndex, DeprecatedInterpolation, DocumentedOutputs, DocumentedVariables, ModulePinnedSource, ModuleVersion, NamingConvention, TypedVariables, UnusedDeclarations}

pub ranked : (a b : Rule) → nat_cmp (rank a) (rank b) ≡ slice_cmp nat_cmp (rule_name a) (rule_name b)
ranked CommentSyntax CommentSyntax = refl
ranked DeprecatedIndex DeprecatedIndex = refl
ranked DeprecatedInterpolation DeprecatedInterpolation = refl
ranked DocumentedOutputs DocumentedOutputs = refl
ranked DocumentedVariables DocumentedVariables = refl
ranked ModulePinnedSource ModulePinnedSource = refl
ranked ModuleVersion ModuleVersion = refl
ranked NamingConvention NamingConvention = refl
ranked TypedVariables TypedVariables = refl
ranked UnusedDeclarations UnusedDeclarations = refl
ranked _ _ = refl
