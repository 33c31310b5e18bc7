-- What each rule reports, and why: in the words of docs/RULES.md.
use Rattle.std.specs.Prelude.{ℕ, List, codes}
use Rattle.rule_set.specs.declared.rule.Rule.{Rule}
use Rattle.rule_set.specs.declared.rule.Rule.TheVariants.{CommentSyntax, DeprecatedIndex, DeprecatedInterpolation, DocumentedOutputs, DocumentedVariables, ModulePinnedSource, ModuleVersion, NamingConvention, TypedVariables, UnusedDeclarations}

-- what it reports, as the end of a sentence
abbrev pub reports : Rule → List ℕ
reports CommentSyntax = codes "comments that begin with `//`"
reports DeprecatedIndex = codes "`list.0` instead of `list[0]`"
reports DeprecatedInterpolation = codes "`\"${var.name}\"` instead of `var.name`"
reports DocumentedOutputs = codes "outputs without a description"
reports DocumentedVariables = codes "variables without a description"
reports ModulePinnedSource = codes "modules from git or Mercurial at no fixed revision"
reports ModuleVersion = codes "modules from a registry without a version"
reports NamingConvention = codes "names that don't follow the naming"
reports TypedVariables = codes "variables without a type"
reports UnusedDeclarations = codes "variables, locals and data sources that nothing refers to"

abbrev pub reason : Rule → List ℕ
reason CommentSyntax =
    codes
    "Both marks mean the same; using only one is easier to read, and Terraform's own style guide asks for `#`."
reason DeprecatedIndex =
    codes
    "This is how an element of a list was written before Terraform 0.12; `terraform fmt` leaves it, and readers take it for a name."
reason DeprecatedInterpolation =
    codes
    "Since Terraform 0.12 an expression needs no quotes around it; the quotes make a reader believe that the value is a text."
reason DocumentedOutputs =
    codes
    "Users of a module see its outputs in the registry and in plans, and have only the description to understand them."
reason DocumentedVariables = codes "Callers of a module see its variables by name and description."
reason ModulePinnedSource =
    codes
    "What is fetched changes although the configuration doesn't: plans of today and tomorrow differ for no reason that the repository shows."
reason ModuleVersion =
    codes "Without a version each `terraform init` takes the newest, whatever that breaks."
reason NamingConvention =
    codes
    "With one naming throughout, a reader of a reference need not wonder how its name is written."
reason TypedVariables =
    codes "Without a type any value is accepted, and a wrong one fails far from where it was set."
reason UnusedDeclarations =
    codes
    "What nothing refers to can be removed, and a data source that nothing refers to is still read in each plan."
