use Rattle.std.proofs.Common.{◌≡◌, ◌++◌, take}
use Rattle.std.specs.List.{flat_map}
use Rattle.tf_rules.specs.Inner.Entries.{issues_declared, issues_of}
use Rattle.tf_rules.specs.Inner.StoredViews.{stored_declaration}
use Rattle.tf_rules.proofs.findings.push_declarations.Given as goal

abbrev pub invariant-loop-declaration : goal.invariant-loop-declaration
invariant-loop-declaration l = issues_of l.entries.items ≡ issues_of l.fn.entries.items ++ flat_map (λ x. issues_declared l.settings l.used (stored_declaration x)) (take l.declaration-index l.declarations)
