-- Whether two kinds of tokens are the same, for the scan, the items, the rules and the layout. The set of kinds is the
-- scan's own choice, after the HCL Native Syntax Specification.
use Rattle.std.specs.Prelude.{Bool}
use Rattle.hcl_tokens.specs.declared.token.Kind.{Kind}
use Rattle.hcl_tokens.specs.contracts.token.KindPartialEq.TheImpl as derived

-- whether the second is the first, by the equality that is derived for kinds
abbrev pub is : Kind → Kind → Bool
is = (derived.ghosts).eq
