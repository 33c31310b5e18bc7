-- The kinds of tokens that occur in expressions.
use Rattle.std.specs.Prelude.{Bool, true, false}
use Rattle.hcl_tokens.specs.declared.token.Kind.{Kind}
use Rattle.hcl_tokens.specs.declared.token.Kind.TheVariants.{Lit, InterpOpen, ControlOpen, QuoteClose, HeredocClose}

abbrev pub in_expressions : Kind → Bool
in_expressions Lit = false
in_expressions InterpOpen = false
in_expressions ControlOpen = false
in_expressions QuoteClose = false
in_expressions HeredocClose = false
in_expressions _ = true
