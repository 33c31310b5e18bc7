-- Whether an open opener is closed directly before a closing quote, token by token, as the code finds it.
use Rattle.std.specs.Prelude.{◌≡◌, ◌==◌, ℕ, Bool, false, List, get_or, reverse, if◌then◌else◌}
use Rattle.hcl_tokens.specs.Balanced.{closer_count, opener_count}
use Rattle.hcl_tokens.specs.Kinds.{is}
use Rattle.hcl_tokens.specs.declared.token.Kind.{Kind}
use Rattle.hcl_tokens.specs.declared.token.Kind.TheVariants as kind
use Rattle.hcl_grammar.specs.Numbered.{is_passed_over}
use Rattle.hcl_tokens.specs.Lexemes.{Lexeme}
use Rattle.tf_facts.specs.Patterns.{begins_with_close, after_closer}
use Rattle.tf_facts.specs.Seen.{seen_from}
use Rattle.tf_facts.specs.declared.role.Role.{Role}
use Rattle.tf_facts.specs.declared.role.Role.TheVariants as part

-- the significant tokens from a number on begin with a closing quote
abbrev pub quote_from : List Lexeme → ℕ → Bool
quote_from tokens n = begins_with_close (seen_from tokens n)

-- a closing quote follows the closer of an open opener, with `depth` more openers open inside it
abbrev pub closes_before_quote : List Lexeme → ℕ → ℕ → Bool
closes_before_quote tokens depth n = begins_with_close (after_closer depth (seen_from tokens n))

-- the answers by depth: the last is for the innermost opener, the one before it for the next, and so on
abbrev pub AreAhead : List Lexeme → List Bool → ℕ → Type 0
AreAhead tokens ahead n = (depth : ℕ) → get_or (reverse ahead) depth false ≡ closes_before_quote tokens depth n

-- the part of a token's kind in the walk that finds patterns
abbrev pub role_of : Kind → Role
role_of k =
    if is kind.LineComment k then part.LineComment
    else if is_passed_over k then part.PassedOver
    else if is kind.Dot k then part.Dot
    else if is kind.QuoteOpen k then part.QuoteOpen
    else if opener_count k == 1 then part.Opens
    else if closer_count k == 1 then part.Closes
    else part.Plain
