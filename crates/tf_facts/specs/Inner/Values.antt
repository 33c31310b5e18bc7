-- The values of attributes, as the code finds them.
use Rattle.std.specs.Prelude.{◌≡◌, ◌<◌, ◌+◌, ◌-◌, ◌&&◌, ◌||◌, ℕ, Bool, not, List, ◌∷◌, codes, drop, filter, find, take}
use Rattle.std.specs.Option.{option_map, option_or}
use Rattle.std.specs.Str.{bytes_eq}
use Rattle.hcl_tokens.specs.Kinds.{is}
use Rattle.hcl_tokens.specs.declared.token.Kind.TheVariants.{Newline}
use Rattle.hcl_tokens.specs.Lexemes.{Lexeme}
use Rattle.hcl_grammar.specs.Numbered.{Numbered, is_comment, number_tokens}
use Rattle.tf_facts.specs.Declarations.{Attribute, PlainText, has}
use Rattle.tf_facts.specs.Seen.{numbered_of}
use Rattle.tf_facts.specs.declared.value.Body.{Body}
use Rattle.tf_facts.specs.declared.value.Value.{Value}
use Rattle.tf_facts.specs.declared.value.Plain.{Plain}
use Rattle.tf_facts.specs.declared.seen.SeenToken.{SeenToken}

abbrev pub in_value : Numbered → Bool
in_value t = not (is_comment t.kind) && not (is Newline t.kind)

-- the tokens from a number on to before another, without comments and newlines
abbrev pub values : List Lexeme → ℕ → ℕ → List Numbered
values tokens from to = filter in_value (take (to - from) (drop from (number_tokens tokens)))

-- the token is the first of the value's tokens in this range
pub record IsFirstValue (tokens : List Lexeme) (from to : ℕ) (t : SeenToken) : Type 0 where
  pub first : values tokens from to ≡ numbered_of t ∷ values tokens (t.number + 1) to
  pub within : t.number < to

abbrev pub value_of_attribute : Attribute → Value
value_of_attribute a = record { first = a.first; end = a.end }

-- the body of a block with these attributes
abbrev pub body_of : List Attribute → Body
body_of attributes = record {
  is_described = has (codes "description") attributes;
  is_typed = has (codes "type") attributes;
  is_versioned = has (codes "version") attributes;
  source = option_map value_of_attribute (find (λ a. bytes_eq a.name (codes "source")) attributes);
}

-- the body of two lists of attributes, one after the other
abbrev pub append_bodies : Body → Body → Body
append_bodies one other = record {
  is_described = one.is_described || other.is_described;
  is_typed = one.is_typed || other.is_typed;
  is_versioned = one.is_versioned || other.is_versioned;
  source = option_or one.source other.source;
}

abbrev pub plain_text_of : Plain → PlainText
plain_text_of p = record { quote = p.quote; text = p.text.now }
