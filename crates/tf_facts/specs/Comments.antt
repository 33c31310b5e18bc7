-- The line comments that rules need: those that begin with `//`, and those that silence a rule.
use Rattle.std.specs.Prelude.{ℕ, ◌||◌, Bool, true, false, List, [], ◌∷◌, if◌then◌else◌}
use Rattle.std.specs.List.{flat_map}
use Rattle.hcl_tokens.specs.Kinds.{is}
use Rattle.hcl_tokens.specs.declared.token.Kind.TheVariants as kind
use Rattle.hcl_grammar.specs.Numbered.{Numbered}
use Rattle.tf_facts.specs.Silencing.{has_slashes, silenced_rules}
use Rattle.rule_set.specs.declared.rule.Rule.{Rule}

-- A comment, by the place of its token.
pub record Comment (P : Type 0) : Type 0 where
  pub at : P
  pub slashes : Bool  -- it begins with `//`
  pub silences : List Rule  -- each rule once, in the order of the names

abbrev pub is_any : List Rule → Bool
is_any [] = false
is_any (r ∷ rs) = true

abbrev pub if_telling : Comment ℕ → List (Comment ℕ)
if_telling c = if c.slashes || is_any c.silences then c ∷ [] else []

abbrev pub comment_of : Numbered → List (Comment ℕ)
comment_of t =
    if is kind.LineComment t.kind
    then if_telling (record {
      at = t.number;
      slashes = has_slashes t.text;
      silences = silenced_rules t.text;
    })
    else []

-- THE COMMENTS of numbered tokens, in order
abbrev pub comments : List Numbered → List (Comment ℕ)
comments ts = flat_map comment_of ts
