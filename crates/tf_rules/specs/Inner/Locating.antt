-- A walk through the tokens of a file, and the tokens that it can reach one after another.
use Rattle.std.specs.Prelude.{◌≡◌, ◌<◌, ◌≤◌, ◌++◌, ℕ, List, [], ◌∷◌, Option, Some, None, drop, length, map}
use Rattle.std.specs.List.{flat_map}
use Rattle.hcl_tokens.specs.Lexemes.{Lexeme}
use Rattle.hcl_grammar.specs.Verdict.{start_of}
use Rattle.tf_facts.specs.Declarations.{Declaration, SourceAt}
use Rattle.tf_rules.specs.Issues.{File}

-- a file, and the offset of the last token whose place was requested
pub record Locating : Type 0 where
  pub file : File
  pub reached : ℕ

-- from an offset on, the walk can reach the tokens with these numbers
abbrev pub Forward : List Lexeme → ℕ → List ℕ → Type 0
Forward tokens reached [] = Unit {0}
Forward tokens reached (n ∷ ns) = (n < length tokens) × (reached ≤ start_of tokens n) × Forward tokens (start_of tokens n) ns

-- the offset after these tokens
abbrev pub reached_after : List Lexeme → ℕ → List ℕ → ℕ
reached_after tokens reached [] = reached
reached_after tokens reached (n ∷ ns) = reached_after tokens (start_of tokens n) ns

abbrev pub advance : Locating → List ℕ → Locating
advance p numbers = record { file = p.file; reached = reached_after p.file.source.tokens p.reached numbers }

-- the walk can reach these tokens
abbrev pub CanAdvance : Locating → List ℕ → Type 0
CanAdvance p numbers = Forward p.file.source.tokens p.reached numbers

-- ---- the tokens in facts, in order

abbrev pub quotes : Option (SourceAt ℕ) → List ℕ
quotes None = []
quotes (Some s) = s.at ∷ []

abbrev pub numbers_of : Declaration ℕ → List ℕ
numbers_of d = d.at ∷ quotes d.source

-- ---- a loop over facts

-- the stored facts, together with the remaining ones, are all of them, and the walk can go on
pub record IsKeeping {X K V : Type 0} (view : K → V) (whole : X → V) (numbers : X → List ℕ) (file : File) (all : List X) (kept : List K) (n : ℕ) (p : Locating) : Type 0 where
  pub so_far : map view kept ++ map whole (drop n all) ≡ map whole all
  pub same : p.file ≡ file
  pub ahead : Forward file.source.tokens p.reached (flat_map numbers (drop n all))
