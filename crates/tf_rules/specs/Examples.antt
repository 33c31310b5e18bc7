-- Worked examples of the definitions on small files, by computation.
use Rattle.std.specs.Prelude.{◌≡◌, ℕ, refl, List, [], ◌∷◌, codes, true, false}
use Rattle.hcl_tokens.specs.Lexemes.{Lexeme}
use Rattle.hcl_tokens.specs.declared.token.Kind.{Kind}
use Rattle.hcl_tokens.specs.declared.token.Kind.TheVariants.{Newline, Ident, Number, QuoteOpen, BraceOpen, BraceClose, Dot, Assign, Lit, InterpOpen, SeqClose, QuoteClose}
use Rattle.hcl_grammar.specs.Numbered.{number_tokens}
use Rattle.tf_facts.specs.Facts.{facts_of}
use Rattle.tf_facts.specs.References.{references}
use Rattle.rule_set.specs.declared.rule.Rule.TheVariants.{NamingConvention, ModulePinnedSource, UnusedDeclarations, DeprecatedIndex as OldIndex}
use Rattle.tf_rules.specs.Findings.{findings}
use Rattle.tf_rules.specs.Naming.{matches_naming}
use Rattle.tf_rules.specs.declared.naming.Naming.TheVariants.{SnakeCase, MixedSnakeCase}

abbrev token : Kind → List ℕ → Lexeme
token kind text = record { kind = kind; text = text; start = 0; inside_heredoc = false }

-- ---- namings

words : matches_naming SnakeCase (codes "a1_b2") ≡ true
words = refl

two_signs : matches_naming SnakeCase (codes "a__b") ≡ false
two_signs = refl

sign_in_front : matches_naming MixedSnakeCase (codes "_a") ≡ false
sign_in_front = refl

sign_at_end : matches_naming MixedSnakeCase (codes "a_") ≡ false
sign_at_end = refl

dash : matches_naming MixedSnakeCase (codes "a-b") ≡ false
dash = refl

mixed : matches_naming MixedSnakeCase (codes "Ab_C") ≡ true
mixed = refl

not_snake : matches_naming SnakeCase (codes "Ab_C") ≡ false
not_snake = refl

-- ---- findings

-- module "M" {
--   source = "github.com/a/b?ref=main"
-- }
abbrev module_m : List Lexeme
module_m =
    token Ident (codes "module") ∷ token QuoteOpen (codes "\"") ∷ token Lit (codes "M") ∷ token QuoteClose (codes "\"") ∷ token BraceOpen (codes "{") ∷ token Newline (codes "\n")
    ∷ token Ident (codes "source") ∷ token Assign (codes "=") ∷ token QuoteOpen (codes "\"") ∷ token Lit (codes "github.com/a/b?ref=main") ∷ token QuoteClose (codes "\"") ∷ token Newline (codes "\n")
    ∷ token BraceClose (codes "}") ∷ token Newline (codes "\n") ∷ []

misnamed : findings SnakeCase [] (facts_of (number_tokens module_m)) NamingConvention ≡ record { at = 0; message = codes "module name \"M\" must match snake_case" } ∷ []
misnamed = refl

on_a_branch : findings SnakeCase [] (facts_of (number_tokens module_m)) ModulePinnedSource ≡
    record { at = 8; message = codes "module \"M\" source uses a default branch: main" } ∷ []
on_a_branch = refl

-- data "t" "k" {}
abbrev data_k : List Lexeme
data_k =
    token Ident (codes "data") ∷ token QuoteOpen (codes "\"") ∷ token Lit (codes "t") ∷ token QuoteClose (codes "\"") ∷ token QuoteOpen (codes "\"") ∷ token Lit (codes "k") ∷ token QuoteClose (codes "\"")
    ∷ token BraceOpen (codes "{") ∷ token BraceClose (codes "}") ∷ token Newline (codes "\n") ∷ []

unused_data : findings SnakeCase (codes "data.t.n" ∷ []) (facts_of (number_tokens data_k)) UnusedDeclarations ≡
    record { at = 0; message = codes "data \"t\" \"k\" is declared but not used" } ∷ []
unused_data = refl

-- locals {
--   Bad = "${var.n}"
--   u   = aws.x.0
-- }
abbrev two_locals : List Lexeme
two_locals =
    token Ident (codes "locals") ∷ token BraceOpen (codes "{") ∷ token Newline (codes "\n")
    ∷ token Ident (codes "Bad") ∷ token Assign (codes "=") ∷ token QuoteOpen (codes "\"") ∷ token InterpOpen (codes "${") ∷ token Ident (codes "var") ∷ token Dot (codes ".") ∷ token Ident (codes "n")
    ∷ token SeqClose (codes "}") ∷ token QuoteClose (codes "\"") ∷ token Newline (codes "\n")
    ∷ token Ident (codes "u") ∷ token Assign (codes "=") ∷ token Ident (codes "aws") ∷ token Dot (codes ".") ∷ token Ident (codes "x") ∷ token Dot (codes ".") ∷ token Number (codes "0") ∷ token Newline (codes "\n")
    ∷ token BraceClose (codes "}") ∷ token Newline (codes "\n") ∷ []

unused_locals : findings SnakeCase (references (number_tokens two_locals)) (facts_of (number_tokens two_locals)) UnusedDeclarations ≡
    record { at = 3; message = codes "local \"Bad\" is declared but not used" } ∷ record { at = 13; message = codes "local \"u\" is declared but not used" } ∷ []
unused_locals = refl

old_index : findings SnakeCase [] (facts_of (number_tokens two_locals)) OldIndex ≡ record { at = 18; message = codes "list items should be accessed using square brackets" } ∷ []
old_index = refl
