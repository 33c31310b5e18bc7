-- Worked examples of names and their occurrences in small files, by computation.
use Rattle.std.specs.Prelude.{◌≡◌, ℕ, refl, true, false, List, [], ◌∷◌, codes}
use Rattle.hcl_grammar.specs.Numbered.{number_tokens}
use Rattle.hcl_tokens.specs.Lexemes.{Lexeme}
use Rattle.hcl_tokens.specs.Scanned.{Scanned}
use Rattle.hcl_tokens.specs.declared.token.Kind.{Kind}
use Rattle.hcl_tokens.specs.declared.token.Kind.TheVariants as kind
use Rattle.tf_names.specs.Names.{Variable, Local, Data, Module, name_references, occurrences}
use Rattle.tf_names.specs.declared.occurrence.OccurrenceKind.TheVariants.{Declaration, Reference}

abbrev token : ℕ → Kind → List ℕ → Lexeme
token start kind text = record { kind = kind; text = text; start = start; inside_heredoc = false }

abbrev in_heredoc : ℕ → Kind → List ℕ → Lexeme
in_heredoc start kind text = record { kind = kind; text = text; start = start; inside_heredoc = true }

-- data "t" "n" {}
-- locals {
--   l = data.t.n
-- }
abbrev small : Scanned
small = record {
  text = codes "data \"t\" \"n\" {}\nlocals {\n  l = data.t.n\n}\n";
  tokens =
      token 0 kind.Ident (codes "data") ∷ token 5 kind.QuoteOpen (codes "\"")
      ∷ token 6 kind.Lit (codes "t") ∷ token 7 kind.QuoteClose (codes "\"")
      ∷ token 9 kind.QuoteOpen (codes "\"") ∷ token 10 kind.Lit (codes "n")
      ∷ token 11 kind.QuoteClose (codes "\"") ∷ token 13 kind.BraceOpen (codes "{")
      ∷ token 14 kind.BraceClose (codes "}") ∷ token 15 kind.Newline (codes "\n")
      ∷ token 16 kind.Ident (codes "locals") ∷ token 23 kind.BraceOpen (codes "{")
      ∷ token 24 kind.Newline (codes "\n") ∷ token 27 kind.Ident (codes "l")
      ∷ token 29 kind.Assign (codes "=") ∷ token 31 kind.Ident (codes "data")
      ∷ token 35 kind.Dot (codes ".") ∷ token 36 kind.Ident (codes "t")
      ∷ token 37 kind.Dot (codes ".") ∷ token 38 kind.Ident (codes "n")
      ∷ token 39 kind.Newline (codes "\n") ∷ token 40 kind.BraceClose (codes "}")
      ∷ token 41 kind.Newline (codes "\n") ∷ [];
}

occurrences_small : occurrences small ≡
    record {
      name = Data (codes "t") (codes "n");
      kind = Declaration;
      front = 10;
      start = 10;
      end = 11;
    } ∷ record {
      name = Local (codes "l");
      kind = Declaration;
      front = 27;
      start = 27;
      end = 28;
    } ∷ record {
      name = Data (codes "t") (codes "n");
      kind = Reference;
      front = 31;
      start = 38;
      end = 39;
    } ∷ []
occurrences_small = refl

-- x = <<E
-- ${module . n}
-- E
abbrev template : List Lexeme
template =
    token 0 kind.Ident (codes "x") ∷ token 2 kind.Assign (codes "=")
    ∷ token 4 kind.HeredocOpen (codes "<<E\n") ∷ in_heredoc 8 kind.InterpOpen (codes "${")
    ∷ in_heredoc 10 kind.Ident (codes "module") ∷ in_heredoc 16 kind.Blank (codes " ")
    ∷ in_heredoc 17 kind.Dot (codes ".") ∷ in_heredoc 18 kind.Blank (codes " ")
    ∷ in_heredoc 19 kind.Ident (codes "n") ∷ in_heredoc 20 kind.SeqClose (codes "}")
    ∷ in_heredoc 21 kind.Lit (codes "\n") ∷ in_heredoc 22 kind.HeredocClose (codes "E")
    ∷ token 23 kind.Newline (codes "\n") ∷ []

in_template : name_references (number_tokens template) ≡
    record { word = 4; token = 8; name = Module (codes "n") } ∷ []
in_template = refl

-- x = a.var.y + var.z
abbrev after_a_dot : List Lexeme
after_a_dot =
    token 0 kind.Ident (codes "x") ∷ token 2 kind.Assign (codes "=")
    ∷ token 4 kind.Ident (codes "a") ∷ token 5 kind.Dot (codes ".")
    ∷ token 6 kind.Ident (codes "var") ∷ token 9 kind.Dot (codes ".")
    ∷ token 10 kind.Ident (codes "y") ∷ token 12 kind.Plus (codes "+")
    ∷ token 14 kind.Ident (codes "var") ∷ token 17 kind.Dot (codes ".")
    ∷ token 18 kind.Ident (codes "z") ∷ token 19 kind.Newline (codes "\n") ∷ []

only_the_second : name_references (number_tokens after_a_dot) ≡
    record { word = 8; token = 10; name = Variable (codes "z") } ∷ []
only_the_second = refl
