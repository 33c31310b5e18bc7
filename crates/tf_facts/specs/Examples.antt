-- Worked examples of the definitions on small files, by computation.
use Rattle.std.specs.Prelude.{◌≡◌, ℕ, refl, List, [], ◌∷◌, ◌++◌, codes, true, false, None}
use Rattle.hcl_tokens.specs.Lexemes.{Lexeme}
use Rattle.hcl_tokens.specs.declared.token.Kind.{Kind}
use Rattle.hcl_tokens.specs.declared.token.Kind.TheVariants.{Newline, LineComment, Ident, QuoteOpen, BraceOpen, BraceClose, Dot, Assign, Lit, InterpOpen, SeqClose, QuoteClose, NotEqual}
use Rattle.hcl_grammar.specs.Numbered.{number_tokens}
use Rattle.tf_facts.specs.Declarations.{declarations}
use Rattle.tf_facts.specs.References.{references}
use Rattle.tf_facts.specs.Patterns.{wrapped_interpolations}
use Rattle.rule_set.specs.declared.rule.Rule.TheVariants.{CommentSyntax, TypedVariables, UnusedDeclarations}
use Rattle.tf_facts.specs.Sources.{source_of, Other, NotPinned, DefaultBranch, Registry}
use Rattle.tf_facts.specs.Silencing.{silenced_rules}
use Rattle.tf_facts.specs.Comments.{comments}
use Rattle.rule_set.specs.Rules.{all_rules}
use Rattle.tf_facts.specs.declared.declaration_kind.DeclarationKind.TheVariants as declares

abbrev token : Kind → List ℕ → Lexeme
token kind text = record { kind = kind; text = text; start = 0; inside_heredoc = false }

-- variable "n" {
--   v {
--     c = var.n != var.m
--   }
-- }
-- x = "${var.n}"
abbrev own : List Lexeme
own =
    token Ident (codes "variable") ∷ token QuoteOpen (codes "\"") ∷ token Lit (codes "n") ∷ token QuoteClose (codes "\"") ∷ token BraceOpen (codes "{") ∷ token Newline (codes "\n")
    ∷ token Ident (codes "v") ∷ token BraceOpen (codes "{") ∷ token Newline (codes "\n")
    ∷ token Ident (codes "c") ∷ token Assign (codes "=") ∷ token Ident (codes "var") ∷ token Dot (codes ".") ∷ token Ident (codes "n") ∷ token NotEqual (codes "!=")
    ∷ token Ident (codes "var") ∷ token Dot (codes ".") ∷ token Ident (codes "m") ∷ token Newline (codes "\n")
    ∷ token BraceClose (codes "}") ∷ token Newline (codes "\n") ∷ token BraceClose (codes "}") ∷ token Newline (codes "\n") ∷ []

abbrev use_of_n : List Lexeme
use_of_n =
    token Ident (codes "x") ∷ token Assign (codes "=") ∷ token QuoteOpen (codes "\"") ∷ token InterpOpen (codes "${") ∷ token Newline (codes "\n") ∷ token Ident (codes "var") ∷ token Dot (codes ".")
    ∷ token Ident (codes "n") ∷ token LineComment (codes "# c") ∷ token Newline (codes "\n") ∷ token SeqClose (codes "}") ∷ token QuoteClose (codes "\"") ∷ token Newline (codes "\n") ∷ []

own_left_out : references (number_tokens own) ≡ codes "var.m" ∷ []
own_left_out = refl

others_count : references (number_tokens (own ++ use_of_n)) ≡ codes "var.m" ∷ codes "var.n" ∷ []
others_count = refl

wrapped : wrapped_interpolations (number_tokens use_of_n) ≡ 2 ∷ []
wrapped = refl

declared_n : declarations (number_tokens own) ≡
    record { kind = declares.Variable; names = codes "n" ∷ []; at = 0; described = false; typed = false; versioned = false; source = None } ∷ []
declared_n = refl

-- ---- sources

pinned : source_of (codes "git::https://e.com/r.git?depth=1&ref=v1") ≡ Other
pinned = refl

empty_revision : source_of (codes "git::https://e.com/r.git?ref=") ≡ NotPinned
empty_revision = refl

other_parameter : source_of (codes "hg::http://e.com/r?ref=v1") ≡ NotPinned
other_parameter = refl

default_branch : source_of (codes "github.com/a/b?ref=main") ≡ DefaultBranch (codes "main")
default_branch = refl

with_host : source_of (codes "app.terraform.io/x/y/aws") ≡ Registry
with_host = refl

no_host : source_of (codes "app/x/y/aws") ≡ Other
no_host = refl

local_folder : source_of (codes "./a/b/c") ≡ Other
local_folder = refl

subfolder : source_of (codes "hashicorp/consul/aws//modules/x") ≡ Registry
subfolder = refl

-- ---- silencing

one_silenced : silenced_rules (codes "# tflint-ignore: terraform_typed_variables") ≡ TypedVariables ∷ []
one_silenced = refl

two_silenced : silenced_rules (codes "//tflint-ignore: terraform_typed_variables , terraform_unused_declarations # later, all") ≡ TypedVariables ∷ UnusedDeclarations ∷ []
two_silenced = refl

all_silenced : silenced_rules (codes "# tflint-ignore:all") ≡ all_rules
all_silenced = refl

unknown_name : silenced_rules (codes "# tflint-ignore: nope") ≡ []
unknown_name = refl

two_marks : silenced_rules (codes "## tflint-ignore: all") ≡ []
two_marks = refl

-- // old
-- # plain
-- # tflint-ignore: terraform_comment_syntax
abbrev three_comments : List Lexeme
three_comments =
    token LineComment (codes "// old") ∷ token Newline (codes "\n") ∷ token LineComment (codes "# plain") ∷ token Newline (codes "\n")
    ∷ token LineComment (codes "# tflint-ignore: terraform_comment_syntax") ∷ token Newline (codes "\n") ∷ []

telling_comments : comments (number_tokens three_comments) ≡
    record { at = 0; slashes = true; silences = [] } ∷ record { at = 4; slashes = false; silences = CommentSyntax ∷ [] } ∷ []
telling_comments = refl
