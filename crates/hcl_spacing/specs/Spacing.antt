-- Whether there is one blank or none between two neighbours on a line: a table whose first row that fits decides. Our
-- own choice, in the style of `terraform fmt`.
use Rattle.std.specs.Prelude.{◌≡◌, ◌&&◌, ◌||◌, ◌==◌, ℕ, Bool, true, false, not, List, [], ◌∷◌, Option, Some, None, if◌then◌else◌, codes}
use Rattle.std.specs.Str.{bytes_eq}
use Rattle.hcl_tokens.specs.Lexemes.{Lexeme}
use Rattle.hcl_tokens.specs.declared.token.Kind.{Kind}
use Rattle.hcl_tokens.specs.declared.token.Kind.TheVariants as kind
use Rattle.hcl_tokens.specs.Balanced.{is_opener}
use Rattle.hcl_tokens.specs.Kinds.{is}

-- `${` and `%{`
abbrev pub opens_sequence : Kind → Bool
opens_sequence k = is kind.InterpOpen k || is kind.ControlOpen k

-- the closer of a paren, a bracket or a sequence
abbrev pub closes_group : Kind → Bool
closes_group k = is kind.ParenClose k || is kind.BracketClose k || is kind.SeqClose k

-- the kinds that an index may follow
abbrev pub ends_operand : Kind → Bool
ends_operand k =
    is kind.Ident k || is kind.Number k || is kind.QuoteClose k || is kind.ParenClose k
    || is kind.BracketClose k || is kind.BraceClose k

-- the binary operators and `!`
abbrev pub is_operator : Kind → Bool
is_operator k =
    is kind.Plus k || is kind.Minus k || is kind.Star k || is kind.Slash k || is kind.Percent k
    || is kind.And k || is kind.Or k || is kind.Not k
    || is kind.Equal k || is kind.NotEqual k || is kind.Less k || is kind.Greater k
    || is kind.LessEqual k || is kind.GreaterEqual k

-- marks after which an expression begins
abbrev pub expects_operand : Kind → Bool
expects_operand k =
    is kind.Assign k || is kind.Arrow k || is kind.Colon k || is kind.Comma k || is kind.Question k

abbrev pub begins_with_equals : List ℕ → Bool
begins_with_equals [] = false
begins_with_equals (b ∷ text) = b == 61

abbrev pub begins_with_colon : List ℕ → Bool
begins_with_colon [] = false
begins_with_colon (b ∷ text) = b == 58

-- the token before is of such a kind
abbrev pub follows_kind : (Kind → Bool) → Option Lexeme → Bool
follows_kind test None = false
follows_kind test (Some t) = test t.kind

abbrev pub is_opening : Option Lexeme → Bool
is_opening None = true
is_opening (Some t) = is_opener t.kind || is_operator t.kind || expects_operand t.kind

-- neighbours that would be read as one token, or as others: among the pairs in the scan's table of neighbours
-- (`Neighbours.joins` of `hcl_tokens`), those that a later row would put together
abbrev pub would_join : Option Lexeme → Lexeme → Lexeme → Bool
would_join before subject after =
    (is kind.Dot subject.kind && (is kind.Dot after.kind || is kind.Ellipsis after.kind))
    || (is kind.Number subject.kind && not (follows_kind (is kind.Dot) before)
    && is kind.Dot after.kind)
    || (is kind.Not subject.kind && begins_with_equals after.text)
    || (opens_sequence subject.kind && is kind.SeqClose after.kind
    && bytes_eq after.text (codes "~}"))
    || (is kind.Colon subject.kind && begins_with_colon after.text)

-- the word `in`, after the last name that a `for` declares
abbrev pub is_in : Option Lexeme → Lexeme → Bool
is_in before subject =
    is kind.Ident subject.kind && bytes_eq subject.text (codes "in")
    && follows_kind (is kind.Ident) before

-- THE TABLE: one blank between the subject and the token after it; `before` is the token before the subject on its
-- line. The words in quotation marks are headings of docs/STYLE.md, which has each row with examples.
abbrev pub has_blank : Option Lexeme → Lexeme → Lexeme → Bool
has_blank before subject after =
    -- "Blanks at the ends of lines" vanish, and "Heredocs" are kept byte for byte
    if is kind.Newline after.kind || after.inside_heredoc then false
    -- "A number and a dot", and other neighbours that would be read as one token
    else if would_join before subject after then true
    -- "Calls": a name hugs its parenthesis
    else if is kind.Ident subject.kind && is kind.ParenOpen after.kind then false
    -- "Dots" and "Two colons": a name is one thing to its reader, and so is an attribute of it
    else if is kind.Dot subject.kind || is kind.Dot after.kind then false
    else if is kind.ColonColon subject.kind || is kind.ColonColon after.kind then false
    -- "Commas" and `...` belong to the token before them, and a comma separates it from the next
    else if is kind.Comma after.kind || is kind.Ellipsis after.kind then false
    else if is kind.Comma subject.kind then true
    -- "Quotes": a blank there would be text
    else if is kind.QuoteOpen subject.kind || is kind.Lit subject.kind || is kind.Lit after.kind
    || is kind.QuoteClose after.kind then false
    -- "`in`" is a word of its own, also before a bracket
    else if is_in before subject then true
    -- "Indexes": a bracket hugs the indexed value
    else if is kind.BracketOpen after.kind && ends_operand subject.kind then false
    -- "Not" and "Minus" as a sign hug their operand
    else if is kind.Not subject.kind then false
    else if is kind.Minus subject.kind then not (is_opening before)
    -- "Braces": a blank on the inner side of each, none in an empty pair; and since `${{` and `}}` read badly, one between a
    -- brace and the mark of a sequence
    else if is kind.BraceOpen subject.kind && is kind.BraceClose after.kind then false
    else if is kind.BraceOpen subject.kind || is kind.BraceClose after.kind then true
    else if (opens_sequence subject.kind && is kind.BraceOpen after.kind)
    || (is kind.BraceClose subject.kind && is kind.SeqClose after.kind) then true
    -- "Quotes": a blank between a sequence and the next would be text
    else if is kind.SeqClose subject.kind && opens_sequence after.kind then false
    -- "Brackets, parentheses" and sequences hug their contents
    else if is kind.ParenOpen subject.kind || is kind.BracketOpen subject.kind
    || opens_sequence subject.kind then false
    -- "All else" has one blank, except inside a closer
    else not (closes_group after.kind)

-- two tokens of these kinds, outside heredocs, with one blank between them, or none
pub record Stand (blank : Bool) (subject after : Kind) : Type 0 where
  pub before : Option Lexeme
  pub first : Lexeme
  pub next : Lexeme
  pub first_is : first.kind ≡ subject
  pub next_is : next.kind ≡ after
  pub outside : next.inside_heredoc ≡ false
  pub gives : has_blank before first next ≡ blank

-- the kinds of two neighbours don't decide: some such tokens have one blank between them, and others none
pub record AreUndecided (subject after : Kind) : Type 0 where
  pub separated : Stand true subject after
  pub together : Stand false subject after
