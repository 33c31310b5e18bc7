-- Neighbours: which texts may follow a token without a blank and leave it as it is. A scan takes the longest text at a
-- place, so a token is read differently only if the text after it extends it.
-- The marks are those of the HCL Native Syntax Specification. The law `neighbours` of `hcl_scan` proves that the table
-- has every pair of them.
use Rattle.std.specs.Prelude.{ℕ, ◌==◌, ◌||◌, ◌&&◌, not, Bool, true, false, List, [], ◌∷◌, nat_le, get_or, codes}
use Rattle.std.specs.Char.{is_ascii_digit, is_ascii_alphanumeric}
use Rattle.hcl_tokens.specs.Kinds.{is}
use Rattle.hcl_tokens.specs.Spelling.{starts}
use Rattle.hcl_tokens.specs.declared.token.Kind.{Kind}
use Rattle.hcl_tokens.specs.declared.token.Kind.TheVariants.{LineComment, Ident, Number, Dot, Colon, Assign, Not, Slash, Less, Greater, Lit, InterpOpen, ControlOpen}

-- THE TABLE: a text that begins with this byte may extend a token of this kind
abbrev pub grows : Kind → ℕ → Bool
-- `a` and `b`, `1` or `-`: letters, digits, `_`, `-` and all characters beyond ASCII may stand in an identifier
grows Ident b = is_ascii_alphanumeric b || (b == 95) || (b == 45) || nat_le 128 b
-- `1` and `2`, or `e5`: a further digit, or an exponent; `joins` has the point
grows Number b = is_ascii_digit b || (b == 101) || (b == 69)
-- `.` and `.`, or `...`: three points are one mark
grows Dot b = b == 46
-- `::`
grows Colon b = b == 58
-- `!=`
grows Not b = b == 61
-- `==` and `=>`
grows Assign b = (b == 61) || (b == 62)
-- `<=`, and `<<`, which begins a heredoc
grows Less b = (b == 60) || (b == 61)
-- `>=`
grows Greater b = b == 61
-- `//` and `/*` begin comments
grows Slash b = (b == 47) || (b == 42)
-- `${~` and `%{~`
grows InterpOpen b = b == 126
grows ControlOpen b = b == 126
-- all other marks, closers and comments are complete, whatever follows
grows _ b = false

-- the next token may join this one. `after_dot` says whether a Dot precedes this token: a number may take a Dot as the
-- point of its fraction only if it follows no Dot (`1` and `.`, but not the second step of `l.0.1`)
abbrev pub joins : Bool → Kind → Kind → List ℕ → Bool
joins after_dot kind next text =
    grows kind (get_or text 0 0) || (is Number kind && not after_dot && is Dot next)

-- ---- a token before a text that isn't cut into tokens

-- the text may extend the token: by its first byte, or a number by a point and a digit
abbrev pub joins_text : Bool → Kind → List ℕ → Bool
joins_text after_dot kind other =
    grows kind (get_or other 0 0)
    || (is Number kind && not after_dot && (get_or other 0 0 == 46)
    && is_ascii_digit (get_or other 1 0))

-- an LF comes first, or the text is empty
abbrev pub ends_comment : List ℕ → Bool
ends_comment [] = true
ends_comment (b ∷ more) = b == 10

-- both texts begin with the same token that ends literal text in a template
abbrev pub same_close : List ℕ → List ℕ → Bool
same_close rest other =
    (starts rest (codes "\"") && starts other (codes "\""))
    || (starts rest (codes "${") && starts other (codes "${"))
    || (starts rest (codes "%{") && starts other (codes "%{"))

-- a token of this kind that was the longest before `rest` is the longest before `other`
abbrev pub stays : Bool → Kind → List ℕ → List ℕ → Bool
stays after_dot LineComment rest other = ends_comment other
stays after_dot Lit rest other = same_close rest other
stays after_dot kind rest other = not (joins_text after_dot kind other)
