-- Lines of the layout: a token list split after each newline outside heredocs. A text without a last newline ends in a
-- line without one. Our own choice: a heredoc's body is kept as it is, so it belongs to the line on which it began.
use Rattle.std.specs.Prelude.{◌&&◌, Bool, not, List, [], ◌∷◌, if◌then◌else◌}
use Rattle.hcl_tokens.specs.Lexemes.{Lexeme}
use Rattle.hcl_tokens.specs.Kinds.{is}
use Rattle.hcl_tokens.specs.declared.token.Kind.TheVariants as kind

abbrev pub Line : Type 0
Line = List Lexeme

abbrev pub ends_line : Lexeme → Bool
ends_line t = is kind.Newline t.kind && not t.inside_heredoc

-- the token at the front of the first line
abbrev pub onto_line : Lexeme → List Line → List Line
onto_line t [] = (t ∷ []) ∷ []
onto_line t (line ∷ rest) = (t ∷ line) ∷ rest

abbrev pub lines : List Lexeme → List Line
lines [] = []
lines (t ∷ ts) = if ends_line t then (t ∷ []) ∷ lines ts else onto_line t (lines ts)
