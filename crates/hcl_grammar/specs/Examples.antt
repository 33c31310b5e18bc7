-- Worked examples of the grammar: small files, and small texts that aren't files.
use Rattle.std.specs.Prelude.{◌≡◌, ℕ, ◌+◌, true, false, List, [], ◌∷◌, Option, Some, None, if◌then◌else◌, refl}
use Rattle.hcl_grammar.specs.declared.class.Lookahead.{Lookahead}
use Rattle.hcl_grammar.specs.declared.class.Class.{Class}
use Rattle.hcl_grammar.specs.declared.class.Class.TheVariants.{Newline, Trivia, Ident, Number, HeredocOpen, HeredocClose, QuoteOpen, QuoteClose, Lit, InterpOpen, ControlOpen, SeqClose, ParenOpen, ParenClose, BracketOpen, BracketClose, BraceOpen, BraceClose, Dot, Comma, Ellipsis, Question, Colon, ColonColon, Assign, Arrow, Not, Minus, Star}
use Rattle.hcl_grammar.specs.declared.class.Word.TheVariants.{Plain, For, In, If, Else, Endif}
use Rattle.hcl_grammar.specs.declared.refusal.Refusal.{Refusal}
use Rattle.hcl_grammar.specs.declared.refusal.Refusal.TheVariants.{UnexpectedToken, UnexpectedEnd}
use Rattle.hcl_grammar.specs.Classes.{is_trivia}
use Rattle.hcl_grammar.specs.Predictor.{run, refusal_of}

abbrev numbered_classes : ℕ → List Class → List Lookahead
numbered_classes n [] = []
numbered_classes n (c ∷ cs) = if is_trivia c then numbered_classes (n + 1) cs else record { class = c; number = n } ∷ numbered_classes (n + 1) cs

abbrev refusal : List Class → Option Refusal
refusal cs = refusal_of (numbered_classes 0 cs)

-- a = 1
attribute : refusal (Ident Plain ∷ Assign ∷ Number true ∷ Newline ∷ []) ≡ None
unfolding run
attribute = refl

-- a = # and the end of the line
no_value : refusal (Ident Plain ∷ Assign ∷ Trivia ∷ Newline ∷ []) ≡ Some (UnexpectedToken 3)
unfolding run
no_value = refl

-- a /* */ = 1
comment_between : refusal (Ident Plain ∷ Trivia ∷ Assign ∷ Number true ∷ Newline ∷ []) ≡ None
unfolding run
comment_between = refl

-- b {
no_brace : refusal (Ident Plain ∷ BraceOpen ∷ []) ≡ Some UnexpectedEnd
unfolding run
no_brace = refl

-- b "l" c { (newline) d = 1 (newline) } (newline)
blocks : refusal (Ident Plain ∷ QuoteOpen ∷ Lit ∷ QuoteClose ∷ Ident Plain ∷ BraceOpen ∷ Newline ∷ Ident Plain ∷ Assign ∷ Number true ∷ Newline ∷ BraceClose ∷ Newline ∷ []) ≡ None
unfolding run
blocks = refl

-- b { c = 1 d = 2 }
one_line : refusal (Ident Plain ∷ BraceOpen ∷ Ident Plain ∷ Assign ∷ Number true ∷ Ident Plain ∷ Assign ∷ Number true ∷ BraceClose ∷ []) ≡ Some (UnexpectedToken 5)
unfolding run
one_line = refl

-- a = 1 b = 2
two_on_a_line : refusal (Ident Plain ∷ Assign ∷ Number true ∷ Ident Plain ∷ Assign ∷ Number true ∷ []) ≡ Some (UnexpectedToken 3)
unfolding run
two_on_a_line = refl

-- a = -b ? !c * d : e
operators : refusal (Ident Plain ∷ Assign ∷ Minus ∷ Ident Plain ∷ Question ∷ Not ∷ Ident Plain ∷ Star ∷ Ident Plain ∷ Colon ∷ Ident Plain ∷ Newline ∷ []) ≡ None
unfolding run
operators = refl

-- a = b[*].c.0[1]
steps : refusal (Ident Plain ∷ Assign ∷ Ident Plain ∷ BracketOpen ∷ Star ∷ BracketClose ∷ Dot ∷ Ident Plain ∷ Dot ∷ Number true ∷ BracketOpen ∷ Number true ∷ BracketClose ∷ []) ≡ None
unfolding run
steps = refl

-- a = b.1.5
fraction_step : refusal (Ident Plain ∷ Assign ∷ Ident Plain ∷ Dot ∷ Number false ∷ []) ≡ Some (UnexpectedToken 4)
unfolding run
fraction_step = refl

-- a = [ (newline) b, c ? d : e, (newline) ]
in_brackets : refusal (Ident Plain ∷ Assign ∷ BracketOpen ∷ Newline ∷ Ident Plain ∷ Comma ∷ Ident Plain ∷ Question ∷ Ident Plain ∷ Colon ∷ Ident Plain ∷ Comma ∷ Newline ∷ BracketClose ∷ []) ≡ None
unfolding run
in_brackets = refl

-- a = [b,,]
two_commas : refusal (Ident Plain ∷ Assign ∷ BracketOpen ∷ Ident Plain ∷ Comma ∷ Comma ∷ BracketClose ∷ []) ≡ Some (UnexpectedToken 5)
unfolding run
two_commas = refl

-- a = f( (newline) b, c... )
in_parens : refusal (Ident Plain ∷ Assign ∷ Ident Plain ∷ ParenOpen ∷ Newline ∷ Ident Plain ∷ Comma ∷ Ident Plain ∷ Ellipsis ∷ ParenClose ∷ []) ≡ None
unfolding run
in_parens = refl

-- a = p::q::f()
path : refusal (Ident Plain ∷ Assign ∷ Ident Plain ∷ ColonColon ∷ Ident Plain ∷ ColonColon ∷ Ident Plain ∷ ParenOpen ∷ ParenClose ∷ []) ≡ None
unfolding run
path = refl

-- a = b::c
path_alone : refusal (Ident Plain ∷ Assign ∷ Ident Plain ∷ ColonColon ∷ Ident Plain ∷ Newline ∷ []) ≡ Some (UnexpectedToken 5)
unfolding run
path_alone = refl

-- a = { (newline) b = c (newline) "d" : e, f = g }
object_lines : refusal (Ident Plain ∷ Assign ∷ BraceOpen ∷ Newline ∷ Ident Plain ∷ Assign ∷ Ident Plain ∷ Newline ∷ QuoteOpen ∷ Lit ∷ QuoteClose ∷ Colon ∷ Ident Plain ∷ Comma ∷ Ident Plain ∷ Assign ∷ Ident Plain ∷ BraceClose ∷ []) ≡ None
unfolding run
object_lines = refl

-- a = { b (newline) = c }
object_newline : refusal (Ident Plain ∷ Assign ∷ BraceOpen ∷ Ident Plain ∷ Newline ∷ Assign ∷ Ident Plain ∷ BraceClose ∷ []) ≡ Some (UnexpectedToken 4)
unfolding run
object_newline = refl

-- a = [for b, c in d : e if f]
tuple_for : refusal (Ident Plain ∷ Assign ∷ BracketOpen ∷ Ident For ∷ Ident Plain ∷ Comma ∷ Ident Plain ∷ Ident In ∷ Ident Plain ∷ Colon ∷ Ident Plain ∷ Ident If ∷ Ident Plain ∷ BracketClose ∷ []) ≡ None
unfolding run
tuple_for = refl

-- a = [for]
for_is_no_name : refusal (Ident Plain ∷ Assign ∷ BracketOpen ∷ Ident For ∷ BracketClose ∷ []) ≡ Some (UnexpectedToken 4)
unfolding run
for_is_no_name = refl

-- a = {for b in c : d => e...}
object_for : refusal (Ident Plain ∷ Assign ∷ BraceOpen ∷ Ident For ∷ Ident Plain ∷ Ident In ∷ Ident Plain ∷ Colon ∷ Ident Plain ∷ Arrow ∷ Ident Plain ∷ Ellipsis ∷ BraceClose ∷ []) ≡ None
unfolding run
object_for = refl

-- a = "%{ if b }x%{ else }${c}%{ endif }"
directive : refusal (Ident Plain ∷ Assign ∷ QuoteOpen ∷ ControlOpen ∷ Ident If ∷ Ident Plain ∷ SeqClose ∷ Lit ∷ ControlOpen ∷ Ident Else ∷ SeqClose ∷ InterpOpen ∷ Ident Plain ∷ SeqClose ∷ ControlOpen ∷ Ident Endif ∷ SeqClose ∷ QuoteClose ∷ []) ≡ None
unfolding run
directive = refl

-- a = "%{ if b }%{ else }%{ else }%{ endif }"
two_elses : refusal (Ident Plain ∷ Assign ∷ QuoteOpen ∷ ControlOpen ∷ Ident If ∷ Ident Plain ∷ SeqClose ∷ ControlOpen ∷ Ident Else ∷ SeqClose ∷ ControlOpen ∷ Ident Else ∷ SeqClose ∷ ControlOpen ∷ Ident Endif ∷ SeqClose ∷ QuoteClose ∷ []) ≡ Some (UnexpectedToken 11)
unfolding run
two_elses = refl

-- a = "%{ for b in c }%{ endif }"
wrong_end : refusal (Ident Plain ∷ Assign ∷ QuoteOpen ∷ ControlOpen ∷ Ident For ∷ Ident Plain ∷ Ident In ∷ Ident Plain ∷ SeqClose ∷ ControlOpen ∷ Ident Endif ∷ SeqClose ∷ QuoteClose ∷ []) ≡ Some (UnexpectedToken 10)
unfolding run
wrong_end = refl

-- a = <<E
heredoc : refusal (Ident Plain ∷ Assign ∷ HeredocOpen ∷ Lit ∷ HeredocClose ∷ Newline ∷ []) ≡ None
unfolding run
heredoc = refl
