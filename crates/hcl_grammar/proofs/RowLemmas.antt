-- Each row of the grammar's table keeps the openers that must be closed equal to those that are open.
use Rattle.std.proofs.Common.{◌≡◌, ℕ, true, List, [], ◌∷◌, ◌++◌, refl, subst, sym, ap, ◌∙◌, append_assoc}
use Rattle.hcl_tokens.specs.Lexemes.{Opener, Sequence}
use Rattle.hcl_grammar.specs.declared.class.Class.{Class}
use Rattle.hcl_grammar.specs.declared.class.Class.TheVariants.{Newline, Ident, Number, HeredocOpen, HeredocClose, QuoteOpen, QuoteClose, Lit, InterpOpen, ControlOpen, SeqClose, ParenOpen, ParenClose, BracketOpen, BracketClose, BraceOpen, BraceClose, Dot, Comma, Ellipsis, Question, Colon, ColonColon, Assign, Arrow, Not, Minus, Star, Binary}
use Rattle.hcl_grammar.specs.declared.class.Word.TheVariants.{For, In, If, Else, Endif, Endfor}
use Rattle.hcl_grammar.specs.declared.expected.Newlines.{Newlines}
use Rattle.hcl_grammar.specs.declared.expected.Terminal.{Terminal}
use Rattle.hcl_grammar.specs.declared.expected.Terminal.TheVariants.{Name, InWord, IfWord, ForWord, Equals, Separator, FatArrow, CommaSign, Ellipses, Asterisk, EndParen, EndBracket, EndBrace, EndSequence, EndQuote, EndHeredoc}
use Rattle.hcl_grammar.specs.declared.expected.Section.TheVariants.{InIf, InElse, InFor}
use Rattle.hcl_grammar.specs.Grammar.{Symbol, the, file, rest, labels, label_literal, start, body, eol, expr, after_ident, path, after, step, index, tuple, tuple_next, tuple_item, tuple_if, names, object, separator, object_next, object_item, group, object_if, args, arg_next, parts, directive, inside, section_directive, Marked, ◌at◌, Action, none, nothing, reads, opens, closes, ◌then◌, shared_row, row_of}
use Rattle.hcl_grammar.proofs.UnclosedLemmas.{awaits, unclosed_in, unclosed_in_all, Shift, HaveNumbers, RowMoves}

pub unclosed_in_all-append : (xs ys : List Marked) → unclosed_in_all (xs ++ ys) ≡ unclosed_in_all xs ++ unclosed_in_all ys
unclosed_in_all-append [] ys = refl
unclosed_in_all-append (s at m ∷ xs) ys = ap (λ l. unclosed_in s ++ l) (unclosed_in_all-append xs ys) ∙ sym (append_assoc (unclosed_in s) (unclosed_in_all xs) (unclosed_in_all ys))

pub numbers-append : (P : ℕ → Type 0) (xs ys : List Marked) → HaveNumbers P xs → HaveNumbers P ys → HaveNumbers P (xs ++ ys)
numbers-append P [] ys h k = k
numbers-append P (directive n at m ∷ xs) ys h k = (h.0, numbers-append P xs ys h.1 k)
numbers-append P (section_directive e n at m ∷ xs) ys h k = (h.0, numbers-append P xs ys h.1 k)
numbers-append P (s at m ∷ xs) ys h k = numbers-append P xs ys h k

-- the openers below make no difference
pub shift-above : (c : Class) (a b z : List Opener) → Shift c a b → Shift c (a ++ z) (b ++ z)
shift-above ParenOpen a b z h = ap (λ l. l ++ z) h
shift-above BracketOpen a b z h = ap (λ l. l ++ z) h
shift-above BraceOpen a b z h = ap (λ l. l ++ z) h
shift-above InterpOpen a b z h = ap (λ l. l ++ z) h
shift-above ControlOpen a b z h = ap (λ l. l ++ z) h
shift-above QuoteOpen a b z h = ap (λ l. l ++ z) h
shift-above HeredocOpen a b z h = ap (λ l. l ++ z) h
shift-above ParenClose a b z h = ap (λ l. l ++ z) h
shift-above BracketClose a b z h = ap (λ l. l ++ z) h
shift-above BraceClose a b z h = ap (λ l. l ++ z) h
shift-above SeqClose a b z h = ap (λ l. l ++ z) h
shift-above QuoteClose a b z h = ap (λ l. l ++ z) h
shift-above HeredocClose a b z h = ap (λ l. l ++ z) h
shift-above c a b z h = ap (λ l. l ++ z) h

shift-all : (c : Class) (a : List Opener) (xs ys : List Marked) → Shift c a (unclosed_in_all xs) → Shift c (a ++ unclosed_in_all ys) (unclosed_in_all (xs ++ ys))
shift-all c a xs ys h = subst (λ l. Shift c (a ++ unclosed_in_all ys) l) (sym (unclosed_in_all-append xs ys)) (shift-above c a (unclosed_in_all xs) (unclosed_in_all ys) h)

pub moves-then : (P : ℕ → Type 0) (r : Action) (a : List Opener) (c : Class) (ys : List Marked) → RowMoves P r a c → HaveNumbers P ys → RowMoves P (r then ys) (a ++ unclosed_in_all ys) c
moves-then P none a c ys h k = tt
moves-then P nothing a c ys h k = tt
moves-then P (reads xs) a c ys h k = (shift-all c a xs ys h.0, numbers-append P xs ys h.1 k)
moves-then P (opens n xs) a c ys h k = (shift-all c a xs ys h.0, numbers-append P xs ys h.1 k, h.2)
moves-then P (closes xs) a c ys h k = (shift-all c a xs ys h.0, numbers-append P xs ys h.1 k)

-- the rows that others begin with
moves-shared : (P : ℕ → Type 0) (s : Symbol) (m : Newlines) (n : ℕ) (c : Class) → HaveNumbers P (s at m ∷ []) → RowMoves P (shared_row s m n c) (unclosed_in s) c
moves-shared P labels m n (Ident w) h = (refl, tt)
moves-shared P labels m n QuoteOpen h = (refl, tt)
moves-shared P labels m n BraceOpen h = (refl, tt)
moves-shared P expr m n Minus h = (refl, tt)
moves-shared P expr m n Not h = (refl, tt)
moves-shared P expr m n (Number d) h = (refl, tt)
moves-shared P expr m n (Ident w) h = (refl, tt)
moves-shared P expr m n QuoteOpen h = (refl, tt)
moves-shared P expr m n HeredocOpen h = (refl, tt)
moves-shared P expr m n ParenOpen h = (refl, tt)
moves-shared P expr m n BracketOpen h = (refl, tt)
moves-shared P expr m n BraceOpen h = (refl, tt)
moves-shared P after m n Dot h = (refl, tt)
moves-shared P after m n BracketOpen h = (refl, tt)
moves-shared P after m n Minus h = (refl, tt)
moves-shared P after m n Star h = (refl, tt)
moves-shared P after m n Binary h = (refl, tt)
moves-shared P after m n Question h = (refl, tt)
moves-shared P after m n _ h = refl
moves-shared P object_if m n (Ident If) h = (refl, tt)
moves-shared P object_if m n BraceClose h = (refl, tt)
moves-shared P (directive k) m n (Ident If) h = (refl, tt, h.0)
moves-shared P (directive k) m n (Ident For) h = (refl, tt, h.0)
moves-shared P s m n c h = tt

moves-terminal : (P : ℕ → Type 0) (m : Newlines) (n : ℕ) (e : Terminal) (c : Class) → RowMoves P (row_of (the e) m n c) (awaits e) c
moves-terminal P m n EndParen ParenClose = (refl, tt)
moves-terminal P m n EndBracket BracketClose = (refl, tt)
moves-terminal P m n EndBrace BraceClose = (refl, tt)
moves-terminal P m n EndSequence SeqClose = (refl, tt)
moves-terminal P m n EndQuote QuoteClose = (refl, tt)
moves-terminal P m n EndHeredoc HeredocClose = (refl, tt)
moves-terminal P m n Name (Ident w) = (refl, tt)
moves-terminal P m n InWord (Ident In) = (refl, tt)
moves-terminal P m n IfWord (Ident If) = (refl, tt)
moves-terminal P m n ForWord (Ident For) = (refl, tt)
moves-terminal P m n Equals Assign = (refl, tt)
moves-terminal P m n Separator Colon = (refl, tt)
moves-terminal P m n FatArrow Arrow = (refl, tt)
moves-terminal P m n CommaSign Comma = (refl, tt)
moves-terminal P m n Ellipses Ellipsis = (refl, tt)
moves-terminal P m n Asterisk Star = (refl, tt)
moves-terminal P m n _ _ = tt

pub moves-row : (P : ℕ → Type 0) (s : Symbol) (m : Newlines) (n : ℕ) (c : Class) → P n → HaveNumbers P (s at m ∷ []) → RowMoves P (row_of s m n c) (unclosed_in s) c
moves-row P (the e) m n c p h = moves-terminal P m n e c
moves-row P file m n Newline p h = (refl, tt)
moves-row P file m n (Ident w) p h = (refl, tt)
moves-row P rest m n Assign p h = (refl, tt)
moves-row P rest m n c p h = moves-shared P labels m n c tt
moves-row P label_literal m n Lit p h = (refl, tt)
moves-row P label_literal m n QuoteClose p h = refl
moves-row P start m n Newline p h = (refl, tt)
moves-row P start m n (Ident w) p h = (refl, tt)
moves-row P start m n BraceClose p h = (refl, tt)
moves-row P body m n Newline p h = (refl, tt)
moves-row P body m n (Ident w) p h = (refl, tt)
moves-row P body m n BraceClose p h = refl
moves-row P eol m n Newline p h = (refl, tt)
moves-row P after_ident m n ParenOpen p h = (refl, tt)
moves-row P after_ident m n ColonColon p h = (refl, tt)
moves-row P after_ident m n c p h = moves-shared P after m n c tt
moves-row P path m n ColonColon p h = (refl, tt)
moves-row P path m n ParenOpen p h = (refl, tt)
moves-row P step m n (Ident w) p h = (refl, tt)
moves-row P step m n (Number true) p h = (refl, tt)
moves-row P step m n Star p h = (refl, tt)
moves-row P index m n Star p h = (refl, tt)
moves-row P index m n c p h = moves-then P (shared_row expr m n c) [] c (the EndBracket at m ∷ []) (moves-shared P expr m n c tt) tt
moves-row P names m n Comma p h = (refl, tt)
moves-row P names m n (Ident In) p h = (refl, tt)
moves-row P tuple m n (Ident For) p h = (refl, tt)
moves-row P tuple m n BracketClose p h = (refl, tt)
moves-row P tuple m n c p h = moves-then P (shared_row expr m n c) [] c (tuple_next at m ∷ []) (moves-shared P expr m n c tt) tt
moves-row P tuple_next m n Comma p h = (refl, tt)
moves-row P tuple_next m n BracketClose p h = (refl, tt)
moves-row P tuple_item m n BracketClose p h = (refl, tt)
moves-row P tuple_item m n c p h = moves-then P (shared_row expr m n c) [] c (tuple_next at m ∷ []) (moves-shared P expr m n c tt) tt
moves-row P tuple_if m n (Ident If) p h = (refl, tt)
moves-row P tuple_if m n BracketClose p h = (refl, tt)
moves-row P object m n Newline p h = (refl, tt)
moves-row P object m n (Ident For) p h = (refl, tt)
moves-row P object m n BraceClose p h = (refl, tt)
moves-row P object m n c p h = moves-then P (shared_row expr m n c) [] c (separator at m ∷ expr at m ∷ object_next at m ∷ []) (moves-shared P expr m n c tt) tt
moves-row P separator m n Assign p h = (refl, tt)
moves-row P separator m n Colon p h = (refl, tt)
moves-row P object_next m n Comma p h = (refl, tt)
moves-row P object_next m n Newline p h = (refl, tt)
moves-row P object_next m n BraceClose p h = (refl, tt)
moves-row P object_item m n Newline p h = (refl, tt)
moves-row P object_item m n BraceClose p h = (refl, tt)
moves-row P object_item m n c p h = moves-then P (shared_row expr m n c) [] c (separator at m ∷ expr at m ∷ object_next at m ∷ []) (moves-shared P expr m n c tt) tt
moves-row P group m n Ellipsis p h = (refl, tt)
moves-row P group m n c p h = moves-shared P object_if m n c tt
moves-row P args m n ParenClose p h = (refl, tt)
moves-row P args m n c p h = moves-then P (shared_row expr m n c) [] c (arg_next at m ∷ []) (moves-shared P expr m n c tt) tt
moves-row P arg_next m n Comma p h = (refl, tt)
moves-row P arg_next m n Ellipsis p h = (refl, tt)
moves-row P arg_next m n ParenClose p h = (refl, tt)
moves-row P parts m n Lit p h = (refl, tt)
moves-row P parts m n InterpOpen p h = (refl, tt)
moves-row P parts m n ControlOpen p h = (refl, (p, tt))
moves-row P parts m n QuoteClose p h = refl
moves-row P parts m n HeredocClose p h = refl
moves-row P (section_directive InIf k) m n (Ident Else) p h = (refl, tt)
moves-row P (section_directive InIf k) m n (Ident Endif) p h = (refl, tt)
moves-row P (section_directive InElse k) m n (Ident Endif) p h = (refl, tt)
moves-row P (section_directive InFor k) m n (Ident Endfor) p h = (refl, tt)
moves-row P (section_directive e k) m n c p h = moves-then P (shared_row (directive k) m n c) (Sequence ∷ []) c (inside e at m ∷ []) (moves-shared P (directive k) m n c h) tt
moves-row P (inside e) m n Lit p h = (refl, tt)
moves-row P (inside e) m n InterpOpen p h = (refl, tt)
moves-row P (inside e) m n ControlOpen p h = (refl, (p, tt))
moves-row P s m n c p h = moves-shared P s m n c h
