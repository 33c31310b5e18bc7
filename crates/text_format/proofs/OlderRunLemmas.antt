-- The grammar accepts everything that it accepted by the earlier tables, and there no colon follows another: after each
-- symbol that reads a colon an expression is expected, and no expression begins with one.
use Rattle.std.proofs.Common.{◌≡◌, ◌≢◌, ℕ, suc, zero, ◌+◌, ◌&&◌, ◌||◌, not, Bool, true, false, cond, List, [], ◌∷◌, ◌++◌, length, get_or, Option, None, refl, sym, ap, subst, ◌∙◌, arith}
use Rattle.std.specs.Prelude.{nat_lt}
use Rattle.std.specs.List.{list_all}
use Rattle.std.proofs.lemmas.Bool.Decides.{nat_tests}
use Rattle.std.proofs.lemmas.Bool.{false≢true}
use Rattle.hcl_tokens.specs.Lexemes.{Lexeme}
use Rattle.hcl_tokens.specs.declared.token.Kind.{Kind}
use Rattle.hcl_tokens.specs.declared.token.Kind.TheVariants as kind
use Rattle.hcl_tokens.proofs.BooleanLemmas.{and_true}
use Rattle.hcl_grammar.specs.Classes.{class_at, class_of, drops, is_trivia, lookaheads, lookaheads_from}
use Rattle.hcl_grammar.specs.declared.class.Class.{Class}
use Rattle.hcl_grammar.specs.declared.class.Class.TheVariants as class
use Rattle.hcl_grammar.specs.declared.class.Word.TheVariants.{Plain, For, In, If, Else, Endif, Endfor}
use Rattle.hcl_grammar.specs.declared.class.Lookahead.{Lookahead}
use Rattle.hcl_grammar.specs.declared.expected.Newlines.{Newlines}
use Rattle.hcl_grammar.specs.declared.expected.Newlines.TheVariants.{Seen, Dropped}
use Rattle.hcl_grammar.specs.declared.expected.Section.TheVariants.{InIf, InElse, InFor}
use Rattle.hcl_grammar.specs.declared.expected.Terminal.{Terminal}
use Rattle.hcl_grammar.specs.declared.expected.Terminal.TheVariants.{Separator}
use Rattle.hcl_grammar.specs.declared.refusal.Refusal.{Refusal}
use Rattle.hcl_grammar.specs.Grammar.{Symbol, the, file, rest, labels, label_literal, start, body, eol, expr, after_ident, path, after, step, index, tuple, tuple_next, tuple_item, tuple_if, names, object, separator, object_next, object_item, group, object_if, args, arg_next, parts, directive, inside, section_directive, Marked, ◌at◌, Action, none, nothing, reads, opens, closes, row_of, row, fits}
use Rattle.hcl_grammar.specs.Predictor.{Effect, on, stop, row_effect, effect, next, run}
use Rattle.hcl_grammar.specs.Relation.{Step, dropped, read, opened, closed, gone, ComesTo, at_end, step as one_step, refused}
use Rattle.hcl_grammar.specs.Verdict.{IsAccepted}
use Rattle.hcl_grammar.proofs.RelationLemmas.{answers}
use Rattle.hcl_tokens.specs.Kinds.{is}
use Rattle.text_format.specs.Older.Rows.{is_path_sign, was_turn, was_run, WasAccepted}
use Rattle.text_format.proofs.OlderScanLemmas.{Apart, Older, starts_colon}

-- ---- without the class, both tables are one
abbrev OlderClasses : List Lookahead → Type 0
OlderClasses [] = Unit {0}
OlderClasses (t ∷ ts) = (is_path_sign t.class ≡ false) × OlderClasses ts

class_older : (k : Kind) (text : List ℕ) → (k ≢ kind.ColonColon) → is_path_sign (class_at k text) ≡ false
class_older kind.ColonColon text h = absurd (h refl)
class_older _ text h = refl

classes_older : (n : ℕ) (ts : List Lexeme) → Older ts → OlderClasses (lookaheads_from n ts)
classes_older n [] o = tt
classes_older n (t ∷ ts) o = elim (is_trivia (class_of t)) as (λ b. OlderClasses (cond b (lookaheads_from (n + 1) ts) (record { class = class_of t; number = n } ∷ lookaheads_from (n + 1) ts))) [
  | true ↦ classes_older (n + 1) ts o.1
  | false ↦ (class_older t.kind t.text o.0, classes_older (n + 1) ts o.1)
]

turn_same : (count : ℕ) (ss : List Marked) (t : Lookahead) → is_path_sign t.class ≡ false → was_turn count ss t ≡ effect count ss t
turn_same count [] t e = refl
turn_same count (s at m ∷ ss) t e =
    ap (λ b. cond (drops m t.class) (on count (s at m ∷ ss)) (row_effect count (cond b none (row s m t)) ss (was_turn count ss t) t)) e
    ∙ ap (λ u. cond (drops m t.class) (on count (s at m ∷ ss)) (row_effect count (row s m t) ss u t)) (turn_same count ss t e)

next_same : (u : Effect) (f g : ℕ → List Marked → Option Refusal) → ((o : ℕ) (ss : List Marked) → f o ss ≡ g o ss) → next u f ≡ next u g
next_same (on o ss) f g h = h o ss
next_same (stop r) f g h = refl

run_same : (count : ℕ) (ss : List Marked) (ts : List Lookahead) → OlderClasses ts → was_run count ss ts ≡ run count ss ts
unfolding run
run_same count ss [] o = refl
run_same count ss (t ∷ ts) o = ap (λ u. next u (λ n rest. was_run n rest ts)) (turn_same count ss t o.0) ∙ next_same (effect count ss t) (λ n rest. was_run n rest ts) (λ n rest. run n rest ts) (λ n rest. run_same n rest ts o.1)

pub accepted_too : (ts : List Lexeme) → Older ts → WasAccepted ts → IsAccepted ts
accepted_too ts o was = sym (run_same 0 (file at Seen ∷ []) (lookaheads ts) (classes_older 0 ts o)) ∙ was

pub accepted_before : (ts : List Lexeme) → Older ts → IsAccepted ts → WasAccepted ts
accepted_before ts o is = run_same 0 (file at Seen ∷ []) (lookaheads ts) (classes_older 0 ts o) ∙ is

-- ---- a property of each class holds for all
abbrev classes : List Class
classes = class.Trivia ∷ class.Newline ∷ class.Ident Plain ∷ class.Ident For ∷ class.Ident In ∷ class.Ident If ∷ class.Ident Else ∷ class.Ident Endif ∷ class.Ident Endfor ∷ class.Number true ∷ class.Number false ∷ class.HeredocOpen ∷ class.HeredocClose ∷ class.QuoteOpen ∷ class.QuoteClose ∷ class.Lit ∷ class.InterpOpen ∷ class.ControlOpen ∷ class.SeqClose ∷ class.ParenOpen ∷ class.ParenClose ∷ class.BracketOpen ∷ class.BracketClose ∷ class.BraceOpen ∷ class.BraceClose ∷ class.Dot ∷ class.Comma ∷ class.Ellipsis ∷ class.Question ∷ class.Colon ∷ class.ColonColon ∷ class.Assign ∷ class.Arrow ∷ class.Not ∷ class.Minus ∷ class.Star ∷ class.Binary ∷ []

no_place : (n : ℕ) → nat_lt n 0 ≡ true → ⊥
no_place n h = grind (arith, nat_tests)

at_place : (P : Class → Bool) (cs : List Class) (n : ℕ) → list_all P cs ≡ true → nat_lt n (length cs) ≡ true → P (get_or cs n class.Dot) ≡ true
at_place P [] n h e = absurd (no_place n e)
at_place P (c ∷ cs) zero h e = (and_true (P c) (list_all P cs) h).0
at_place P (c ∷ cs) (suc n) h e = at_place P cs n (and_true (P c) (list_all P cs) h).1 (below n (length cs) e)
  where
    below : (a b : ℕ) → nat_lt (suc a) (suc b) ≡ true → nat_lt a b ≡ true
    below a b h = grind (arith, nat_tests)

each : (P : Class → Bool) → list_all P classes ≡ true → (c : Class) → P c ≡ true
each P h class.Trivia = at_place P classes 0 h refl
each P h class.Newline = at_place P classes 1 h refl
each P h (class.Ident Plain) = at_place P classes 2 h refl
each P h (class.Ident For) = at_place P classes 3 h refl
each P h (class.Ident In) = at_place P classes 4 h refl
each P h (class.Ident If) = at_place P classes 5 h refl
each P h (class.Ident Else) = at_place P classes 6 h refl
each P h (class.Ident Endif) = at_place P classes 7 h refl
each P h (class.Ident Endfor) = at_place P classes 8 h refl
each P h (class.Number true) = at_place P classes 9 h refl
each P h (class.Number false) = at_place P classes 10 h refl
each P h class.HeredocOpen = at_place P classes 11 h refl
each P h class.HeredocClose = at_place P classes 12 h refl
each P h class.QuoteOpen = at_place P classes 13 h refl
each P h class.QuoteClose = at_place P classes 14 h refl
each P h class.Lit = at_place P classes 15 h refl
each P h class.InterpOpen = at_place P classes 16 h refl
each P h class.ControlOpen = at_place P classes 17 h refl
each P h class.SeqClose = at_place P classes 18 h refl
each P h class.ParenOpen = at_place P classes 19 h refl
each P h class.ParenClose = at_place P classes 20 h refl
each P h class.BracketOpen = at_place P classes 21 h refl
each P h class.BracketClose = at_place P classes 22 h refl
each P h class.BraceOpen = at_place P classes 23 h refl
each P h class.BraceClose = at_place P classes 24 h refl
each P h class.Dot = at_place P classes 25 h refl
each P h class.Comma = at_place P classes 26 h refl
each P h class.Ellipsis = at_place P classes 27 h refl
each P h class.Question = at_place P classes 28 h refl
each P h class.Colon = at_place P classes 29 h refl
each P h class.ColonColon = at_place P classes 30 h refl
each P h class.Assign = at_place P classes 31 h refl
each P h class.Arrow = at_place P classes 32 h refl
each P h class.Not = at_place P classes 33 h refl
each P h class.Minus = at_place P classes 34 h refl
each P h class.Star = at_place P classes 35 h refl
each P h class.Binary = at_place P classes 36 h refl

-- ---- the states: each symbol that reads a colon is followed by one that reads an expression
abbrev waits_colon : Symbol → Bool
waits_colon (the Separator) = true
waits_colon separator = true
waits_colon _ = false

abbrev begins_expr : List Marked → Bool
begins_expr (expr at m ∷ ss) = true
begins_expr _ = false

abbrev paired : List Marked → Bool
paired [] = true
paired (s at m ∷ ss) = (not (waits_colon s) || begins_expr ss) && paired ss

begins-append : (xs ys : List Marked) → begins_expr xs ≡ true → begins_expr (xs ++ ys) ≡ true
begins-append [] ys h = absurd (cc)
begins-append (expr at m ∷ xs) ys h = refl
begins-append (_ at m ∷ xs) ys h = absurd (cc)

implied : (a b c : Bool) → (b ≡ true → c ≡ true) → (not a || b) ≡ true → (not a || c) ≡ true
implied false b c f h = refl
implied true b c f h = f h

both : (a b : Bool) → a ≡ true → b ≡ true → (a && b) ≡ true
both a b h k = (λ i. h i && b) ∙ k

paired-append : (xs ys : List Marked) → paired xs ≡ true → paired ys ≡ true → paired (xs ++ ys) ≡ true
paired-append [] ys h k = k
paired-append (s at m ∷ xs) ys h k =
    let p = and_true (not (waits_colon s) || begins_expr xs) (paired xs) h in
    both (not (waits_colon s) || begins_expr (xs ++ ys)) (paired (xs ++ ys)) (implied (waits_colon s) (begins_expr xs) (begins_expr (xs ++ ys)) (begins-append xs ys) p.0) (paired-append xs ys p.1 k)

abbrev row_paired : Action → Bool
row_paired none = true
row_paired nothing = true
row_paired (reads xs) = paired xs
row_paired (opens n xs) = paired xs
row_paired (closes xs) = paired xs

terminal_paired : (b : Bool) → row_paired (cond b (reads []) none) ≡ true
terminal_paired true = refl
terminal_paired false = refl

rows_paired : (s : Symbol) (m : Newlines) (n : ℕ) (c : Class) → row_paired (row_of s m n c) ≡ true
rows_paired (the e) m n c = terminal_paired (fits e c)
rows_paired file m n c = each (λ c. row_paired (row_of file m n c)) refl c
rows_paired rest m n c = each (λ c. row_paired (row_of rest m n c)) refl c
rows_paired labels m n c = each (λ c. row_paired (row_of labels m n c)) refl c
rows_paired label_literal m n c = each (λ c. row_paired (row_of label_literal m n c)) refl c
rows_paired start m n c = each (λ c. row_paired (row_of start m n c)) refl c
rows_paired body m n c = each (λ c. row_paired (row_of body m n c)) refl c
rows_paired eol m n c = each (λ c. row_paired (row_of eol m n c)) refl c
rows_paired expr m n c = each (λ c. row_paired (row_of expr m n c)) refl c
rows_paired after_ident m n c = each (λ c. row_paired (row_of after_ident m n c)) refl c
rows_paired path m n c = each (λ c. row_paired (row_of path m n c)) refl c
rows_paired after m n c = each (λ c. row_paired (row_of after m n c)) refl c
rows_paired step m n c = each (λ c. row_paired (row_of step m n c)) refl c
rows_paired index m n c = each (λ c. row_paired (row_of index m n c)) refl c
rows_paired tuple m n c = each (λ c. row_paired (row_of tuple m n c)) refl c
rows_paired tuple_next m n c = each (λ c. row_paired (row_of tuple_next m n c)) refl c
rows_paired tuple_item m n c = each (λ c. row_paired (row_of tuple_item m n c)) refl c
rows_paired tuple_if m n c = each (λ c. row_paired (row_of tuple_if m n c)) refl c
rows_paired names m n c = each (λ c. row_paired (row_of names m n c)) refl c
rows_paired object m n c = each (λ c. row_paired (row_of object m n c)) refl c
rows_paired separator m n c = each (λ c. row_paired (row_of separator m n c)) refl c
rows_paired object_next m n c = each (λ c. row_paired (row_of object_next m n c)) refl c
rows_paired object_item m n c = each (λ c. row_paired (row_of object_item m n c)) refl c
rows_paired group m n c = each (λ c. row_paired (row_of group m n c)) refl c
rows_paired object_if m n c = each (λ c. row_paired (row_of object_if m n c)) refl c
rows_paired args m n c = each (λ c. row_paired (row_of args m n c)) refl c
rows_paired arg_next m n c = each (λ c. row_paired (row_of arg_next m n c)) refl c
rows_paired parts m n c = each (λ c. row_paired (row_of parts m n c)) refl c
rows_paired (directive k) m n c = each (λ c. row_paired (row_of (directive k) m n c)) refl c
rows_paired (inside e) m n c = each (λ c. row_paired (row_of (inside e) m n c)) refl c
rows_paired (section_directive InIf k) m n c = each (λ c. row_paired (row_of (section_directive InIf k) m n c)) refl c
rows_paired (section_directive InElse k) m n c = each (λ c. row_paired (row_of (section_directive InElse k) m n c)) refl c
rows_paired (section_directive InFor k) m n c = each (λ c. row_paired (row_of (section_directive InFor k) m n c)) refl c

-- ---- the symbols that read a colon
abbrev is_read : Action → Bool
is_read none = false
is_read nothing = false
is_read _ = true

abbrev is_empty : Action → Bool
is_empty (reads []) = true
is_empty _ = false

-- the row for a colon reads nothing more, and is that of a symbol that expects it
abbrev colon_test : Symbol → Action → Bool
colon_test s r = not (is_read r) || (waits_colon s && is_empty r)

terminal_colon : (e : Terminal) (m : Newlines) (n : ℕ) → colon_test (the e) (row_of (the e) m n class.Colon) ≡ true
terminal_colon Separator m n = refl
terminal_colon _ m n = refl

colon_rows : (s : Symbol) (m : Newlines) (n : ℕ) → colon_test s (row_of s m n class.Colon) ≡ true
colon_rows (the e) m n = terminal_colon e m n
colon_rows (section_directive InIf k) m n = refl
colon_rows (section_directive InElse k) m n = refl
colon_rows (section_directive InFor k) m n = refl
colon_rows _ m n = refl

abbrev is_colon_class : Class → Bool
is_colon_class class.Colon = true
is_colon_class _ = false

colon_class_is : (c : Class) → is_colon_class c ≡ true → c ≡ class.Colon
colon_class_is class.Colon h = refl
colon_class_is _ h = absurd (false≢true h)

not_dropped : (m : Newlines) (c : Class) → is_colon_class c ≡ true → drops m c ≡ true → ⊥
not_dropped Dropped class.Newline h d = false≢true h
not_dropped _ _ h d = false≢true d

record Waits (s : Symbol) (xs : List Marked) : Type 0 where
  waits : waits_colon s ≡ true
  empty : xs ≡ []

read_waits : (s : Symbol) (xs : List Marked) → colon_test s (reads xs) ≡ true → Waits s xs
read_waits s [] h = record { waits = (and_true (waits_colon s) true h).0; empty = refl }
read_waits s (x ∷ xs) h = absurd (let f = (and_true (waits_colon s) false h).1 in cc)

colon_read : (s : Symbol) (m : Newlines) (t : Lookahead) (xs : List Marked) → is_colon_class t.class ≡ true → row s m t ≡ reads xs → Waits s xs
colon_read s m t xs h e =
    let same : row_of s m t.number class.Colon ≡ reads xs = ap (λ (c : Class). row_of s m t.number c) (sym (colon_class_is t.class h)) ∙ e in
    read_waits s xs (ap (colon_test s) (sym same) ∙ colon_rows s m t.number)

colon_other : (s : Symbol) (m : Newlines) (t : Lookahead) (r : Action) → is_colon_class t.class ≡ true → row s m t ≡ r → is_read r ≡ true → is_empty r ≡ false → ⊥
colon_other s m t r h e i f =
    let same : row_of s m t.number class.Colon ≡ r = ap (λ (c : Class). row_of s m t.number c) (sym (colon_class_is t.class h)) ∙ e in
    let test : colon_test s r ≡ true = ap (colon_test s) (sym same) ∙ colon_rows s m t.number in
    let both_are : (waits_colon s && is_empty r) ≡ true = (λ j. not (sym i j) || (waits_colon s && is_empty r)) ∙ test in
    let g = sym f ∙ (and_true (waits_colon s) (is_empty r) both_are).1 in
    cc

-- ---- a step
record Led (t : Lookahead) (us : List Marked) : Type 0 where
  pairs : paired us ≡ true
  expects : is_colon_class t.class ≡ true → begins_expr us ≡ true

waited : (a b : Bool) → a ≡ true → (not a || b) ≡ true → b ≡ true
waited true b e h = h
waited false b e h = absurd (cc)

led : (count : ℕ) (ss : List Marked) (t : Lookahead) (later : ℕ) (us : List Marked) → Step count ss t later us → paired ss ≡ true → Led t us
led count ss t later us (dropped c s m vs u d) p = record { pairs = p; expects = λ h. absurd (not_dropped m u.class h d) }
led count ss t later us (read c s m xs vs u d e) p =
    let q = and_true (not (waits_colon s) || begins_expr vs) (paired vs) p in
    record {
      pairs = paired-append xs vs (ap row_paired (sym e) ∙ rows_paired s m u.number u.class) q.1;
      expects = λ h. let w = colon_read s m u xs h e in ap (λ l. begins_expr (l ++ vs)) w.empty ∙ waited (waits_colon s) (begins_expr vs) w.waits q.0;
    }
led count ss t later us (opened c n s m xs vs u d e few) p =
    let q = and_true (not (waits_colon s) || begins_expr vs) (paired vs) p in
    record { pairs = paired-append xs vs (ap row_paired (sym e) ∙ rows_paired s m u.number u.class) q.1; expects = λ h. absurd (colon_other s m u (opens n xs) h e refl refl) }
led count ss t later us (closed c s m xs vs u d e) p =
    let q = and_true (not (waits_colon s) || begins_expr vs) (paired vs) p in
    record { pairs = paired-append xs vs (ap row_paired (sym e) ∙ rows_paired s m u.number u.class) q.1; expects = λ h. absurd (colon_other s m u (closes xs) h e refl refl) }
led count ss t later us (gone c s m vs u l ws d e h) p = led c vs u l ws h (and_true (not (waits_colon s) || begins_expr vs) (paired vs) p).1

-- no expression begins with a colon
expr_is : (s : Symbol) (m : Newlines) (ss : List Marked) → begins_expr (s at m ∷ ss) ≡ true → s ≡ expr
expr_is expr m ss h = refl
expr_is _ m ss h = absurd (false≢true h)

expr_row_none : (s : Symbol) (m : Newlines) (ss : List Marked) (t : Lookahead) → begins_expr (s at m ∷ ss) ≡ true → is_colon_class t.class ≡ true → row s m t ≡ none
expr_row_none s m ss t b h = (λ i. row_of (expr_is s m ss b i) m t.number (colon_class_is t.class h i))

no_colon : (count : ℕ) (ss : List Marked) (t : Lookahead) (later : ℕ) (us : List Marked) → Step count ss t later us → begins_expr ss ≡ true → is_colon_class t.class ≡ true → ⊥
no_colon count ss t later us (dropped c s m vs u d) b h = not_dropped m u.class h d
no_colon count ss t later us (read c s m xs vs u d e) b h = let f = sym (expr_row_none s m vs u b h) ∙ e in cc
no_colon count ss t later us (opened c n s m xs vs u d e few) b h = let f = sym (expr_row_none s m vs u b h) ∙ e in cc
no_colon count ss t later us (closed c s m xs vs u d e) b h = let f = sym (expr_row_none s m vs u b h) ∙ e in cc
no_colon count ss t later us (gone c s m vs u l ws d e k) b h = let f = sym (expr_row_none s m vs u b h) ∙ e in cc

-- ---- a whole list
record Stepped (count : ℕ) (ss : List Marked) (t : Lookahead) (ts : List Lookahead) : Type 0 where
  later : ℕ
  us : List Marked
  taken_so : Step count ss t later us
  left : ComesTo later us ts None

stepped : (count : ℕ) (ss : List Marked) (l : List Lookahead) (o : Option Refusal) → ComesTo count ss l o → o ≡ None → (t : Lookahead) (ts : List Lookahead) → l ≡ t ∷ ts → Stepped count ss t ts
stepped count ss l o (at_end c us p h) e t ts k = absurd (cc)
stepped count ss l o (one_step c us u vs later ws p h r) e t ts k = record {
  later = later;
  us = ws;
  taken_so = subst (λ (x : Lookahead). Step c us x later ws) (head u t vs ts k) h;
  left = subst (λ (x : Option Refusal). ComesTo later ws ts x) e (subst (λ (x : List Lookahead). ComesTo later ws x p) (tail u t vs ts k) r);
}
  where
    head : (u t : Lookahead) (vs ts : List Lookahead) → u ∷ vs ≡ t ∷ ts → u ≡ t
    head u t vs ts k = cc

    tail : (u t : Lookahead) (vs ts : List Lookahead) → u ∷ vs ≡ t ∷ ts → vs ≡ ts
    tail u t vs ts k = cc
stepped count ss l o (refused c us u vs r h) e t ts k = absurd (cc)

colon_class : (k : Kind) (text : List ℕ) → is kind.Colon k ≡ true → is_colon_class (class_at k text) ≡ true
colon_class kind.Colon text h = refl
colon_class _ text h = absurd (false≢true h)

trivia_no_colon : (k : Kind) (text : List ℕ) → is_trivia (class_at k text) ≡ true → is kind.Colon k ≡ false
trivia_no_colon kind.Colon text h = absurd (cc)
trivia_no_colon _ text h = refl

record Parted (ss : List Marked) (ts : List Lexeme) : Type 0 where
  parts_all : Apart ts
  front : begins_expr ss ≡ true → starts_colon ts ≡ false

-- one more token, if it holds for those after it
module _ (n : ℕ) (t : Lexeme) (ts : List Lexeme) (count : ℕ) (ss : List Marked) (r : ComesTo count ss (lookaheads_from n (t ∷ ts)) None) (p : paired ss ≡ true)
    (more : (count : ℕ) (ss : List Marked) → ComesTo count ss (lookaheads_from (n + 1) ts) None → paired ss ≡ true → Parted ss ts) where
  abbrev seen : Lookahead
  seen = record { class = class_of t; number = n }

  list_is : (v : Bool) → is_trivia (class_of t) ≡ v → lookaheads_from n (t ∷ ts) ≡ cond v (lookaheads_from (n + 1) ts) (seen ∷ lookaheads_from (n + 1) ts)
  list_is v e = ap (λ b. cond b (lookaheads_from (n + 1) ts) (seen ∷ lookaheads_from (n + 1) ts)) e

  plain : Stepped count ss seen (lookaheads_from (n + 1) ts) → begins_expr ss ≡ true → (w : Bool) → is kind.Colon t.kind ≡ w → is kind.Colon t.kind ≡ false
  plain st b false f = f
  plain st b true f = absurd (no_colon count ss seen st.later st.us st.taken_so b (colon_class t.kind t.text f))

  parted_on : (v : Bool) → is_trivia (class_of t) ≡ v → Parted ss (t ∷ ts)
  parted_on true e =
      let beyond = more count ss (subst (λ (l : List Lookahead). ComesTo count ss l None) (list_is true e) r) p in
      let no = trivia_no_colon t.kind t.text e in
      record { parts_all = ((λ h. let f : true ≡ false = sym h ∙ no in cc), beyond.parts_all); front = λ b. no }
  parted_on false e =
      let st = stepped count ss (lookaheads_from n (t ∷ ts)) None r refl seen (lookaheads_from (n + 1) ts) (list_is false e) in
      let here = led count ss seen st.later st.us st.taken_so p in
      let beyond = more st.later st.us st.left here.pairs in
      record { parts_all = ((λ h. beyond.front (here.expects (colon_class t.kind t.text h))), beyond.parts_all); front = λ b. plain st b (is kind.Colon t.kind) refl }

parted : (n : ℕ) (ts : List Lexeme) (count : ℕ) (ss : List Marked) → ComesTo count ss (lookaheads_from n ts) None → paired ss ≡ true → Parted ss ts
parted n [] count ss r p = record { parts_all = tt; front = λ b. refl }
parted n (t ∷ ts) count ss r p = parted_on n t ts count ss r p (λ later us. parted (n + 1) ts later us) (is_trivia (class_of t)) refl

pub accepted_disjoint : (ts : List Lexeme) → IsAccepted ts → Apart ts
accepted_disjoint ts is = (parted 0 ts 0 (file at Seen ∷ []) (subst (λ (o : Option Refusal). ComesTo 0 (file at Seen ∷ []) (lookaheads ts) o) is (answers 0 (file at Seen ∷ []) (lookaheads ts))) refl).parts_all
