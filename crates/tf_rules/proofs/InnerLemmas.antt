-- The symbols of expressions and templates: the rows of such symbols give only such symbols; and newlines are dropped,
-- and templates are read, only if a closer is still to come.
use Rattle.std.proofs.Common.{◌≡◌, ◌⊎◌, inl, inr, ℕ, ◌+◌, nat_lt, Bool, true, false, cond, List, [], ◌∷◌, ◌++◌, length, arith, refl, sym, ap, subst, ◌∙◌, append_assoc, true≢false}
use Rattle.std.specs.Prelude.{◌||◌, ◌-◌, None, Some}
use Rattle.hcl_tokens.specs.Lexemes.{Opener}
use Rattle.hcl_grammar.specs.declared.class.Class.{Class}
use Rattle.hcl_grammar.specs.declared.class.Class.TheVariants.{Newline, Ident, Number, HeredocOpen, HeredocClose, QuoteOpen, QuoteClose, Lit, InterpOpen, ControlOpen, ParenOpen, ParenClose, BracketOpen, BracketClose, BraceOpen, BraceClose, Dot, Comma, Ellipsis, Question, Colon, ColonColon, Assign, Not, Minus, Star, Binary}
use Rattle.hcl_grammar.specs.declared.class.Word.TheVariants.{For, In, If, Else, Endif, Endfor}
use Rattle.hcl_grammar.specs.declared.class.Lookahead.{Lookahead}
use Rattle.hcl_grammar.specs.declared.expected.Newlines.{Newlines}
use Rattle.hcl_grammar.specs.declared.expected.Newlines.TheVariants.{Seen, Dropped}
use Rattle.hcl_grammar.specs.declared.expected.Section.TheVariants.{InIf, InElse, InFor}
use Rattle.hcl_grammar.specs.declared.expected.Terminal.{Terminal}
use Rattle.hcl_grammar.specs.declared.expected.Terminal.TheVariants.{EndBracket, EndBrace}
use Rattle.hcl_grammar.specs.declared.refusal.Refusal.{Refusal}
use Rattle.hcl_grammar.specs.declared.refusal.Refusal.TheVariants.{UnexpectedToken, UnexpectedEnd, TooDeep}
use Rattle.hcl_grammar.specs.Classes.{drops}
use Rattle.hcl_grammar.specs.Grammar.{Symbol, ends, the, file, rest, labels, label_literal, start, body, eol, expr, after_ident, path, after, step, index, tuple, tuple_next, tuple_item, tuple_if, names, object, separator, object_next, object_item, group, object_if, args, arg_next, parts, directive, inside, section_directive, Marked, ◌at◌, Action, none, nothing, reads, opens, closes, ◌then◌, row, shared_row, row_of, fits}
use Rattle.hcl_grammar.specs.Predictor.{max_directives, on, stop, effect, row_effect, ending}
use Rattle.hcl_grammar.proofs.UnclosedLemmas.{unclosed_in, unclosed_in_all, HaveNumbers, RowMoves}
use Rattle.hcl_grammar.proofs.RowLemmas.{moves-row}

abbrev pub is_nonempty : List Opener → Bool
is_nonempty [] = false
is_nonempty (o ∷ os) = true

-- a closer is still to come from these, or from those below them
abbrev pub has_unclosed : Bool → List Marked → Bool
has_unclosed e [] = e
has_unclosed e (s at m ∷ ss) = is_nonempty (unclosed_in s) || has_unclosed e ss

abbrev pub Gate : Newlines → Bool → Type 0
Gate Seen e = Unit {0}
Gate Dropped e = e ≡ true

-- a symbol of expressions or templates, given whether a closer is still to come below it
abbrev pub IsInner : Symbol → Newlines → Bool → Type 0
IsInner file m e = ⊥
IsInner rest m e = ⊥
IsInner labels m e = ⊥
IsInner label_literal m e = ⊥
IsInner start m e = ⊥
IsInner body m e = ⊥
IsInner eol m e = ⊥
IsInner parts m e = e ≡ true
IsInner (directive n) m e = e ≡ true
IsInner (inside s) m e = e ≡ true
IsInner (section_directive s n) m e = e ≡ true
IsInner s m e = Gate m (is_nonempty (unclosed_in s) || e)

abbrev pub AreInner : Bool → List Marked → Type 0
AreInner e [] = Unit {0}
AreInner e (s at m ∷ ss) = IsInner s m (has_unclosed e ss) × AreInner e ss

abbrev pub RowInner : Bool → Action → Type 0
RowInner e none = Unit {0}
RowInner e nothing = Unit {0}
RowInner e (reads xs) = AreInner e xs
RowInner e (opens n xs) = AreInner e xs
RowInner e (closes xs) = AreInner e xs

open_gate : (m : Newlines) → Gate m true
open_gate Seen = tt
open_gate Dropped = refl

has_unclosed_both : (e : Bool) (xs ys : List Marked) → has_unclosed e (xs ++ ys) ≡ has_unclosed (has_unclosed e ys) xs
has_unclosed_both e [] ys = refl
has_unclosed_both e (s at m ∷ xs) ys = ap (λ b. is_nonempty (unclosed_in s) || b) (has_unclosed_both e xs ys)

pub inner_both : (e : Bool) (xs ys : List Marked) → AreInner (has_unclosed e ys) xs → AreInner e ys → AreInner e (xs ++ ys)
inner_both e [] ys h k = k
inner_both e (s at m ∷ xs) ys h k = (subst (λ b. IsInner s m b) (sym (has_unclosed_both e xs ys)) h.0, inner_both e xs ys h.1 k)

inner_then : (e : Bool) (r : Action) (ys : List Marked) → RowInner (has_unclosed e ys) r → AreInner e ys → RowInner e (r then ys)
inner_then e none ys h k = tt
inner_then e nothing ys h k = tt
inner_then e (reads xs) ys h k = inner_both e xs ys h k
inner_then e (opens n xs) ys h k = inner_both e xs ys h k
inner_then e (closes xs) ys h k = inner_both e xs ys h k

-- ---- row by row

-- the rows that others begin with
inner_shared : (s : Symbol) (m : Newlines) (n : ℕ) (e : Bool) (c : Class) → IsInner s m e → RowInner e (shared_row s m n c)
inner_shared labels m n e c h = absurd h
inner_shared expr m n e Minus h = (h, tt)
inner_shared expr m n e Not h = (h, tt)
inner_shared expr m n e (Number d) h = (h, tt)
inner_shared expr m n e (Ident w) h = (h, tt)
inner_shared expr m n e QuoteOpen h = (refl, (open_gate m, (h, tt)))
inner_shared expr m n e HeredocOpen h = (refl, (open_gate m, (h, tt)))
inner_shared expr m n e ParenOpen h = (refl, (refl, (h, tt)))
inner_shared expr m n e BracketOpen h = (refl, (h, tt))
inner_shared expr m n e BraceOpen h = (tt, (h, tt))
inner_shared after m n e Dot h = (h, (h, tt))
inner_shared after m n e BracketOpen h = (refl, (h, tt))
inner_shared after m n e Minus h = (h, tt)
inner_shared after m n e Star h = (h, tt)
inner_shared after m n e Binary h = (h, tt)
inner_shared after m n e Question h = (h, (h, (h, tt)))
inner_shared object_if m n e (Ident If) h = (open_gate m, (open_gate m, tt))
inner_shared object_if m n e BraceClose h = tt
inner_shared (directive k) m n e (Ident If) h = (open_gate m, (open_gate m, (h, tt)))
inner_shared (directive k) m n e (Ident For) h = (open_gate m, (open_gate m, (open_gate m, (open_gate m, (h, tt)))))
inner_shared s m n e c h = tt

inner_terminal : (e b : Bool) → RowInner e (cond b (reads []) none)
inner_terminal e true = tt
inner_terminal e false = tt

inner_row : (s : Symbol) (m : Newlines) (n : ℕ) (e : Bool) (c : Class) → IsInner s m e → RowInner e (row_of s m n c)
inner_row (the t) m n e c h = inner_terminal e (fits t c)
inner_row file m n e c h = absurd h
inner_row rest m n e c h = absurd h
inner_row label_literal m n e c h = absurd h
inner_row start m n e c h = absurd h
inner_row body m n e c h = absurd h
inner_row eol m n e c h = absurd h
inner_row after_ident m n e ParenOpen h = (refl, (h, tt))
inner_row after_ident m n e ColonColon h = (h, (h, tt))
inner_row after_ident m n e c h = inner_shared after m n e c h
inner_row path m n e ColonColon h = (h, (h, tt))
inner_row path m n e ParenOpen h = (refl, (h, tt))
inner_row step m n e (Ident w) h = tt
inner_row step m n e (Number true) h = tt
inner_row step m n e Star h = tt
inner_row index m n e Star h = (open_gate m, tt)
inner_row index m n e c h = inner_then e (shared_row expr m n c) (the EndBracket at m ∷ []) (inner_shared expr m n true c (open_gate m)) (open_gate m, tt)
inner_row tuple m n e (Ident For) h = (open_gate m, (open_gate m, (open_gate m, (open_gate m, (open_gate m, (open_gate m, tt))))))
inner_row tuple m n e BracketClose h = tt
inner_row tuple m n e c h = inner_then e (shared_row expr m n c) (tuple_next at m ∷ []) (inner_shared expr m n true c (open_gate m)) (open_gate m, tt)
inner_row tuple_next m n e Comma h = (open_gate m, tt)
inner_row tuple_next m n e BracketClose h = tt
inner_row tuple_item m n e BracketClose h = tt
inner_row tuple_item m n e c h = inner_then e (shared_row expr m n c) (tuple_next at m ∷ []) (inner_shared expr m n true c (open_gate m)) (open_gate m, tt)
inner_row tuple_if m n e (Ident If) h = (open_gate m, (open_gate m, tt))
inner_row tuple_if m n e BracketClose h = tt
inner_row names m n e Comma h = (h, (h, tt))
inner_row names m n e (Ident In) h = tt
inner_row object m n e Newline h = (open_gate m, tt)
inner_row object m n e (Ident For) h = (refl, (refl, (refl, (refl, (refl, (refl, (refl, (refl, tt))))))))
inner_row object m n e BraceClose h = tt
inner_row object m n e c h = inner_then e (shared_row expr m n c) (separator at m ∷ expr at m ∷ object_next at m ∷ []) (inner_shared expr m n true c (open_gate m)) (open_gate m, (open_gate m, (open_gate m, tt)))
inner_row separator m n e Assign h = tt
inner_row separator m n e Colon h = tt
inner_row object_next m n e Comma h = (open_gate m, tt)
inner_row object_next m n e Newline h = (open_gate m, tt)
inner_row object_next m n e BraceClose h = tt
inner_row object_item m n e Newline h = (open_gate m, tt)
inner_row object_item m n e BraceClose h = tt
inner_row object_item m n e c h = inner_then e (shared_row expr m n c) (separator at m ∷ expr at m ∷ object_next at m ∷ []) (inner_shared expr m n true c (open_gate m)) (open_gate m, (open_gate m, (open_gate m, tt)))
inner_row group m n e Ellipsis h = (open_gate m, tt)
inner_row group m n e c h = inner_shared object_if m n e c h
inner_row args m n e ParenClose h = tt
inner_row args m n e c h = inner_then e (shared_row expr m n c) (arg_next at m ∷ []) (inner_shared expr m n true c (open_gate m)) (open_gate m, tt)
inner_row arg_next m n e Comma h = (open_gate m, tt)
inner_row arg_next m n e Ellipsis h = (open_gate m, tt)
inner_row arg_next m n e ParenClose h = tt
inner_row parts m n e Lit h = (h, tt)
inner_row parts m n e InterpOpen h = (refl, (refl, (h, tt)))
inner_row parts m n e ControlOpen h = (h, (h, tt))
inner_row parts m n e QuoteClose h = tt
inner_row parts m n e HeredocClose h = tt
inner_row (section_directive InIf k) m n e (Ident Else) h = (open_gate m, (h, tt))
inner_row (section_directive InIf k) m n e (Ident Endif) h = (open_gate m, tt)
inner_row (section_directive InElse k) m n e (Ident Endif) h = (open_gate m, tt)
inner_row (section_directive InFor k) m n e (Ident Endfor) h = (open_gate m, tt)
inner_row (section_directive s k) m n e c h = inner_then e (shared_row (directive k) m n c) (inside s at m ∷ []) (inner_shared (directive k) m n e c h) (h, tt)
inner_row (inside s) m n e Lit h = (h, tt)
inner_row (inside s) m n e InterpOpen h = (refl, (refl, (h, tt)))
inner_row (inside s) m n e ControlOpen h = (h, tt)
inner_row s m n e c h = inner_shared s m n e c h

-- ---- one token: these symbols lead to others, or they all go away and the token is for those below

abbrev pub Passes : ℕ → List Marked → List Marked → Lookahead → ℕ → List Marked → Type 0
Passes count xs ds t later us =
    ((more : List Marked) × (us ≡ more ++ ds) × AreInner false more) ⊎ ((effect count ds t ≡ on later us) × (unclosed_in_all xs ≡ []))

pub landed : (count later : ℕ) (ss us : List Marked) → on count ss ≡ on later us → us ≡ ss
landed count later ss us e = cc

pub stopped : (r : Refusal) (later : ℕ) (us : List Marked) → stop r ≡ on later us → ⊥
stopped r later us e = cc

put : (count : ℕ) (ys xs ds : List Marked) (t : Lookahead) (later : ℕ) (us : List Marked) (now : ℕ) → AreInner (has_unclosed false xs) ys → AreInner false xs → on now (ys ++ (xs ++ ds)) ≡ on later us
    → (more : List Marked) × (us ≡ more ++ ds) × AreInner false more
put count ys xs ds t later us now h k e = (ys ++ xs, landed now later (ys ++ (xs ++ ds)) us e ∙ sym (append_assoc ys xs ds), inner_both false ys xs h k)

pass_row : (count : ℕ) (s : Symbol) (m : Newlines) (xs ds : List Marked) (t : Lookahead) (later : ℕ) (us : List Marked) (r : Action) → r ≡ row s m t → ([] ≡ unclosed_in s ⊎ (r ≡ nothing → ⊥)) → RowInner (has_unclosed false xs) r → AreInner false xs
    → (effect count (xs ++ ds) t ≡ on later us → Passes count xs ds t later us) → row_effect count r (xs ++ ds) (effect count (xs ++ ds) t) t ≡ on later us → Passes count (s at m ∷ xs) ds t later us
pass_row count s m xs ds t later us none is flat h k more e = absurd (stopped (UnexpectedToken t.number) later us e)
pass_row count s m xs ds t later us nothing is (inr goes) h k more e = absurd (goes refl)
pass_row count s m xs ds t later us nothing is (inl flat) h k more e = by (more e)
  where
    by : Passes count xs ds t later us → Passes count (s at m ∷ xs) ds t later us
    by (inl p) = inl p
    by (inr p) = inr (p.0, ap (λ os. os ++ unclosed_in_all xs) (sym flat) ∙ p.1)
pass_row count s m xs ds t later us (reads ys) is flat h k more e = inl (put count ys xs ds t later us count h k e)
pass_row count s m xs ds t later us (opens n ys) is flat h k more e = by (nat_lt count max_directives) e
  where
    by : (b : Bool) → cond b (on (count + 1) (ys ++ (xs ++ ds))) (stop (TooDeep n)) ≡ on later us → Passes count (s at m ∷ xs) ds t later us
    by true e = inl (put count ys xs ds t later us (count + 1) h k e)
    by false e = absurd (stopped (TooDeep n) later us e)
pass_row count s m xs ds t later us (closes ys) is flat h k more e = inl (put count ys xs ds t later us (count - 1) h k e)

flat_row : (s : Symbol) (m : Newlines) (n : ℕ) (c : Class) → RowMoves (λ i. Unit {0}) (row_of s m n c) (unclosed_in s) c → ([] ≡ unclosed_in s ⊎ (row_of s m n c ≡ nothing → ⊥))
flat_row s m n c h = by (row_of s m n c) h
  where
    by : (r : Action) → RowMoves (λ i. Unit {0}) r (unclosed_in s) c → ([] ≡ unclosed_in s ⊎ (r ≡ nothing → ⊥))
    by none h = inr (λ e. cc)
    by nothing h = inl h
    by (reads xs) h = inr (λ e. cc)
    by (opens k xs) h = inr (λ e. cc)
    by (closes xs) h = inr (λ e. cc)

have_numbers : (s : Symbol) (m : Newlines) → HaveNumbers (λ i. Unit {0}) (s at m ∷ [])
have_numbers (directive n) m = (tt, tt)
have_numbers (section_directive e n) m = (tt, tt)
have_numbers s m = tt

-- ONE TOKEN
pub inner_passes : (count : ℕ) (xs ds : List Marked) (t : Lookahead) (later : ℕ) (us : List Marked) → AreInner false xs → effect count (xs ++ ds) t ≡ on later us → Passes count xs ds t later us
inner_passes count [] ds t later us h e = inr (e, refl)
inner_passes count (s at m ∷ xs) ds t later us h e = by (drops m t.class) e (λ k. inner_passes count xs ds t later us h.1 k)
  where
    by : (b : Bool) → cond b (on count (s at m ∷ (xs ++ ds))) (row_effect count (row s m t) (xs ++ ds) (effect count (xs ++ ds) t) t) ≡ on later us
        → (effect count (xs ++ ds) t ≡ on later us → Passes count xs ds t later us) → Passes count (s at m ∷ xs) ds t later us
    by true e more = inl (s at m ∷ xs, landed count later (s at m ∷ (xs ++ ds)) us e, h)
    by false e more =
        pass_row count s m xs ds t later us (row s m t) refl (flat_row s m t.number t.class (moves-row (λ i. Unit {0}) s m t.number t.class tt (have_numbers s m))) (inner_row s m t.number (has_unclosed false xs) t.class h.0) h.1 more e

-- ---- a newline with no closer to come

-- then such a symbol has no row, or goes away
newline_row : (s : Symbol) (n : ℕ) → unclosed_in s ≡ [] → IsInner s Seen false → (row_of s Seen n Newline ≡ nothing) ⊎ (row_of s Seen n Newline ≡ none)
newline_row (the t) n e h = inr (by t)
  where
    by : (t : Terminal) → cond (fits t Newline) (reads []) none ≡ none
    by EndBrace = refl
    by _ = refl
newline_row file n e h = absurd h
newline_row rest n e h = absurd h
newline_row labels n e h = absurd h
newline_row label_literal n e h = absurd h
newline_row start n e h = absurd h
newline_row body n e h = absurd h
newline_row eol n e h = absurd h
newline_row parts n e h = absurd (true≢false (sym h))
newline_row (directive k) n e h = absurd (true≢false (sym h))
newline_row (inside s) n e h = absurd (true≢false (sym h))
newline_row (section_directive s k) n e h = absurd (true≢false (sym h))
newline_row after n e h = inl refl
newline_row after_ident n e h = inl refl
newline_row expr n e h = inr refl
newline_row path n e h = inr refl
newline_row step n e h = inr refl
newline_row names n e h = inr refl
newline_row separator n e h = inr refl
newline_row s n e h = absurd (omega (arith, ap length e))

nothing_unclosed : (s : Symbol) (m : Newlines) (xs : List Marked) → unclosed_in_all (s at m ∷ xs) ≡ [] → (unclosed_in s ≡ []) × (unclosed_in_all xs ≡ [])
nothing_unclosed s m xs e = by (unclosed_in s) e
  where
    by : (os : List Opener) → os ++ unclosed_in_all xs ≡ [] → (os ≡ []) × (unclosed_in_all xs ≡ [])
    by [] h = (refl, h)
    by (o ∷ os) h = absurd (omega (arith, ap length h))

none_unclosed : (xs : List Marked) → unclosed_in_all xs ≡ [] → has_unclosed false xs ≡ false
none_unclosed [] e = refl
none_unclosed (s at m ∷ xs) e = let h = nothing_unclosed s m xs e in ap (λ os. is_nonempty os || has_unclosed false xs) h.0 ∙ none_unclosed xs h.1

seen_there : (s : Symbol) (m : Newlines) → unclosed_in s ≡ [] → IsInner s m false → m ≡ Seen
seen_there s Seen e h = refl
seen_there s Dropped e h = absurd (by s e h)
  where
    by : (s : Symbol) → unclosed_in s ≡ [] → IsInner s Dropped false → ⊥
    by file e h = h
    by rest e h = h
    by labels e h = h
    by label_literal e h = h
    by start e h = h
    by body e h = h
    by eol e h = h
    by parts e h = true≢false (sym h)
    by (directive k) e h = true≢false (sym h)
    by (inside s) e h = true≢false (sym h)
    by (section_directive s k) e h = true≢false (sym h)
    by (the t) e h = true≢false (sym h ∙ ap (λ os. is_nonempty os || false) e)
    by after e h = true≢false (sym h)
    by after_ident e h = true≢false (sym h)
    by expr e h = true≢false (sym h)
    by path e h = true≢false (sym h)
    by step e h = true≢false (sym h)
    by names e h = true≢false (sym h)
    by separator e h = true≢false (sym h)
    by s e h = omega (arith, ap length e)

pub newline_passes : (count n : ℕ) (xs ds : List Marked) (later : ℕ) (us : List Marked) → AreInner false xs → unclosed_in_all xs ≡ []
    → effect count (xs ++ ds) (record { class = Newline; number = n }) ≡ on later us → effect count ds (record { class = Newline; number = n }) ≡ on later us
newline_passes count n [] ds later us h flat e = e
newline_passes count n (s at m ∷ xs) ds later us h flat e =
    newline_passes count n xs ds later us h.1 here.1 (by (newline_row s n here.0 (subst (λ k. IsInner s k false) seen inner)) (subst (λ k. effect count (s at k ∷ (xs ++ ds)) t ≡ on later us) seen e))
  where
    t : Lookahead
    t = record { class = Newline; number = n }

    here : (unclosed_in s ≡ []) × (unclosed_in_all xs ≡ [])
    here = nothing_unclosed s m xs flat

    inner : IsInner s m false
    inner = subst (λ b. IsInner s m b) (none_unclosed xs here.1) h.0

    seen : m ≡ Seen
    seen = seen_there s m here.0 inner

    by : (row_of s Seen n Newline ≡ nothing) ⊎ (row_of s Seen n Newline ≡ none) → row_effect count (row_of s Seen n Newline) (xs ++ ds) (effect count (xs ++ ds) t) t ≡ on later us → effect count (xs ++ ds) t ≡ on later us
    by (inl r) h = sym (ap (λ a. row_effect count a (xs ++ ds) (effect count (xs ++ ds) t) t) r) ∙ h
    by (inr r) h = absurd (stopped (UnexpectedToken n) later us (sym (ap (λ a. row_effect count a (xs ++ ds) (effect count (xs ++ ds) t) t) r) ∙ h))

-- ---- the end, where these are not needed
pub inner_ends : (xs ds : List Marked) → AreInner false xs → ending (xs ++ ds) ≡ None → (ending ds ≡ None) × (unclosed_in_all xs ≡ [])
inner_ends [] ds h e = (e, refl)
inner_ends (s at m ∷ xs) ds h e = by (ends s) refl e (λ k. inner_ends xs ds h.1 k)
  where
    has_unclosed_none : (s : Symbol) → ends s ≡ true → unclosed_in s ≡ []
    has_unclosed_none file e = refl
    has_unclosed_none eol e = refl
    has_unclosed_none after_ident e = refl
    has_unclosed_none after e = refl
    has_unclosed_none _ e = absurd (true≢false (sym e))

    by : (b : Bool) → ends s ≡ b → cond b (ending (xs ++ ds)) (Some UnexpectedEnd) ≡ None → (ending (xs ++ ds) ≡ None → (ending ds ≡ None) × (unclosed_in_all xs ≡ [])) → (ending ds ≡ None) × (unclosed_in_all (s at m ∷ xs) ≡ [])
    by true is e more = let h = more e in (h.0, ap (λ os. os ++ unclosed_in_all xs) (has_unclosed_none s is) ∙ h.1)
    by false is e more = absurd (cc)
