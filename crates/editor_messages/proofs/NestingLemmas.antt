-- Symbols that are written in one pass are nested.
use Rattle.std.proofs.Common.{◌≡◌, ◌∙◌, ◌+◌, ◌-◌, ◌<◌, ◌≤◌, ◌++◌, ◌∷◌, [], ℕ, zero, suc, Bool, true, false, List, ap, ap₂, append_assoc, arith, cond, drop, get_or, length, map, refl, reverse, sym, take, true≢false}
use Rattle.std.specs.Prelude.{Some, nat_lt, slice_get}
use Rattle.std.proofs.lemmas.Bool.{le-ltb, lt-ltb, ltb-true}
use Rattle.std.proofs.lemmas.List.{drop_all, drop_more, length-map, reverse-append, take_all, take_more}
use Rattle.std.proofs.lemmas.Option.{get_or_from_slice_get, slice_get_within}
use Rattle.json.specs.Json.{Items}
use Rattle.json.specs.Token.{Token, end_array, end_object}
use Rattle.json.specs.Tree.{items_tokens, json_tokens}
use Rattle.json.specs.Written.{Written}
use Rattle.lint_forms.proofs.AddsLemmas.{Added, added_then}
use Rattle.text_outline.specs.Symbols.{Symbol}
use Rattle.text_outline.specs.Views.{symbol_seen}
use Rattle.text_outline.specs.declared.symbol.Symbol.{Symbol as SymbolOf}
use Rattle.editor_messages.specs.Inner.Nesting.{ends, levels_left, rest_tokens, symbol_front}
use Rattle.editor_messages.specs.Outlines.{after_deeper, deeper, nested_items, symbol_json}

abbrev N : ℕ → List Symbol → List Token
N count ss = items_tokens (nested_items count ss)

-- ---- the runs of deeper symbols

-- what is deeper than a deeper level
below_too : (l m n : ℕ) → nat_lt l m ≡ true → nat_lt m n ≡ true → nat_lt l n ≡ true
below_too l m n a b = lt-ltb l n (omega (arith, ltb-true l m a, ltb-true m n b))

module _ (l m : ℕ) (lt : nat_lt l m ≡ true) where
  deeper_twice : (ss : List Symbol) → deeper m (deeper l ss) ≡ deeper m ss
  deeper_twice [] = refl
  deeper_twice (s ∷ ss) = by (nat_lt l s.level) (nat_lt m s.level) refl refl (deeper_twice ss)
    where
      by : (a b : Bool) → nat_lt l s.level ≡ a → nat_lt m s.level ≡ b → deeper m (deeper l ss) ≡ deeper m ss → deeper m (cond a (s ∷ deeper l ss) []) ≡ cond b (s ∷ deeper m ss) []
      by true true e f so = ap (λ t. cond t (s ∷ deeper m (deeper l ss)) []) f ∙ ap (λ r. s ∷ r) so
      by true false e f so = ap (λ t. cond t (s ∷ deeper m (deeper l ss)) []) f
      by false true e f so = absurd (true≢false (sym (below_too l m s.level lt f) ∙ e))
      by false false e f so = refl

  after_deeper_run : (ss : List Symbol) → after_deeper m (deeper l ss) ≡ deeper l (after_deeper m ss)
  after_deeper_run [] = refl
  after_deeper_run (s ∷ ss) = by (nat_lt l s.level) (nat_lt m s.level) refl refl (after_deeper_run ss)
    where
      by : (a b : Bool) → nat_lt l s.level ≡ a → nat_lt m s.level ≡ b → after_deeper m (deeper l ss) ≡ deeper l (after_deeper m ss) → after_deeper m (cond a (s ∷ deeper l ss) []) ≡ deeper l (cond b (after_deeper m ss) (s ∷ ss))
      by true true e f so = ap (λ t. cond t (after_deeper m (deeper l ss)) (s ∷ deeper l ss)) f ∙ so
      by true false e f so = ap (λ t. cond t (after_deeper m (deeper l ss)) (s ∷ deeper l ss)) f ∙ sym (ap (λ t. cond t (s ∷ deeper l ss) []) e)
      by false true e f so = absurd (true≢false (sym (below_too l m s.level lt f) ∙ e))
      by false false e f so = sym (ap (λ t. cond t (s ∷ deeper l ss) []) e)

  after_both : (ss : List Symbol) → after_deeper l (after_deeper m ss) ≡ after_deeper l ss
  after_both [] = refl
  after_both (s ∷ ss) = by (nat_lt l s.level) (nat_lt m s.level) refl refl (after_both ss)
    where
      by : (a b : Bool) → nat_lt l s.level ≡ a → nat_lt m s.level ≡ b → after_deeper l (after_deeper m ss) ≡ after_deeper l ss → after_deeper l (cond b (after_deeper m ss) (s ∷ ss)) ≡ cond a (after_deeper l ss) (s ∷ ss)
      by true true e f so = so
      by true false e f so = ap (λ t. cond t (after_deeper l ss) (s ∷ ss)) e
      by false true e f so = absurd (true≢false (sym (below_too l m s.level lt f) ∙ e))
      by false false e f so = ap (λ t. cond t (after_deeper l ss) (s ∷ ss)) e

after_short : (l : ℕ) (ss : List Symbol) → length (after_deeper l ss) ≤ length ss
after_short l [] = omega arith
after_short l (s ∷ ss) = by (nat_lt l s.level) (after_short l ss)
  where
    by : (a : Bool) → length (after_deeper l ss) ≤ length ss → length (cond a (after_deeper l ss) (s ∷ ss)) ≤ length (s ∷ ss)
    by true h = omega (arith, h)
    by false h = omega arith

-- ---- the tokens

-- a symbol up to its children, these, and its end
one_symbol : (s : Symbol) (children : Items) → json_tokens (symbol_json s children) ≡ symbol_front s ++ (items_tokens children ++ end_object ∷ [])
one_symbol s children = refl

no_items_tokens : (count : ℕ) → N count [] ≡ end_array ∷ []
no_items_tokens zero = refl
no_items_tokens (suc count) = refl

at_zero : (l : ℕ) → nat_lt l 0 ≡ false
at_zero l = le-ltb l 0 (omega arith)

-- the end of the innermost symbol, where none follows
ends_here : (l : ℕ) (ls : List ℕ) → ends 0 (l ∷ ls) ≡ end_array ∷ end_object ∷ ends 0 ls
ends_here l ls = ap (λ t. cond t [] (end_array ∷ end_object ∷ ends 0 ls)) (at_zero l)

first_nested : (count : ℕ) (s : Symbol) (ss : List Symbol) → N (suc count) (s ∷ ss) ≡ symbol_front s ++ (N count (deeper s.level ss) ++ end_object ∷ N count (after_deeper s.level ss))
first_nested count s ss =
    let inner = N count (deeper s.level ss) in
    let rest = N count (after_deeper s.level ss) in
    ap (λ l. l ++ rest) (one_symbol s (nested_items count (deeper s.level ss)))
    ∙ append_assoc (symbol_front s) (inner ++ end_object ∷ []) rest
    ∙ ap (λ l. symbol_front s ++ l) (append_assoc inner (end_object ∷ []) rest)

-- the children of the innermost symbol, its end, and what is left
closes : (count : ℕ) (l : ℕ) (ls : List ℕ) (ss : List Symbol) → length ss ≤ count → rest_tokens (l ∷ ls) ss ≡ N count (deeper l ss) ++ end_object ∷ rest_tokens ls (after_deeper l ss)
closes count l ls [] h =
    ap (λ ts. ts ++ end_array ∷ []) (ends_here l ls) ∙ sym (ap (λ ts. ts ++ end_object ∷ (ends 0 ls ++ end_array ∷ [])) (no_items_tokens count))
closes zero l ls (s ∷ ss) h = absurd (omega (arith, h))
closes (suc count) l ls (s ∷ ss) h =
    let short : length ss ≤ count = omega (arith, h) in
    let less : length (after_deeper s.level ss) ≤ count = omega (arith, after_short s.level ss, short) in
    by (nat_lt l s.level) refl (closes count s.level (l ∷ ls) ss short) (closes count l ls (after_deeper s.level ss) less)
  where
    by : (t : Bool) → nat_lt l s.level ≡ t
        → rest_tokens (s.level ∷ l ∷ ls) ss ≡ N count (deeper s.level ss) ++ end_object ∷ rest_tokens (l ∷ ls) (after_deeper s.level ss)
        → rest_tokens (l ∷ ls) (after_deeper s.level ss) ≡ N count (deeper l (after_deeper s.level ss)) ++ end_object ∷ rest_tokens ls (after_deeper l (after_deeper s.level ss))
        → cond t [] (end_array ∷ end_object ∷ ends s.level ls) ++ (symbol_front s ++ rest_tokens (s.level ∷ cond t (l ∷ ls) (levels_left s.level ls)) ss)
        ≡ N (suc count) (cond t (s ∷ deeper l ss) []) ++ end_object ∷ rest_tokens ls (cond t (after_deeper l ss) (s ∷ ss))
    by true e one two =
        let m = s.level in
        let later = after_deeper m ss in
        let inner = N count (deeper m ss) in
        let rest = rest_tokens ls (after_deeper l ss) in
        let deep : N count (deeper m (deeper l ss)) ≡ inner = ap (N count) (deeper_twice l m e ss) in
        let next : N count (after_deeper m (deeper l ss)) ≡ N count (deeper l later) = ap (N count) (after_deeper_run l m e ss) in
        ap (λ ts. symbol_front s ++ ts) one
        ∙ ap (λ ts. symbol_front s ++ (inner ++ end_object ∷ ts)) (two ∙ ap (λ us. N count (deeper l later) ++ end_object ∷ rest_tokens ls us) (after_both l m e ss))
        ∙ sym
        (ap (λ ts. ts ++ end_object ∷ rest) (first_nested count s (deeper l ss) ∙ ap₂ (λ ts us. symbol_front s ++ (ts ++ end_object ∷ us)) deep next)
        ∙ append_assoc (symbol_front s) (inner ++ end_object ∷ N count (deeper l later)) (end_object ∷ rest)
        ∙ ap (λ ts. symbol_front s ++ ts) (append_assoc inner (end_object ∷ N count (deeper l later)) (end_object ∷ rest)))
    by false e one two = refl

pub all_nested : (count : ℕ) (ss : List Symbol) → length ss ≤ count → rest_tokens [] ss ≡ items_tokens (nested_items count ss)
all_nested count [] h = sym (no_items_tokens count)
all_nested zero (s ∷ ss) h = absurd (omega (arith, h))
all_nested (suc count) (s ∷ ss) h =
    let short : length ss ≤ count = omega (arith, h) in
    let less : length (after_deeper s.level ss) ≤ count = omega (arith, after_short s.level ss, short) in
    ap (λ ts. symbol_front s ++ ts)
    (closes count s.level [] ss short ∙ ap (λ ts. N count (deeper s.level ss) ++ end_object ∷ ts) (all_nested count (after_deeper s.level ss) less))
    ∙ sym (first_nested count s ss)

-- ---- ends, one by one

reverse_last : (ls : List ℕ) (l : ℕ) → slice_get ls (length ls - 1) ≡ Some l → reverse ls ≡ l ∷ reverse (take (length ls - 1) ls)
reverse_last ls l e =
    let within : length ls - 1 < length ls = slice_get_within ls (length ls - 1) l e in
    let got : get_or ls (length ls - 1) l ≡ l = get_or_from_slice_get ls (length ls - 1) l l e in
    let all : length ls - 1 + 1 ≡ length ls = omega (arith, within) in
    ap reverse (sym (take_all (length ls) ls (omega arith)) ∙ ap (λ n. take n ls) (sym all) ∙ take_more ls (length ls - 1) l within ∙ ap (λ x. take (length ls - 1) ls ++ x ∷ []) got)
    ∙ reverse-append (take (length ls - 1) ls) (l ∷ [])

-- some ends are written
pub record IsClosing (level : ℕ) (from ls : List ℕ) (old new : Written) : Type 0 where
  pub tokens : List Token
  pub added : Added old new tokens
  pub same : tokens ++ ends level (reverse ls) ≡ ends level (reverse from)
  pub kept : levels_left level (reverse ls) ≡ levels_left level (reverse from)

module _ (level : ℕ) (from ls : List ℕ) (old mid : Written) (before : IsClosing level from ls old mid) where
  pub closes_one : (l : ℕ) (new : Written) (shorter : List ℕ) → slice_get ls (length ls - 1) ≡ Some l → level ≤ l → Added mid new (end_array ∷ end_object ∷ []) → shorter ≡ take (length ls - 1) ls
      → IsClosing level from shorter old new
  closes_one l new shorter e le added rest =
      let r : reverse ls ≡ l ∷ reverse shorter = reverse_last ls l e ∙ ap (λ xs. l ∷ reverse xs) (sym rest) in
      let no : nat_lt l level ≡ false = le-ltb l level le in
      record {
        tokens = before.tokens ++ end_array ∷ end_object ∷ [];
        added = added_then old mid new before.tokens (end_array ∷ end_object ∷ []) before.added added;
        same =
            append_assoc before.tokens (end_array ∷ end_object ∷ []) (ends level (reverse shorter))
            ∙ ap (λ ts. before.tokens ++ ts) (sym (ap (ends level) r ∙ ap (λ t. cond t [] (end_array ∷ end_object ∷ ends level (reverse shorter))) no))
            ∙ before.same;
        kept = sym (ap (levels_left level) r ∙ ap (λ t. cond t (l ∷ reverse shorter) (levels_left level (reverse shorter))) no) ∙ before.kept;
      }

-- ---- symbols, one by one

-- some symbols are written, and what is left would end them all
pub record AreNested (symbols : List SymbolOf) (n : ℕ) (ls : List ℕ) (old new : Written) : Type 0 where
  pub tokens : List Token
  pub added : Added old new tokens
  pub same : tokens ++ rest_tokens (reverse ls) (map symbol_seen (drop n symbols)) ≡ rest_tokens [] (map symbol_seen symbols)

module _ (symbols : List SymbolOf) (n : ℕ) (ls : List ℕ) (w0 w1 : Written) (before : AreNested symbols n ls w0 w1) where
  pub one_more_nested : (s : SymbolOf) (w2 w3 : Written) (shorter longer : List ℕ) → n < length symbols → s ≡ get_or symbols n s → Added w1 w2 (ends s.level (reverse ls)) → reverse shorter ≡ levels_left s.level (reverse ls)
      → Added w2 w3 (symbol_front (symbol_seen s)) → longer ≡ shorter ++ s.level ∷ [] → AreNested symbols (n + 1) longer w0 w3
  one_more_nested s w2 w3 shorter longer within is ended left begun pushed =
      let after = drop (n + 1) symbols in
      let rest = map symbol_seen after in
      let now : reverse longer ≡ s.level ∷ levels_left s.level (reverse ls) = ap reverse pushed ∙ reverse-append shorter (s.level ∷ []) ∙ ap (λ xs. s.level ∷ xs) left in
      let here : s ∷ after ≡ drop n symbols = ap (λ x. x ∷ after) is ∙ sym (drop_more symbols n s within) in
      let last = ends s.level (reverse ls) in
      let front = symbol_front (symbol_seen s) in
      let more = rest_tokens (s.level ∷ levels_left s.level (reverse ls)) rest in
      record {
        tokens = before.tokens ++ (last ++ front);
        added = added_then w0 w1 w3 before.tokens (last ++ front) before.added (added_then w1 w2 w3 last front ended begun);
        same =
            ap (λ xs. (before.tokens ++ (last ++ front)) ++ rest_tokens xs rest) now
            ∙ append_assoc before.tokens (last ++ front) more
            ∙ ap (λ ts. before.tokens ++ ts) (append_assoc last front more)
            ∙ ap (λ ss. before.tokens ++ rest_tokens (reverse ls) (map symbol_seen ss)) here
            ∙ before.same;
      }

  pub nesting_ends : (w2 : Written) → length symbols ≤ n → Added w1 w2 (ends 0 (reverse ls)) → (ts : List Token) × Added w0 w2 ts × (ts ++ end_array ∷ [] ≡ items_tokens (nested_items (length symbols) (map symbol_seen symbols)))
  nesting_ends w2 all ended =
      let last = ends 0 (reverse ls) in
      let fits : length (map symbol_seen symbols) ≤ length symbols = omega (arith, length-map symbols symbol_seen) in (
        before.tokens ++ last,
        added_then w0 w1 w2 before.tokens last before.added ended,
        append_assoc before.tokens last (end_array ∷ [])
            ∙ ap (λ ss. before.tokens ++ rest_tokens (reverse ls) (map symbol_seen ss)) (sym (drop_all n symbols all))
            ∙ before.same
            ∙ all_nested (length symbols) (map symbol_seen symbols) fits,
      )
