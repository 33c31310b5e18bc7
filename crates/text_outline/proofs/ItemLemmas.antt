-- The items of an outline, one by one.
use Rattle.std.proofs.Common.{◌≡◌, ◌∙◌, ◌+◌, ◌++◌, ◌-◌, ◌<◌, ◌≤◌, ◌∷◌, [], ℕ, zero, suc, List, ap, arith, drop, flat_map, length, subst, sym}
use Rattle.std.specs.Prelude.{Some, slice_get}
use Rattle.hcl_grammar.specs.ItemOrder.{Climbs, Spans, past}
use Rattle.hcl_grammar.specs.Items.{outline}
use Rattle.hcl_grammar.specs.declared.item.Item.{Item}
use Rattle.hcl_grammar.specs.declared.item.Item.TheVariants as item
use Rattle.hcl_grammar.proofs.ItemOrderLemmas.{climbs_wide, outline_climbs}
use Rattle.hcl_grammar.proofs.NumberedLemmas.{drop_at}
use Rattle.hcl_tokens.specs.Lexemes.{Lexeme}
use Rattle.hcl_tokens.specs.Scanned.{Scanned}
use Rattle.text_places.specs.declared.place.Units.{Units}
use Rattle.text_outline.specs.Folds.{fold_of}
use Rattle.text_places.specs.declared.ranges.Range.{Range}
use Rattle.text_outline.specs.Symbols.{range_between, symbol, symbol_of, symbols_in}
use Rattle.text_outline.specs.declared.symbol.SymbolKind.{SymbolKind}

-- no token of an item is beyond this number
abbrev pub IsWithin : Item → ℕ → Type 0
IsWithin (item.Attribute level name first end) to = (name < to) × (end ≤ to)
IsWithin (item.Block level kind end) to = (kind < to) × (end ≤ to)
IsWithin (item.Label l) to = l.first < to

spans_within : (from to : ℕ) (i : Item) → Spans from i to → past i ≤ to → IsWithin i to
spans_within from to (item.Attribute level name first end) s h = (omega (arith, s.1, s.2, s.3), s.3)
spans_within from to (item.Block level kind end) s h = (omega (arith, h), s.1)
spans_within from to (item.Label l) s h = s.1

items_within : (from to : ℕ) (is : List Item) (n : ℕ) (i : Item) → Climbs from is to → slice_get is n ≡ Some i → IsWithin i to
items_within from to [] n i h e = absurd (cc)
items_within from to (x ∷ xs) zero i h e =
    let same : x ≡ i = cc in
    subst (λ (y : Item). IsWithin y to) same (spans_within from to x h.0 (climbs_wide (past x) to xs h.1))
items_within from to (x ∷ xs) (suc n) i h e = items_within (past x) to xs n i h.1 e

pub item_within : (tokens : List Lexeme) (is : List Item) (n : ℕ) (i : Item) → is ≡ outline tokens → slice_get is n ≡ Some i → IsWithin i (length tokens)
item_within tokens is n i same e = items_within 0 (length tokens) (outline tokens) n i (outline_climbs tokens) (ap (λ (js : List Item). slice_get js n) (sym same) ∙ e)

module _ (is : List Item) (n : ℕ) (i : Item) (e : slice_get is n ≡ Some i) where
  pub folds_here : (s : Scanned) → flat_map (fold_of s) (drop n is) ≡ fold_of s i ++ flat_map (fold_of s) (drop (n + 1) is)
  folds_here s = ap (flat_map (fold_of s)) (drop_at is n i e)

  pub symbols_here : (units : Units) (s : Scanned) → symbols_in units s (drop n is) ≡ symbol_of units s i (drop (n + 1) is) ++ symbols_in units s (drop (n + 1) is)
  symbols_here units s = ap (symbols_in units s) (drop_at is n i e)

-- a symbol with these parts
pub symbol_found : (units : Units) (s : Scanned) (name : List ℕ) (kind : SymbolKind) (level first end : ℕ) (bytes : List ℕ) (last : ℕ) (range selection : Range) → bytes ≡ name → last ≡ end - 1
    → range ≡ range_between units s first last → selection ≡ range_between units s first first
    → record { name = bytes; kind = kind; level = level; range = range; selection = selection } ≡ symbol units s name kind level first end
symbol_found units s name kind level first end bytes last range selection named same whole front =
    let r : range ≡ range_between units s first (end - 1) = whole ∙ ap (range_between units s first) same in
    (λ i. record { name = named i; kind = kind; level = level; range = r i; selection = front i })
