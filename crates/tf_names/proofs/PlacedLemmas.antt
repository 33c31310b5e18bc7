-- The offsets of occurrences are in order.
use Rattle.std.proofs.Common.{◌≡◌, ◌∙◌, ap, refl, subst, sym, ℕ, suc, zero, ◌+◌, ◌≤◌, ◌<◌, Bool, true, false, cond, List, [], ◌∷◌, ◌++◌, arith, drop, length, map}
use Rattle.std.specs.Prelude.{get_or, ◌==◌, ◌&&◌, All, Option, Some, None, codes}
use Rattle.std.specs.Option.{option_map, option_and_then}
use Rattle.std.specs.Str.{bytes_eq}
use Rattle.std.proofs.lemmas.List.Elements.{All-append}
use Rattle.hcl_grammar.specs.Items.{outline}
use Rattle.hcl_grammar.specs.Labels.{first_literal, first_text, text_of}
use Rattle.hcl_grammar.specs.Numbered.{Numbered, number_tokens, numbered_from, significant}
use Rattle.hcl_grammar.specs.Verdict.{start_of}
use Rattle.hcl_grammar.specs.declared.item.Item.{Item}
use Rattle.hcl_grammar.specs.declared.item.Label.{Label}
use Rattle.hcl_grammar.proofs.NumberedLemmas.{numbered_at}
use Rattle.hcl_tokens.specs.Kinds.{is}
use Rattle.hcl_tokens.specs.Lexemes.{Lexeme}
use Rattle.hcl_tokens.specs.Scanned.{Scanned}
use Rattle.hcl_tokens.specs.Scans.{Scans}
use Rattle.hcl_tokens.specs.declared.token.Kind.TheVariants as kind
use Rattle.tf_facts.specs.References.{name_after}
use Rattle.tf_names.specs.Names.{IsInOrder, NameReference, Occurrence, Stretch, Variable, Local, Data, Module, declared_by_items, label_stretch, listed_reference, name_declarations, name_references, occurrence_of, occurrences, refer, refers_at, refers_by, refers_from, stop_of, stretch_at, word_stretch}
use Rattle.tf_names.specs.Views.{occurrence_seen}
use Rattle.tf_names.specs.declared.occurrence.Occurrence.{Occurrence as OccurrenceOf}
use Rattle.tf_names.proofs.DeclaredLemmas.{all_more, all_none, each_declared}
use Rattle.tf_names.proofs.OrderLemmas.{Follow, InOrder, order_from, significant_in_order, tokens_follow}

-- ---- stretches

-- the offsets of a stretch are in order, up to this one
abbrev Fits : ℕ → Stretch → Type 0
Fits len s = (s.start ≤ s.end) × (s.end ≤ len)

follow_wide : (from to : ℕ) (ts : List Lexeme) → Follow from ts to → from ≤ to
follow_wide from to [] f = f
follow_wide from to (t ∷ ts) f = omega (arith, f.0, follow_wide (t.start + length t.text) to ts f.1)

word_ends : (from to : ℕ) (ts : List Lexeme) (n j : ℕ) → Follow from ts to → start_of ts n + length (first_text (numbered_from j (drop n ts))) ≤ to
word_ends from to [] zero j f = omega arith
word_ends from to [] (suc n) j f = omega arith
word_ends from to (t ∷ ts) zero j f = follow_wide (t.start + length t.text) to ts f.1
word_ends from to (t ∷ ts) (suc n) j f = word_ends (t.start + length t.text) to ts n j f.1

literal_length : (u : Lexeme) (j : ℕ) (us : List Lexeme) → length (first_literal (numbered_from j (u ∷ us))) ≤ length u.text
literal_length u j us = by (is kind.Lit u.kind)
  where
    by : (b : Bool) → length (cond b u.text []) ≤ length u.text
    by true = omega arith
    by false = omega arith

literal_ends : (from to : ℕ) (ts : List Lexeme) (n j : ℕ) → Follow from ts to → stop_of ts n + length (first_literal (numbered_from j (drop (suc n) ts))) ≤ to
literal_ends from to [] zero j f = omega arith
literal_ends from to [] (suc n) j f = omega arith
literal_ends from to (t ∷ []) zero j f = omega (arith, f.1)
literal_ends from to (t ∷ u ∷ us) zero j f = omega (arith, f.1.0, literal_length u j us, follow_wide (u.start + length u.text) to us f.1.1)
literal_ends from to (t ∷ ts) (suc n) j f = literal_ends (t.start + length t.text) to ts n j f.1

module _ (tokens : List Lexeme) (len : ℕ) (f : Follow 0 tokens len) where
  word_fits : (n : ℕ) → Fits len (word_stretch tokens n)
  word_fits n =
      let same : length (first_text (drop n (number_tokens tokens))) ≡ length (first_text (numbered_from n (drop n tokens))) = ap (λ ts. length (first_text ts)) (numbered_at tokens n) in
      (omega arith, omega (arith, same, word_ends 0 len tokens n n f))

  label_fits : (l : Label) → Fits len (label_stretch tokens l)
  label_fits l = by (l.first == l.last)
    where
      by : (b : Bool) → Fits len (stretch_at (cond b (text_of (number_tokens tokens) l.first) (first_literal (drop (l.first + 1) (number_tokens tokens)))) (cond b (start_of tokens l.first) (stop_of tokens l.first)))
      by true = word_fits l.first
      by false =
          let next : l.first + 1 ≡ suc l.first = omega arith in
          let same : length (first_literal (drop (l.first + 1) (number_tokens tokens))) ≡ length (first_literal (numbered_from (l.first + 1) (drop (suc l.first) tokens))) =
          ap (λ ts. length (first_literal ts)) (numbered_at tokens (l.first + 1)) ∙ ap (λ k. length (first_literal (numbered_from (l.first + 1) (drop k tokens)))) next in
          (omega arith, omega (arith, same, literal_ends 0 len tokens l.first (l.first + 1) f))

-- ---- declarations

items_placed : (len : ℕ) (tokens : List Lexeme) (items : List Item) → Follow 0 tokens len → All (λ o. IsInOrder len o) (declared_by_items tokens items)
items_placed len tokens items f =
    each_declared (Fits len) (λ o. IsInOrder len o) (λ name s same fits. record { front = omega arith; order = fits.0; within = fits.1 }) tokens
    (word_fits tokens len f) (label_fits tokens len f) items

-- ---- references

-- a reference begins before its last part
abbrev IsAhead : (ℕ → ℕ) → NameReference → Type 0
IsAhead starts r = starts r.word ≤ starts r.token

abbrev AllAhead : (ℕ → ℕ) → List NameReference → Type 0
AllAhead starts [] = Unit {0}
AllAhead starts (r ∷ rs) = IsAhead starts r × AllAhead starts rs

module _ (starts : ℕ → ℕ) (to : ℕ) where
  drops_in_order : (from k : ℕ) (ts : List Numbered) → InOrder starts from ts to → InOrder starts from (drop k ts) to
  drops_in_order from zero ts o = o
  drops_in_order from (suc k) [] o = o
  drops_in_order from (suc k) (t ∷ ts) o = drops_in_order from k ts (order_from starts from (starts t.number + length t.text) to ts (omega (arith, o.0)) o.1)

  -- the name after a dot begins at this offset or later
  after_ahead : (from : ℕ) (ts : List Numbered) (n : Numbered) → InOrder starts from ts to → name_after ts ≡ Some n → from ≤ starts n.number
  after_ahead from [] n o e = absurd (cc)
  after_ahead from (d ∷ []) n o e = absurd (cc)
  after_ahead from (d ∷ m ∷ rest) n o e = by (is kind.Dot d.kind && is kind.Ident m.kind) e
    where
      by : (b : Bool) → cond b (Some m) None ≡ Some n → from ≤ starts n.number
      by true h =
          let same : m ≡ n = cc in
          let at : starts m.number ≡ starts n.number = ap (λ (x : Numbered). starts x.number) same in
          omega (arith, o.0, o.1.0, at)
      by false h = absurd (cc)

  by_ahead : (w n : Numbered) (from : ℕ) (rest : List Numbered) → starts w.number ≤ from → starts w.number ≤ starts n.number → InOrder starts from rest to → AllAhead starts (listed_reference (refers_by w n rest))
  by_ahead w n from rest low near o = by (bytes_eq w.text (codes "var")) (bytes_eq w.text (codes "local")) (bytes_eq w.text (codes "data")) (bytes_eq w.text (codes "module")) (name_after rest) (λ m e. omega (arith, low, after_ahead from rest m o e))
    where
      by : (a b c d : Bool) (m : Option Numbered) → ((x : Numbered) → m ≡ Some x → starts w.number ≤ starts x.number)
          → AllAhead starts (listed_reference (cond a (Some (refer w n (Variable n.text))) (cond b (Some (refer w n (Local n.text))) (cond c (option_map (λ x. refer w x (Data n.text x.text)) m) (cond d (Some (refer w n (Module n.text))) None)))))
      by true b c d m h = (near, tt)
      by false true c d m h = (near, tt)
      by false false true d None h = tt
      by false false true d (Some x) h = (h x refl, tt)
      by false false false true m h = (near, tt)
      by false false false false m h = tt

  at_ahead : (w : Numbered) (ts : List Numbered) (from : ℕ) → starts w.number ≤ from → InOrder starts from ts to → AllAhead starts (listed_reference (refers_at (w ∷ ts)))
  at_ahead w ts from low o = by (is kind.Ident w.kind) (name_after ts) (λ n e. omega (arith, low, after_ahead from ts n o e))
    where
      by : (b : Bool) (m : Option Numbered) → ((x : Numbered) → m ≡ Some x → starts w.number ≤ starts x.number) → AllAhead starts (listed_reference (cond b (option_and_then (λ n. refers_by w n (drop 2 ts)) m) None))
      by true None h = tt
      by true (Some n) h = by_ahead w n from (drop 2 ts) low (h n refl) (drops_in_order from 2 ts o)
      by false m h = tt

  ahead_append : (rs more : List NameReference) → AllAhead starts rs → AllAhead starts more → AllAhead starts (rs ++ more)
  ahead_append [] more h k = k
  ahead_append (r ∷ rs) more h k = (h.0, ahead_append rs more h.1 k)

  from_ahead : (after_dot : Bool) (from : ℕ) (ts : List Numbered) → InOrder starts from ts to → AllAhead starts (refers_from after_dot ts)
  from_ahead after_dot from [] o = tt
  from_ahead true from (t ∷ ts) o = from_ahead (is kind.Dot t.kind) (starts t.number + length t.text) ts o.1
  from_ahead false from (t ∷ ts) o =
      ahead_append (listed_reference (refers_at (t ∷ ts))) (refers_from (is kind.Dot t.kind) ts) (at_ahead t ts (starts t.number + length t.text) (omega arith) o.1)
      (from_ahead (is kind.Dot t.kind) (starts t.number + length t.text) ts o.1)

module _ (tokens : List Lexeme) (len : ℕ) (f : Follow 0 tokens len) where
  references_placed : (rs : List NameReference) → AllAhead (start_of tokens) rs → All (λ o. IsInOrder len o) (map (occurrence_of tokens) rs)
  references_placed [] h = all_none (λ o. IsInOrder len o)
  references_placed (r ∷ rs) h =
      let fits = word_fits tokens len f r.token in
      all_more (λ o. IsInOrder len o) (occurrence_of tokens r) (map (occurrence_of tokens) rs) (record { front = h.0; order = fits.0; within = fits.1 }) (references_placed rs h.1)

-- ---- all occurrences

occurrences_placed : (s : Scanned) → Scans s.text s.tokens → All (λ o. IsInOrder (length s.text) o) (occurrences s)
occurrences_placed s p =
    let f = tokens_follow s.text s.tokens p in
    All-append (λ o. IsInOrder (length s.text) o) (name_declarations s.tokens) (map (occurrence_of s.tokens) (name_references (number_tokens s.tokens)))
    (items_placed (length s.text) s.tokens (outline s.tokens) f)
    (references_placed s.tokens (length s.text) f (name_references (number_tokens s.tokens)) (from_ahead (start_of s.tokens) (length s.text) false 0 (significant (number_tokens s.tokens)) (significant_in_order s.text s.tokens p)))

all_seen : (len : ℕ) (found : List OccurrenceOf) → All (λ o. IsInOrder len o) (map occurrence_seen found) → All (λ o. IsInOrder len (occurrence_seen o)) found
all_seen len [] h = all_none (λ o. IsInOrder len (occurrence_seen o))
all_seen len (o ∷ os) h =
    all_more (λ x. IsInOrder len (occurrence_seen x)) o os (h 0 (occurrence_seen o) (omega arith))
    (all_seen len os (λ k d less. h (suc k) d (omega (arith, less))))

-- THE LAW
pub found_placed : (s : Scanned) (found : List OccurrenceOf) → Scans s.text s.tokens → map occurrence_seen found ≡ occurrences s → All (λ o. IsInOrder (length s.text) (occurrence_seen o)) found
found_placed s found p same = all_seen (length s.text) found (subst (λ (os : List Occurrence). All (λ o. IsInOrder (length s.text) o) os) (sym same) (occurrences_placed s p))

-- the offsets of an occurrence that was found, for a caller that indexes the text
pub offsets_within : (len : ℕ) (found : List OccurrenceOf) (i : ℕ) (o : OccurrenceOf) → All (λ x. IsInOrder len (occurrence_seen x)) found → i < length found → o ≡ get_or found i o → (o.front ≤ len) × (o.start ≤ len) × (o.end ≤ len)
offsets_within len found i o all less same =
    let placed : IsInOrder len (occurrence_seen (get_or found i o)) = all i o less in
    let mine : IsInOrder len (occurrence_seen o) = subst (λ (x : OccurrenceOf). IsInOrder len (occurrence_seen x)) (sym same) placed in
    (omega (arith, mine.front, mine.order, mine.within), omega (arith, mine.order, mine.within), mine.within)
