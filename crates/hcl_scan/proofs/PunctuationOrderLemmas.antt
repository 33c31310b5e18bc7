-- The first of the ordered marks at the front is the longest of all marks there.
use Rattle.std.proofs.Common.{◌≡◌, ◌≤◌, Bool, true, false, cond, List, [], ◌∷◌, ◌++◌, length, take, drop, find, get_or, ℕ, zero, suc, Option, Some, None, ◌⊎◌, inl, inr, refl, sym, ap, subst, ◌∙◌, arith, nat_le, ⊎_elim, length-append}
use Rattle.std.specs.Prelude.{nat_eq, nat_lt, option_map, IfSome, IfNone}
use Rattle.std.specs.List.{list_all, starts_with}
use Rattle.std.proofs.lemmas.Bool.Decides.{nat_tests}
use Rattle.std.proofs.Math.Seq.{take-append_seam}
use Rattle.hcl_tokens.specs.Spelling.{punctuation, IsPunctuation}
use Rattle.hcl_scan.specs.Inner.Punctuation.{is_longest_first, ordered_punctuation}
use Rattle.hcl_scan.specs.Inner.Found.{IsLongestPunctuation, HasNoPunctuation}
use Rattle.hcl_tokens.specs.declared.token.Kind.{Kind}
use Rattle.hcl_tokens.specs.declared.token.Kind.TheVariants.{Dot}
use Rattle.hcl_tokens.proofs.BooleanLemmas.{and_true}
use Rattle.hcl_scan.proofs.LongestFrontLemmas.{begins, begins_not}

cond_none : {X : Type 0} (b : Bool) (x : X) (o : Option X) → cond b (Some x) o ≡ None → (b ≡ false) × (o ≡ None)
cond_none true x o h = cc
cond_none false x o h = (refl, h)

cond_some : {X : Type 0} (b : Bool) (x y : X) (o : Option X) → cond b (Some x) o ≡ Some y → ((b ≡ true) × (x ≡ y)) ⊎ ((b ≡ false) × (o ≡ Some y))
cond_some true x y o h = inl (refl, cc)
cond_some false x y o h = inr (refl, h)

le_of : (a b : ℕ) → nat_le a b ≡ true → a ≤ b
le_of a b h = grind (arith, nat_tests)

abbrev Each : (List ℕ → Kind → Type 0) → List (List ℕ × Kind) → Type 0
Each P [] = Unit {0}
Each P (m ∷ ms) = P m.0 m.1 × Each P ms

each_mark : (P : List ℕ → Kind → Type 0) (ms : List (List ℕ × Kind)) (text : List ℕ) (kind : Kind) → Each P ms → IsPunctuation ms text kind → P text kind
each_mark P [] text kind all is = absurd is
each_mark P (m ∷ ms) text kind all (inl is) = subst (P text) is.1 (subst (λ t. P t m.1) is.0 all.0)
each_mark P (m ∷ ms) text kind all (inr is) = each_mark P ms text kind all.1 is

none_below_zero : (n : ℕ) → nat_lt n 0 ≡ true → ⊥
none_below_zero n h = grind (arith, nat_tests)

-- the mark at a place in a table, given as a number
at_place : (ms : List (List ℕ × Kind)) (n : ℕ) (other : List ℕ × Kind) → nat_lt n (length ms) ≡ true → IsPunctuation ms (get_or ms n other).0 (get_or ms n other).1
at_place [] n other h = absurd (none_below_zero n h)
at_place (m ∷ ms) zero other h = inl (refl, refl)
at_place (m ∷ ms) (suc n) other h = inr (at_place ms n other (below n (length ms) h))
  where
    below : (a b : ℕ) → nat_lt (suc a) (suc b) ≡ true → nat_lt a b ≡ true
    below a b h = grind (arith, nat_tests)

mark_at : (n : ℕ) → nat_lt n 27 ≡ true → IsPunctuation punctuation (get_or punctuation n ([], Dot)).0 (get_or punctuation n ([], Dot)).1
unfolding punctuation
mark_at n h = at_place punctuation n ([], Dot) h

table_at : (n : ℕ) → nat_lt n 27 ≡ true → IsPunctuation ordered_punctuation (get_or ordered_punctuation n ([], Dot)).0 (get_or ordered_punctuation n ([], Dot)).1
table_at n h = at_place ordered_punctuation n ([], Dot) h

in_marks : Each (IsPunctuation punctuation) ordered_punctuation
unfolding punctuation
in_marks = (mark_at 8 refl, (mark_at 13 refl, (mark_at 19 refl, (mark_at 20 refl, (mark_at 21 refl, (mark_at 22 refl, (mark_at 25 refl, (mark_at 26 refl, (mark_at 11 refl, (mark_at 12 refl, (mark_at 0 refl, (mark_at 6 refl, (mark_at 7 refl, (mark_at 3 refl, (mark_at 2 refl, (mark_at 5 refl, (mark_at 1 refl, (mark_at 4 refl, (mark_at 10 refl, (mark_at 9 refl, (mark_at 14 refl, (mark_at 15 refl, (mark_at 16 refl, (mark_at 17 refl, (mark_at 18 refl, (mark_at 23 refl, (mark_at 24 refl, tt)))))))))))))))))))))))))))

in_table : Each (IsPunctuation ordered_punctuation) punctuation
unfolding punctuation
in_table = (table_at 10 refl, (table_at 16 refl, (table_at 14 refl, (table_at 13 refl, (table_at 17 refl, (table_at 15 refl, (table_at 11 refl, (table_at 12 refl, (table_at 0 refl, (table_at 19 refl, (table_at 18 refl, (table_at 8 refl, (table_at 9 refl, (table_at 1 refl, (table_at 20 refl, (table_at 21 refl, (table_at 22 refl, (table_at 23 refl, (table_at 24 refl, (table_at 2 refl, (table_at 3 refl, (table_at 4 refl, (table_at 5 refl, (table_at 25 refl, (table_at 26 refl, (table_at 6 refl, (table_at 7 refl, tt)))))))))))))))))))))))))))

table_found : (seen : List ℕ) (kind : Kind) (n : ℕ) → IsLongestPunctuation ordered_punctuation seen kind n → IsLongestPunctuation punctuation seen kind n
table_found seen kind n m = record {
  within = m.within;
  formed = each_mark (IsPunctuation punctuation) ordered_punctuation (take n seen) kind in_marks m.formed;
  longest = λ other longer left e is. m.longest other longer left e (each_mark (IsPunctuation ordered_punctuation) punctuation longer other in_table is);
}

table_none : (seen : List ℕ) → HasNoPunctuation ordered_punctuation seen → HasNoPunctuation punctuation seen
table_none seen none kind text rest e is = none kind text rest e (each_mark (IsPunctuation ordered_punctuation) punctuation text kind in_table is)

module _ (seen : List ℕ) where
  abbrev stands : List ℕ × Kind → Bool
  stands m = starts_with nat_eq seen m.0

  not_here : (m : List ℕ × Kind) (text rest : List ℕ) → stands m ≡ false → m.0 ≡ text → text ++ rest ≡ seen → ⊥
  not_here m text rest h is e = begins_not seen m.0 rest h (ap (λ t. t ++ rest) is ∙ e)

  none_of : (ms : List (List ℕ × Kind)) → find stands ms ≡ None → HasNoPunctuation ms seen
  none_of [] h kind text rest e is = is
  none_of (m ∷ ms) h kind text rest e (inl is) = not_here m text rest (cond_none (stands m) m (find stands ms) h).0 is.0 e
  none_of (m ∷ ms) h kind text rest e (inr is) = none_of ms (cond_none (stands m) m (find stands ms) h).1 kind text rest e is

  no_longer : (n : ℕ) (ms : List (List ℕ × Kind)) (text : List ℕ) (kind : Kind) → list_all (λ o. nat_le (length o.0) n) ms ≡ true → IsPunctuation ms text kind → length text ≤ n
  no_longer n [] text kind h is = absurd is
  no_longer n (o ∷ ms) text kind h (inl is) =
      let le = (and_true (nat_le (length o.0) n) (list_all (λ p. nat_le (length p.0) n) ms) h).0 in
      let e = ap length is.0 in
      omega (arith, le_of (length o.0) n le)
  no_longer n (o ∷ ms) text kind h (inr is) = no_longer n ms text kind (and_true (nat_le (length o.0) n) (list_all (λ p. nat_le (length p.0) n) ms) h).1 is

  at_front : (m : List ℕ × Kind) → stands m ≡ true → (length m.0 ≤ length seen) × (m.0 ≡ take (length m.0) seen)
  at_front m h =
      let e = begins seen m.0 h in
      let len = ap length e in
      (omega (arith, len, length-append m.0 (drop (length m.0) seen)), sym (ap (take (length m.0)) e ∙ take-append_seam m.0 (drop (length m.0) seen)))

  found_of : (ms : List (List ℕ × Kind)) (y : List ℕ × Kind) → is_longest_first ms ≡ true → find stands ms ≡ Some y → IsLongestPunctuation ms seen y.1 (length y.0)
  found_of [] y sorted h = cc
  found_of (m ∷ ms) y sorted h =
      let order = and_true (list_all (λ o. nat_le (length o.0) (length m.0)) ms) (is_longest_first ms) sorted in
      ⊎_elim
      (λ w. let front = at_front m w.0 in
      subst (λ (z : List ℕ × Kind). IsLongestPunctuation (m ∷ ms) seen z.1 (length z.0)) w.1 (record {
        within = front.0;
        formed = inl (front.1, refl);
        longest = λ other longer left e is. ⊎_elim (λ same. omega (arith, ap length same.0)) (λ later. no_longer (length m.0) ms longer other order.0 later) is;
      }))
      (λ w. let later = found_of ms y order.1 w.1 in
      record {
        within = later.within;
        formed = inr later.formed;
        longest = λ other longer left e is. ⊎_elim
            (λ same. absurd (not_here m longer left w.0 same.0 e))
            (λ after. later.longest other longer left e after) is;
      })
      (cond_some (stands m) m y (find stands ms) h)

  pub first_found : (o : Option (List ℕ × Kind)) → find stands ordered_punctuation ≡ o → IfSome {T = Kind × ℕ} (option_map (λ m. (m.1, length m.0)) o) (λ m. IsLongestPunctuation punctuation seen m.0 m.1)
  first_found (Some m) h = table_found seen m.1 (length m.0) (found_of ordered_punctuation m refl h)
  first_found None h = tt

  pub first_none : (o : Option (List ℕ × Kind)) → find stands ordered_punctuation ≡ o → IfNone {T = Kind × ℕ} (option_map (λ m. (m.1, length m.0)) o) (HasNoPunctuation punctuation seen)
  first_none (Some m) h = tt
  first_none None h = table_none seen (none_of ordered_punctuation h)
