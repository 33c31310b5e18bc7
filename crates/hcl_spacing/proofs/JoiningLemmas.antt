-- Neighbours that the scan's table says would join are separated by one blank: proved for each kind before, from the
-- entry of the spacing's table for the pair of kinds, or from the tests that it makes after that kind.
use Rattle.std.proofs.Common.{◌≡◌, ℕ, ◌&&◌, ◌||◌, ◌==◌, not, Bool, true, false, List, [], ◌∷◌, get_or, Option, Some, None, ◌⊎◌, inl, inr, refl, sym, ap, ◌∙◌, arith, codes}
use Rattle.std.specs.Prelude.{nat_le}
use Rattle.std.specs.Char.{is_ascii_digit}
use Rattle.std.specs.Int.{is_in_range}
use Rattle.std.specs.List.{list_all}
use Rattle.std.specs.Str.{bytes_eq}
use Rattle.std.proofs.lemmas.Bool.Decides.{nat_tests}
use Rattle.hcl_tokens.specs.Lexemes.{Lexeme}
use Rattle.hcl_tokens.specs.SideBySide.{may_begin_ident}
use Rattle.hcl_tokens.specs.Neighbours as neighbours
use Rattle.hcl_tokens.specs.SideBySide as beside
use Rattle.hcl_tokens.specs.declared.token.Kind.{Kind}
use Rattle.hcl_tokens.specs.declared.token.Kind.TheVariants as kind
use Rattle.hcl_tokens.proofs.BooleanLemmas.{and_true, not_true, or_cases}
use Rattle.hcl_tokens.proofs.ByteKindLemmas.{Says, says}
use Rattle.hcl_tokens.specs.Kinds.{is}
use Rattle.hcl_spacing.specs.Spacing.{begins_with_colon, begins_with_equals, follows_kind, has_blank}
use Rattle.hcl_spacing.specs.Inner.KindPairs.{space_by_texts_after, space_by_texts, pair_space}
use Rattle.hcl_spacing.proofs.KindLemmas.{each, kinds, never}
use Rattle.hcl_spacing.proofs.KindPairLemmas.{answered, by_kinds}

-- the kinds whose texts may extend one of this kind, by the first byte
word_byte : (b : ℕ) → neighbours.grows kind.Ident b ≡ true → (may_begin_ident b ≡ true) ⊎ (is_ascii_digit b ≡ true) ⊎ ((b == 45) ≡ true)
word_byte b h = by (is_ascii_digit b) (is_in_range 65 90 b) (is_in_range 97 122 b) (b == 95) (b == 45) (nat_le 128 b) h
  where
    by : (d p l u m n : Bool) → ((((d || p) || l) || u) || m || n) ≡ true → ((((p || l) || u) || n) ≡ true) ⊎ (d ≡ true) ⊎ (m ≡ true)
    by true p l u m n k = inr (inl refl)
    by false true l u m n k = inl refl
    by false false true u m n k = inl refl
    by false false false true m n k = inl refl
    by false false false false true n k = inr (inr refl)
    by false false false false false n k = inl k

e_byte : (b : ℕ) → neighbours.grows kind.Number b ≡ true → (may_begin_ident b ≡ true) ⊎ (is_ascii_digit b ≡ true)
e_byte b h = by (is_ascii_digit b) refl h
  where
    letter : (b : ℕ) → ((b == 101) || (b == 69)) ≡ true → may_begin_ident b ≡ true
    letter b k = grind (arith, nat_tests)

    by : (d : Bool) → is_ascii_digit b ≡ d → (d || (b == 101) || (b == 69)) ≡ true → (may_begin_ident b ≡ true) ⊎ (is_ascii_digit b ≡ true)
    by true e k = inr e
    by false e k = inl (letter b k)

-- whenever one test of a kind holds, so does another; tried for all kinds
so : (P Q : Kind → Bool) → list_all (λ k. not (P k) || Q k) kinds ≡ true → (k : Kind) → P k ≡ true → Q k ≡ true
so P Q tried k h = by (P k) h (each (λ k. not (P k) || Q k) tried k)
  where
    by : (p : Bool) → p ≡ true → (not p || Q k) ≡ true → Q k ≡ true
    by true e f = f
    by false e f = cc

-- the two kinds alone give one blank
abbrev parts : Option Bool → Bool
parts None = false
parts (Some space) = space

-- or at least don't give none
abbrev may_part : Option Bool → Bool
may_part None = true
may_part (Some space) = space

-- the kinds whose texts begin with one of these bytes
abbrev is_pointed : Kind → Bool
is_pointed k = is kind.Dot k || is kind.Ellipsis k

abbrev is_coloned : Kind → Bool
is_coloned k = is kind.Colon k || is kind.ColonColon k

abbrev is_equals : Kind → Bool
is_equals k = is kind.Assign k || is kind.Arrow k || is kind.Equal k

abbrev is_greater : Kind → Bool
is_greater k = is kind.Greater k || is kind.GreaterEqual k

abbrev is_less : Kind → Bool
is_less k = is kind.Less k || is kind.LessEqual k || is kind.HeredocOpen k

abbrev is_slashed : Kind → Bool
is_slashed k = is kind.Slash k || is kind.LineComment k || is kind.InlineComment k

is_told : (o : Option Bool) (v : Bool) → parts o ≡ true → answered o v ≡ true
is_told None v h = never h
is_told (Some space) v h = h

is_asked : (o : Option Bool) (v : Bool) → may_part o ≡ true → v ≡ true → answered o v ≡ true
is_asked None v h e = e
is_asked (Some space) v h e = h

equals_first : (text : List ℕ) → (get_or text 0 0 == 61) ≡ true → begins_with_equals text ≡ true
equals_first [] h = absurd (cc)
equals_first (b ∷ text) h = h

colon_first : (text : List ℕ) → (get_or text 0 0 == 58) ≡ true → begins_with_colon text ≡ true
colon_first [] h = absurd (cc)
colon_first (b ∷ text) h = h

seq_close_is : (k : Kind) → is kind.SeqClose k ≡ true → k ≡ kind.SeqClose
seq_close_is kind.SeqClose h = refl
seq_close_is _ h = never h

plain : (g : Bool) → (g || false) ≡ true → g ≡ true
plain true k = refl
plain false k = k

module _ (before : Option Lexeme) (u t : Lexeme) (dot : Bool) (outside_all : t.inside_heredoc ≡ false) (point : dot ≡ false → follows_kind (is kind.Dot) before ≡ false)
    (begins : beside.begins_as t.kind (get_or t.text 0 0) ≡ true) (tilde : t.kind ≡ kind.SeqClose → (t.text ≡ codes "}") ⊎ (t.text ≡ codes "~}")) where
  abbrev b : ℕ
  b = get_or t.text 0 0

  s : Says t.kind b
  s = says t.kind b begins

  -- after a token of this kind, one blank stands before those of these kinds
  told : (k : Kind) (P : Kind → Bool) → list_all (λ r. not (P r) || parts (pair_space k r)) kinds ≡ true → u.kind ≡ k → P t.kind ≡ true → has_blank before u t ≡ true
  told k P tried e h =
      sym (by_kinds before u t outside_all) ∙ is_told (pair_space u.kind t.kind) (space_by_texts before u t) (ap (λ z. parts (pair_space z t.kind)) e ∙ so P (λ r. parts (pair_space k r)) tried t.kind h)

  -- or if the tests give one
  asked : (k : Kind) (P : Kind → Bool) → list_all (λ r. not (P r) || may_part (pair_space k r)) kinds ≡ true → u.kind ≡ k → P t.kind ≡ true → space_by_texts_after k before u t ≡ true → has_blank before u t ≡ true
  asked k P tried e h f =
      sym (by_kinds before u t outside_all)
      ∙ is_asked (pair_space u.kind t.kind) (space_by_texts before u t) (ap (λ z. may_part (pair_space z t.kind)) e ∙ so P (λ r. may_part (pair_space k r)) tried t.kind h) (ap (λ z. space_by_texts_after z before u t) e ∙ f)

  tilde_text : (t.text ≡ codes "}") ⊎ (t.text ≡ codes "~}") → (b == 126) ≡ true → bytes_eq t.text (codes "~}") ≡ true
  tilde_text (inl e) h = absurd (let f : false ≡ true = sym (ap (λ l. get_or l 0 0 == 126) e) ∙ h in cc)
  tilde_text (inr e) h = ap (λ l. bytes_eq l (codes "~}")) e

  -- THE LAW after a token of one kind
  abbrev Parted : Kind → Type 0
  Parted k = u.kind ≡ k → neighbours.joins dot k t.kind t.text ≡ true → has_blank before u t ≡ true

  ident_parted : Parted kind.Ident
  ident_parted e h = by (word_byte b (plain (neighbours.grows kind.Ident b) h))
    where
      by : (may_begin_ident b ≡ true) ⊎ (is_ascii_digit b ≡ true) ⊎ ((b == 45) ≡ true) → has_blank before u t ≡ true
      by (inl x) = told kind.Ident (is kind.Ident) refl e (s.letter x)
      by (inr (inl x)) = told kind.Ident (is kind.Number) refl e (s.digit x)
      by (inr (inr x)) = told kind.Ident (is kind.Minus) refl e (s.minus x)

  number_parted : Parted kind.Number
  number_parted e h = by (or_cases (neighbours.grows kind.Number b) (true && not dot && is kind.Dot t.kind) h)
    where
      digits : (may_begin_ident b ≡ true) ⊎ (is_ascii_digit b ≡ true) → has_blank before u t ≡ true
      digits (inl x) = told kind.Number (is kind.Ident) refl e (s.letter x)
      digits (inr x) = told kind.Number (is kind.Number) refl e (s.digit x)

      by : (neighbours.grows kind.Number b ≡ true) ⊎ ((not dot && is kind.Dot t.kind) ≡ true) → has_blank before u t ≡ true
      by (inl x) = digits (e_byte b x)
      by (inr x) = let p = and_true (not dot) (is kind.Dot t.kind) x in asked kind.Number (is kind.Dot) refl e p.1 (ap not (point (not_true dot p.0)))

  dot_parted : Parted kind.Dot
  dot_parted e h = told kind.Dot is_pointed refl e (s.point (plain (b == 46) h))

  not_parted : Parted kind.Not
  not_parted e h = asked kind.Not is_equals refl e (s.equals (plain (b == 61) h)) (equals_first t.text (plain (b == 61) h))

  colon_parted : Parted kind.Colon
  colon_parted e h = asked kind.Colon is_coloned refl e (s.colons (plain (b == 58) h)) (colon_first t.text (plain (b == 58) h))

  interp_parted : Parted kind.InterpOpen
  interp_parted e h = let x = s.tilde (plain (b == 126) h) in asked kind.InterpOpen (is kind.SeqClose) refl e x (tilde_text (tilde (seq_close_is t.kind x)) (plain (b == 126) h))

  control_parted : Parted kind.ControlOpen
  control_parted e h = let x = s.tilde (plain (b == 126) h) in asked kind.ControlOpen (is kind.SeqClose) refl e x (tilde_text (tilde (seq_close_is t.kind x)) (plain (b == 126) h))

  either : (p q : Bool) (P Q : Type 0) → (p ≡ true → P) → (q ≡ true → Q) → ((p || q) || false) ≡ true → P ⊎ Q
  either true q P Q f g h = inl (f refl)
  either false true P Q f g h = inr (g refl)
  either false false P Q f g h = absurd (cc)

  assign_parted : Parted kind.Assign
  assign_parted e h = by (either (b == 61) (b == 62) _ _ s.equals s.greater h)
    where
      by : (is_equals t.kind ≡ true) ⊎ (is_greater t.kind ≡ true) → has_blank before u t ≡ true
      by (inl x) = told kind.Assign is_equals refl e x
      by (inr x) = told kind.Assign is_greater refl e x

  less_parted : Parted kind.Less
  less_parted e h = by (either (b == 60) (b == 61) _ _ s.less s.equals h)
    where
      by : (is_less t.kind ≡ true) ⊎ (is_equals t.kind ≡ true) → has_blank before u t ≡ true
      by (inl x) = told kind.Less is_less refl e x
      by (inr x) = told kind.Less is_equals refl e x

  greater_parted : Parted kind.Greater
  greater_parted e h = told kind.Greater is_equals refl e (s.equals (plain (b == 61) h))

  slash_parted : Parted kind.Slash
  slash_parted e h = by (either (b == 47) (b == 42) _ _ s.slashed s.star h)
    where
      by : (is_slashed t.kind ≡ true) ⊎ (is kind.Star t.kind ≡ true) → has_blank before u t ≡ true
      by (inl x) = told kind.Slash is_slashed refl e x
      by (inr x) = told kind.Slash (is kind.Star) refl e x

  separated : (k : Kind) → Parted k
  separated kind.Ident = ident_parted
  separated kind.Number = number_parted
  separated kind.Dot = dot_parted
  separated kind.Colon = colon_parted
  separated kind.Not = not_parted
  separated kind.Assign = assign_parted
  separated kind.Less = less_parted
  separated kind.Greater = greater_parted
  separated kind.Slash = slash_parted
  separated kind.InterpOpen = interp_parted
  separated kind.ControlOpen = control_parted
  separated _ = λ e h. never h

  pub joined_separated : neighbours.joins dot u.kind t.kind t.text ≡ true → has_blank before u t ≡ true
  joined_separated h = separated u.kind refl h
