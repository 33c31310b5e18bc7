-- The table of spacing by pairs of kinds is the table of spacing: tried for all pairs, with all results of the further
-- tests.
use Rattle.std.proofs.Common.{◌≡◌, ◌∙◌, ◌&&◌, ◌||◌, not, ℕ, Bool, true, false, List, [], Option, Some, None, ap, refl, sym}
use Rattle.std.specs.Prelude.{codes, if◌then◌else◌, is_some}
use Rattle.std.specs.List.{list_all}
use Rattle.std.specs.Str.{bytes_eq}
use Rattle.hcl_tokens.specs.Lexemes.{Lexeme}
use Rattle.hcl_tokens.specs.declared.token.Kind.{Kind}
use Rattle.hcl_tokens.specs.Kinds.{is}
use Rattle.hcl_tokens.specs.declared.token.Kind.TheVariants as kind
use Rattle.hcl_spacing.specs.Spacing.{AreUndecided, begins_with_colon, begins_with_equals, is_opening, has_blank, follows_kind}
use Rattle.hcl_spacing.specs.Inner.KindPairs.{space_by_texts, pair_space}
use Rattle.hcl_tokens.proofs.BooleanLemmas.{and_true, not_true}
use Rattle.hcl_spacing.proofs.KindLemmas.{each, kinds}

-- by the kinds, or otherwise by the further tests
abbrev pub answered : Option Bool → Bool → Bool
answered None asked = asked
answered (Some space) asked = space

abbrev same : Bool → Bool → Bool
same true b = b
same false b = not b

same_is : (a b : Bool) → same a b ≡ true → a ≡ b
same_is true b h = sym h
same_is false true h = cc
same_is false false h = refl

abbrev agrees : Option Lexeme → Lexeme → Lexeme → Bool
agrees before subject after = same (answered (pair_space subject.kind after.kind) (space_by_texts before subject after)) (has_blank before subject after)

-- ---- samples: after each kind, tokens for both results of the tests of the texts and of the token before
abbrev sample : Kind → List ℕ → Lexeme
sample k text = record { kind = k; text = text; start = 0; inside_heredoc = false }

abbrev asked_text : Kind → Lexeme → Lexeme → Bool
asked_text kind.Not subject after = begins_with_equals after.text
asked_text kind.Colon subject after = begins_with_colon after.text
asked_text kind.InterpOpen subject after = bytes_eq after.text (codes "~}")
asked_text kind.ControlOpen subject after = bytes_eq after.text (codes "~}")
asked_text kind.Ident subject after = bytes_eq subject.text (codes "in")
asked_text _ subject after = false

abbrev asked_before : Kind → Option Lexeme → Bool
asked_before kind.Number before = follows_kind (is kind.Dot) before
asked_before kind.Ident before = follows_kind (is kind.Ident) before
asked_before kind.Minus before = is_opening before
asked_before _ before = false

abbrev before_of : Kind → Bool → Option Lexeme
before_of kind.Number true = Some (sample kind.Dot [])
before_of kind.Ident true = Some (sample kind.Ident [])
before_of kind.Minus false = Some (sample kind.Ident [])
before_of _ _ = None

abbrev subject_of : Kind → Bool → Lexeme
subject_of l asked = sample l (if asked then codes "in" else [])

abbrev text_of : Kind → List ℕ
text_of kind.Not = codes "="
text_of kind.Colon = codes ":"
text_of _ = codes "~}"

abbrev after_of : Kind → Kind → Bool → Lexeme
after_of l r asked = sample r (if asked then text_of l else [])

abbrev on_samples : (Option Lexeme → Lexeme → Lexeme → Bool) → Kind → Kind → Bool → Bool → Bool
on_samples test l r text before = test (before_of l before) (subject_of l text) (after_of l r text)

-- ---- the samples stand for all tokens outside heredocs
module _ (r : Kind) (before : Option Lexeme) (u t : Lexeme) where
  abbrev On : Kind → Bool → Bool → Type 0
  On l x y =
      agrees before (record { kind = l; text = u.text; start = u.start; inside_heredoc = u.inside_heredoc }) (record { kind = r; text = t.text; start = t.start; inside_heredoc = false })
      ≡ on_samples agrees l r x y

  on_not : (x : Bool) → begins_with_equals t.text ≡ x → On kind.Not x false
  on_not true e = first_of (rw e, cc)
  on_not false e = first_of (rw e, cc)

  on_colon : (x : Bool) → begins_with_colon t.text ≡ x → On kind.Colon x false
  on_colon true e = first_of (rw e, cc)
  on_colon false e = first_of (rw e, cc)

  on_interp : (x : Bool) → bytes_eq t.text (codes "~}") ≡ x → On kind.InterpOpen x false
  on_interp true e = first_of (rw e, cc)
  on_interp false e = first_of (rw e, cc)

  on_control : (x : Bool) → bytes_eq t.text (codes "~}") ≡ x → On kind.ControlOpen x false
  on_control true e = first_of (rw e, cc)
  on_control false e = first_of (rw e, cc)

  on_number : (y : Bool) → follows_kind (is kind.Dot) before ≡ y → On kind.Number false y
  on_number true e = first_of (rw e, cc)
  on_number false e = first_of (rw e, cc)

  on_minus : (y : Bool) → is_opening before ≡ y → On kind.Minus false y
  on_minus true e = first_of (rw e, cc)
  on_minus false e = first_of (rw e, cc)

  on_ident : (x y : Bool) → bytes_eq u.text (codes "in") ≡ x → follows_kind (is kind.Ident) before ≡ y → On kind.Ident x y
  on_ident true true e f = first_of (rw (e, f), rw e, rw f, cc)
  on_ident true false e f = first_of (rw (e, f), rw e, rw f, cc)
  on_ident false true e f = first_of (rw (e, f), rw e, rw f, cc)
  on_ident false false e f = first_of (rw (e, f), rw e, rw f, cc)

  on : (l : Kind) → On l (asked_text l u t) (asked_before l before)
  on kind.Not = on_not _ refl
  on kind.Colon = on_colon _ refl
  on kind.InterpOpen = on_interp _ refl
  on kind.ControlOpen = on_control _ refl
  on kind.Number = on_number _ refl
  on kind.Minus = on_minus _ refl
  on kind.Ident = on_ident _ _ refl refl
  on _ = refl

-- ---- and are tried
abbrev both : (Bool → Bool) → Bool
both P = P true && P false

both_is : (P : Bool → Bool) → both P ≡ true → (b : Bool) → P b ≡ true
both_is P h true = (and_true (P true) (P false) h).0
both_is P h false = (and_true (P true) (P false) h).1

tried : list_all (λ l. list_all (λ r. both (λ x. both (λ y. on_samples agrees l r x y))) kinds) kinds ≡ true
tried = refl

every : (l r : Kind) (x y : Bool) → on_samples agrees l r x y ≡ true
every l r x y =
    both_is (λ y. on_samples agrees l r x y)
    (both_is (λ x. both (λ y. on_samples agrees l r x y))
    (each (λ r. both (λ x. both (λ y. on_samples agrees l r x y)))
    (each (λ l. list_all (λ r. both (λ x. both (λ y. on_samples agrees l r x y))) kinds) tried l) r) x) y

-- outside heredocs, the table gives for two tokens the answer of their kinds, or otherwise that of the further tests
pub by_kinds : (before : Option Lexeme) (subject after : Lexeme) → after.inside_heredoc ≡ false → answered (pair_space subject.kind after.kind) (space_by_texts before subject after) ≡ has_blank before subject after
by_kinds before subject after e =
    same_is (answered (pair_space subject.kind after.kind) (space_by_texts before subject after)) (has_blank before subject after)
    ((λ j. agrees before subject (record { kind = after.kind; text = after.text; start = after.start; inside_heredoc = e j }))
    ∙ (on after.kind before subject after subject.kind ∙ every subject.kind after.kind (asked_text subject.kind subject after) (asked_before subject.kind before)))

pub given : (space : Bool) (subject after : Lexeme) → after.inside_heredoc ≡ false → pair_space subject.kind after.kind ≡ Some space → (before : Option Lexeme) → space ≡ has_blank before subject after
given space subject after e f before = sym (ap (λ o. answered o (space_by_texts before subject after)) f) ∙ by_kinds before subject after e

pub asked_is : (before : Option Lexeme) (subject after : Lexeme) → after.inside_heredoc ≡ false → pair_space subject.kind after.kind ≡ None → space_by_texts before subject after ≡ has_blank before subject after
asked_is before subject after e f = sym (ap (λ o. answered o (space_by_texts before subject after)) f) ∙ by_kinds before subject after e

-- ---- if the kinds don't decide, some tokens of these kinds have one blank between them, and others none
abbrev parts : Kind → Kind → Bool
parts l r = is_some (pair_space l r) || on_samples has_blank l r true (is kind.Ident l)

abbrev joins : Kind → Kind → Bool
joins l r = is_some (pair_space l r) || not (on_samples has_blank l r false true)

all_part : list_all (λ l. list_all (λ r. parts l r) kinds) kinds ≡ true
all_part = refl

all_join : list_all (λ l. list_all (λ r. joins l r) kinds) kinds ≡ true
all_join = refl

second : (v w : Bool) → v ≡ false → (v || w) ≡ true → w ≡ true
second true w e h = cc
second false w e h = h

pub untold : (l r : Kind) → pair_space l r ≡ None → AreUndecided l r
untold l r e =
    let apart = second (is_some (pair_space l r)) (on_samples has_blank l r true (is kind.Ident l)) (ap is_some e) (each (λ r. parts l r) (each (λ l. list_all (λ r. parts l r) kinds) all_part l) r) in
    let close = second (is_some (pair_space l r)) (not (on_samples has_blank l r false true)) (ap is_some e) (each (λ r. joins l r) (each (λ l. list_all (λ r. joins l r) kinds) all_join l) r) in
    record {
      separated = record { before = before_of l (is kind.Ident l); first = subject_of l true; next = after_of l r true; first_is = refl; next_is = refl; outside = refl; gives = apart };
      together = record { before = before_of l true; first = subject_of l false; next = after_of l r false; first_is = refl; next_is = refl; outside = refl; gives = not_true (on_samples has_blank l r false true) close };
    }
