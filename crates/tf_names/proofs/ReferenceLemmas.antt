-- References, token by token.
use Rattle.std.proofs.Common.{◌≡◌, ◌∙◌, ap, sym, refl, ℕ, ◌+◌, ◌≤◌, Bool, true, false, cond, List, [], ◌∷◌, ◌++◌, append_assoc, map, drop, length}
use Rattle.std.specs.Prelude.{Option, Some, None, slice_get}
use Rattle.std.specs.Option.{option_and_then}
use Rattle.std.proofs.lemmas.List.{append-nil, map-append}
use Rattle.hcl_grammar.specs.Numbered.{is_passed_over}
use Rattle.hcl_grammar.specs.Verdict.{start_of}
use Rattle.hcl_tokens.specs.Kinds.{is}
use Rattle.hcl_tokens.specs.Lexemes.{Lexeme}
use Rattle.hcl_tokens.specs.declared.token.Kind.TheVariants as kind
use Rattle.tf_facts.specs.References.{name_after}
use Rattle.tf_names.specs.Inner.Found.{reference_seen, stretch_seen}
use Rattle.tf_facts.specs.Seen.{after_dot, number_of, seen_from}
use Rattle.tf_names.specs.Names.{NameReference, listed_reference, occurrence_of, refers_at, refers_by, refers_from, word_stretch}
use Rattle.tf_names.specs.Views.{name_seen, occurrence_seen}
use Rattle.tf_names.specs.declared.occurrence.OccurrenceKind.TheVariants.{Reference}
use Rattle.tf_names.specs.declared.reference.LastName.{LastName}
use Rattle.tf_names.specs.declared.stretch.Stretch.{Stretch as StretchOf}
use Rattle.tf_names.specs.declared.occurrence.Occurrence.{Occurrence as OccurrenceOf}
use Rattle.tf_facts.proofs.SeenLemmas.{after_past, after_seen, seen_here, seen_none, seen_past, word_seen}

module _ (ts : List Lexeme) (n : ℕ) (t : Lexeme) (e : slice_get ts n ≡ Some t) where
  abbrev here : List NameReference
  here = refers_from (after_dot ts n) (seen_from ts n)

  abbrev later : List NameReference
  later = refers_from (after_dot ts (n + 1)) (seen_from ts (n + 1))

  -- at a significant token
  at_seen : is_passed_over t.kind ≡ false → (rs : List NameReference) → rs ≡ cond (after_dot ts n) [] (listed_reference (refers_at (number_of n t ∷ seen_from ts (n + 1)))) → rs ++ later ≡ here
  at_seen seen rs these =
      ap (λ b. rs ++ refers_from b (seen_from ts (n + 1))) (after_seen ts n (n + 1) refl t e seen)
      ∙ ap (λ l. l ++ refers_from (is kind.Dot t.kind) (seen_from ts (n + 1))) these
      ∙ ap (refers_from (after_dot ts n)) (sym (seen_here ts n t e seen))

  -- a token that is no identifier begins no reference, whether it is significant or not
  pub no_ident : is kind.Ident t.kind ≡ false → refers_from (after_dot ts (n + 1)) (seen_from ts (n + 1)) ≡ refers_from (after_dot ts n) (seen_from ts n)
  no_ident none = by (is_passed_over t.kind) refl
    where
      no_reference : (d : Bool) → [] ≡ cond d [] (listed_reference (refers_at (number_of n t ∷ seen_from ts (n + 1))))
      no_reference true = refl
      no_reference false = sym (ap (λ b. listed_reference (cond b (option_and_then (λ m. refers_by (number_of n t) m (drop 2 (seen_from ts (n + 1)))) (name_after (seen_from ts (n + 1)))) None)) none)

      by : (b : Bool) → is_passed_over t.kind ≡ b → later ≡ here
      by true passed =
          ap (λ d. refers_from d (seen_from ts (n + 1))) (after_past ts n (n + 1) refl t e passed)
          ∙ ap (refers_from (after_dot ts n)) (sym (seen_past ts n t e passed))
      by false seen = at_seen seen [] (no_reference (after_dot ts n))

  -- none begins directly after a dot
  pub none_after_dot : is kind.Ident t.kind ≡ true → after_dot ts n ≡ true → refers_from (after_dot ts (n + 1)) (seen_from ts (n + 1)) ≡ refers_from (after_dot ts n) (seen_from ts n)
  none_after_dot ident dot =
      at_seen (word_seen t.kind ident) []
      (sym (ap (λ d. cond d [] (listed_reference (refers_at (number_of n t ∷ seen_from ts (n + 1))))) dot))

  pub begins_here : is kind.Ident t.kind ≡ true → after_dot ts n ≡ false → (r : Option NameReference) → r ≡ refers_at (number_of n t ∷ seen_from ts (n + 1))
      → listed_reference r ++ refers_from (after_dot ts (n + 1)) (seen_from ts (n + 1)) ≡ refers_from (after_dot ts n) (seen_from ts n)
  begins_here ident dot r is_it =
      at_seen (word_seen t.kind ident) (listed_reference r)
      (ap listed_reference is_it ∙ sym (ap (λ d. cond d [] (listed_reference (refers_at (number_of n t ∷ seen_from ts (n + 1))))) dot))

-- the occurrence of a reference that was found
pub occurrence_is : (ts : List Lexeme) (word : ℕ) (n : LastName) (front : ℕ) (last : StretchOf) → front ≡ start_of ts word → stretch_seen last ≡ word_stretch ts n.token
    → occurrence_seen (record { name = n.name; kind = Reference; front = front; start = last.start; end = last.end }) ≡ occurrence_of ts (reference_seen word n)
occurrence_is ts word n front last at spelled = (λ i. record { name = name_seen n.name; kind = Reference; front = at i; start = (spelled i).start; end = (spelled i).end })

-- ---- the walk

-- the occurrences that were found, together with those of the remaining references
abbrev pub AreReferences : List Lexeme → List OccurrenceOf → List OccurrenceOf → ℕ → Type 0
AreReferences ts old new n =
    map occurrence_seen new ++ map (occurrence_of ts) (refers_from (after_dot ts n) (seen_from ts n)) ≡ map occurrence_seen old ++ map (occurrence_of ts) (refers_from false (seen_from ts 0))

module _ (ts : List Lexeme) (old new : List OccurrenceOf) (n : ℕ) (h : AreReferences ts old new n) where
  pub references_end : length ts ≤ n → map occurrence_seen new ≡ map occurrence_seen old ++ map (occurrence_of ts) (refers_from false (seen_from ts 0))
  references_end past =
      sym (append-nil (map occurrence_seen new))
      ∙ ap (λ s. map occurrence_seen new ++ map (occurrence_of ts) (refers_from (after_dot ts n) s)) (sym (seen_none ts n past))
      ∙ h

  pub references_past : map (occurrence_of ts) (refers_from (after_dot ts (n + 1)) (seen_from ts (n + 1))) ≡ map (occurrence_of ts) (refers_from (after_dot ts n) (seen_from ts n)) → AreReferences ts old new (n + 1)
  references_past same = ap (λ l. map occurrence_seen new ++ l) same ∙ h

  pub references_more : (next : List OccurrenceOf) (o : OccurrenceOf) → next ≡ new ++ o ∷ []
      → occurrence_seen o ∷ map (occurrence_of ts) (refers_from (after_dot ts (n + 1)) (seen_from ts (n + 1))) ≡ map (occurrence_of ts) (refers_from (after_dot ts n) (seen_from ts n)) → AreReferences ts old next (n + 1)
  references_more next o pushed same =
      let rest = map (occurrence_of ts) (refers_from (after_dot ts (n + 1)) (seen_from ts (n + 1))) in
      ap (λ l. map occurrence_seen l ++ rest) pushed
      ∙ ap (λ l. l ++ rest) (map-append occurrence_seen new (o ∷ []))
      ∙ append_assoc (map occurrence_seen new) (occurrence_seen o ∷ []) rest
      ∙ ap (λ l. map occurrence_seen new ++ l) same
      ∙ h
