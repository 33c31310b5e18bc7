-- References have at most as many bytes as their dots and the identifiers next to these.
use Rattle.std.proofs.Common.{◌≡◌, ◌∙◌, ap, sym, refl, true≢false, ℕ, ◌+◌, ◌≤◌, Bool, true, false, cond, List, [], ◌∷◌, ◌++◌, drop, length, arith, length-append}
use Rattle.std.specs.Prelude.{◌&&◌, ◌||◌, Option, Some, None, codes}
use Rattle.std.specs.Str.{bytes_eq}
use Rattle.std.proofs.lemmas.Slice.Eq.{bytes_eq-Decides}
use Rattle.hcl_tokens.specs.Kinds.{is}
use Rattle.hcl_tokens.specs.declared.token.Kind.{Kind}
use Rattle.hcl_tokens.specs.declared.token.Kind.TheVariants as kind
use Rattle.hcl_grammar.specs.Numbered.{Numbered}
use Rattle.tf_facts.specs.References.{VariableSpan, by_name, data_of, is_self_reference, local_reference, name_after, reference_of, reference_at, references_from, unless_self_reference, variable_reference}
use Rattle.tf_rules.specs.Growth.{bytes}
use Rattle.tf_rules.proofs.DeclaredTextLemmas.{bytes_both}
use Rattle.tf_rules.proofs.ItemWeightLemmas.{bit}

abbrev pub comes_dot : List Numbered → Bool
comes_dot [] = false
comes_dot (t ∷ ts) = is kind.Dot t.kind

-- an identifier next to a dot weighs as much as it has bytes
abbrev pub beside : Bool → Numbered → ℕ
beside b t = cond (is kind.Ident t.kind && b) (length t.text) 0

-- the weight of tokens, if a dot precedes them or not
abbrev pub dotted : Bool → List Numbered → ℕ
dotted after [] = 0
dotted after (t ∷ ts) = bit (is kind.Dot t.kind) + (beside (after || comes_dot ts) t + dotted (is kind.Dot t.kind) ts)

-- ---- one reference

abbrev some_bytes : Option (List ℕ) → ℕ
some_bytes None = 0
some_bytes (Some text) = length text

-- the bytes of a dot and a name
abbrev step_bytes : Option Numbered → ℕ
step_bytes None = 0
step_bytes (Some n) = 1 + length n.text

abbrev steps_by : Option Numbered → List Numbered → ℕ
steps_by None rest = 0
steps_by (Some n) rest = 1 + (length n.text + step_bytes (name_after rest))

-- the bytes of a dot and a name, and of another dot and name after them
abbrev steps : List Numbered → ℕ
steps ts = steps_by (name_after ts) (drop 2 ts)

first_step : (ts : List Numbered) → step_bytes (name_after ts) ≤ steps ts
first_step ts = by (name_after ts)
  where
    by : (o : Option Numbered) → step_bytes o ≤ steps_by o (drop 2 ts)
    by None = omega arith
    by (Some n) = omega arith

same_length : (r x : List ℕ) (n : ℕ) → bytes_eq r x ≡ true → length x ≡ n → length r ≡ n
same_length r x n e h = ap length ((bytes_eq-Decides r x).0 e) ∙ h

named_short : (word n : List ℕ) (rest : List Numbered) → some_bytes (reference_of word n rest) ≤ length word + (1 + (length n + step_bytes (name_after rest)))
named_short word n rest = by (bytes_eq word (codes "var")) (bytes_eq word (codes "local")) (bytes_eq word (codes "data")) refl refl refl
  where
    variable : length (variable_reference n) ≡ 4 + length n
    variable = length-append (codes "var.") n

    local : length (local_reference n) ≡ 6 + length n
    local = length-append (codes "local.") n

    data_short : (o : Option Numbered) → length word ≡ 4 → some_bytes (data_of n o) ≤ length word + (1 + (length n + step_bytes o))
    data_short None e = omega arith
    data_short (Some m) e =
        let a : length (codes "data." ++ (n ++ (codes "." ++ m.text))) ≡ 5 + length (n ++ (codes "." ++ m.text)) = length-append (codes "data.") (n ++ (codes "." ++ m.text)) in
        let b : length (codes "." ++ m.text) ≡ 1 + length m.text = length-append (codes ".") m.text in
        omega (arith, e, a, b, length-append n (codes "." ++ m.text))

    by : (v l d : Bool) → bytes_eq word (codes "var") ≡ v → bytes_eq word (codes "local") ≡ l → bytes_eq word (codes "data") ≡ d
        → some_bytes (cond v (Some (variable_reference n)) (cond l (Some (local_reference n)) (cond d (data_of n (name_after rest)) None))) ≤ length word + (1 + (length n + step_bytes (name_after rest)))
    by true l d e f g = omega (arith, variable, same_length word (codes "var") 3 e refl)
    by false true d e f g = omega (arith, local, same_length word (codes "local") 5 f refl)
    by false false true e f g = data_short (name_after rest) (same_length word (codes "data") 4 g refl)
    by false false false e f g = omega arith

own_short : (own : List VariableSpan) (n : ℕ) (o : Option (List ℕ)) → bytes (unless_self_reference own n o) ≤ some_bytes o
own_short own n None = omega arith
own_short own n (Some text) = by (is_self_reference own n text)
  where
    by : (b : Bool) → bytes (cond b [] (text ∷ [])) ≤ length text
    by true = omega arith
    by false = omega arith

no_name : (ts : List Numbered) → comes_dot ts ≡ false → name_after ts ≡ None
no_name [] e = refl
no_name (d ∷ []) e = refl
no_name (d ∷ n ∷ rest) e = ap (λ b. cond (b && is kind.Ident n.kind) (Some n) None) e

-- a reference has at most as many bytes as its first word and the steps after it
begun_short : (t : Numbered) (ts : List Numbered) → some_bytes (reference_at (t ∷ ts)) ≤ beside (comes_dot ts) t + steps ts
begun_short t ts = by (is kind.Ident t.kind) (comes_dot ts) refl
  where
    word : (o : Option Numbered) → some_bytes (by_name t.text o (drop 2 ts)) ≤ length t.text + steps_by o (drop 2 ts)
    word None = omega arith
    word (Some n) = named_short t.text n.text (drop 2 ts)

    by : (i d : Bool) → comes_dot ts ≡ d → some_bytes (cond i (by_name t.text (name_after ts) (drop 2 ts)) None) ≤ cond (i && d) (length t.text) 0 + steps ts
    by true true e = word (name_after ts)
    by true false e = let none : some_bytes (by_name t.text (name_after ts) (drop 2 ts)) ≡ 0 = ap (λ o. some_bytes (by_name t.text o (drop 2 ts))) (no_name ts e) in omega (arith, none)
    by false d e = omega arith

-- ---- all references

module _ (own : List VariableSpan) where
  abbrev made : Bool → List Numbered → ℕ
  made after ts = bytes (references_from own after ts)

  made_here : (after : Bool) (t : Numbered) (ts : List Numbered) → made after (t ∷ ts) ≤ beside (after || comes_dot ts) t + (steps ts + made (is kind.Dot t.kind) ts)
  made_here true t ts = omega arith
  made_here false t ts =
      omega (
        arith,
        bytes_both (unless_self_reference own t.number (reference_at (t ∷ ts))) (references_from own (is kind.Dot t.kind) ts),
        own_short own t.number (reference_at (t ∷ ts)),
        begun_short t ts,
      )

  dot_is : (k : Kind) → is kind.Dot k ≡ true → is kind.Ident k ≡ false
  dot_is kind.Dot e = refl
  dot_is _ e = absurd (true≢false (sym e))

  ident_is : (k : Kind) → is kind.Ident k ≡ true → is kind.Dot k ≡ false
  ident_is kind.Ident e = refl
  ident_is _ e = absurd (true≢false (sym e))

  -- no reference begins at a dot, or at the name after it
  step_made : (after : Bool) (t n : Numbered) (rest : List Numbered) → is kind.Dot t.kind ≡ true → is kind.Ident n.kind ≡ true → made after (t ∷ n ∷ rest) ≤ made false rest
  step_made after t n rest d i = by after
    where
      on : made (is kind.Dot t.kind) (n ∷ rest) ≡ made false rest
      on = ap (λ b. made b (n ∷ rest)) d ∙ ap (λ b. made b rest) (ident_is n.kind i)

      none : bytes (unless_self_reference own t.number (reference_at (t ∷ n ∷ rest))) ≡ 0
      none = ap (λ b. bytes (unless_self_reference own t.number (cond b (by_name t.text (name_after (n ∷ rest)) (drop 2 (n ∷ rest))) None))) (dot_is t.kind d)

      by : (b : Bool) → made b (t ∷ n ∷ rest) ≤ made false rest
      by true = omega (arith, on)
      by false = omega (arith, on, none, bytes_both (unless_self_reference own t.number (reference_at (t ∷ n ∷ rest))) (references_from own (is kind.Dot t.kind) (n ∷ rest)))

  step_weighs : (after : Bool) (t n : Numbered) (rest : List Numbered) → is kind.Dot t.kind ≡ true → is kind.Ident n.kind ≡ true → 1 + (length n.text + dotted false rest) ≤ dotted after (t ∷ n ∷ rest)
  step_weighs after t n rest d i =
      let one : bit (is kind.Dot t.kind) ≡ 1 = ap bit d in
      let on : dotted (is kind.Dot t.kind) (n ∷ rest) ≡ dotted true (n ∷ rest) = ap (λ b. dotted b (n ∷ rest)) d in
      let name : beside true n ≡ length n.text = ap (λ b. cond (b && true) (length n.text) 0) i in
      let more : dotted (is kind.Dot n.kind) rest ≡ dotted false rest = ap (λ b. dotted b rest) (ident_is n.kind i) in
      omega (arith, one, on, name, more)

  pub made_few : (ts : List Numbered) (after : Bool) → made after ts + steps ts ≤ dotted after ts
  made_few [] after = omega arith
  made_few (t ∷ []) after = omega (arith, made_here after t [])
  made_few (t ∷ n ∷ rest) after = by (is kind.Dot t.kind) (is kind.Ident n.kind) refl refl (made_few (n ∷ rest) (is kind.Dot t.kind)) (made_few rest false)
    where
      by : (d i : Bool) → is kind.Dot t.kind ≡ d → is kind.Ident n.kind ≡ i → made (is kind.Dot t.kind) (n ∷ rest) + steps (n ∷ rest) ≤ dotted (is kind.Dot t.kind) (n ∷ rest) → made false rest + steps rest ≤ dotted false rest
          → made after (t ∷ n ∷ rest) + steps_by (cond (d && i) (Some n) None) rest ≤ dotted after (t ∷ n ∷ rest)
      by true true d i h k = omega (arith, k, first_step rest, step_made after t n rest d i, step_weighs after t n rest d i)
      by true false d i h k = omega (arith, h, made_here after t (n ∷ rest))
      by false i d j h k = omega (arith, h, made_here after t (n ∷ rest))
