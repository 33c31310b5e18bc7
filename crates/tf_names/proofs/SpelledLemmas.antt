-- Names are spelled where they occur.
use Rattle.std.proofs.Common.{◌≡◌, ◌∙◌, ap, refl, subst, sym, ℕ, suc, zero, ◌+◌, ◌-◌, Bool, true, false, cond, not, List, [], ◌∷◌, ◌++◌, arith, drop, length, map, take}
use Rattle.std.specs.Prelude.{◌==◌, ◌&&◌, All, Option, Some, None, codes, filter}
use Rattle.std.specs.Option.{option_map, option_and_then}
use Rattle.std.specs.Str.{bytes_eq}
use Rattle.std.proofs.lemmas.List.Elements.{All-append}
use Rattle.hcl_grammar.specs.Items.{outline}
use Rattle.hcl_grammar.specs.Labels.{first_literal, first_text, text_of}
use Rattle.hcl_grammar.specs.Numbered.{Numbered, is_passed_over, number_tokens, numbered_from, significant}
use Rattle.hcl_grammar.specs.Verdict.{start_of}
use Rattle.hcl_grammar.specs.declared.item.Label.{Label}
use Rattle.hcl_grammar.proofs.NumberedLemmas.{numbered_at}
use Rattle.hcl_tokens.specs.Kinds.{is}
use Rattle.hcl_tokens.specs.Lexemes.{Lexeme}
use Rattle.hcl_tokens.specs.Scans.{Scans}
use Rattle.hcl_tokens.specs.declared.token.Kind.TheVariants as kind
use Rattle.tf_facts.specs.References.{name_after}
use Rattle.tf_names.specs.Names.{NameReference, Occurrence, Stretch, Variable, Local, Data, Module, label_stretch, last_part, listed_reference, name_declarations, name_references, occurrence_of, occurrences, refer, refers_at, refers_by, refers_from, stop_of, stretch_at, word_stretch}
use Rattle.tf_names.proofs.DeclaredLemmas.{all_more, all_none, each_declared}
use Rattle.tf_names.proofs.SourceLemmas.{AreSpelled, IsSpelled, tokens_spelled}

-- ---- stretches

abbrev IsWritten : List ℕ → Stretch → Type 0
IsWritten text s = take (s.end - s.start) (drop s.start text) ≡ s.text

stretch_written : (text part : List ℕ) (start : ℕ) → IsSpelled text start part → IsWritten text (stretch_at part start)
stretch_written text part start h =
    let long : start + length part - start ≡ length part = omega arith in
    ap (λ n. take n (drop start text)) long ∙ h

word_spelled : (text : List ℕ) (from : ℕ) (ts : List Lexeme) (n j : ℕ) → AreSpelled text from ts → IsSpelled text (start_of ts n) (first_text (numbered_from j (drop n ts)))
word_spelled text from [] zero j f = refl
word_spelled text from [] (suc n) j f = refl
word_spelled text from (t ∷ ts) zero j f = f.0
word_spelled text from (t ∷ ts) (suc n) j f = word_spelled text (t.start + length t.text) ts n j f.2

literal_here : (text : List ℕ) (from j : ℕ) (ts : List Lexeme) → AreSpelled text from ts → IsSpelled text from (first_literal (numbered_from j ts))
literal_here text from j [] f = refl
literal_here text from j (u ∷ us) f = by (is kind.Lit u.kind) refl
  where
    by : (b : Bool) → is kind.Lit u.kind ≡ b → IsSpelled text from (cond b u.text [])
    by true l = subst (λ (n : ℕ). IsSpelled text n u.text) (f.1 l) f.0
    by false l = refl

literal_spelled : (text : List ℕ) (from : ℕ) (ts : List Lexeme) (n j : ℕ) → AreSpelled text from ts → IsSpelled text (stop_of ts n) (first_literal (numbered_from j (drop (suc n) ts)))
literal_spelled text from [] zero j f = refl
literal_spelled text from [] (suc n) j f = refl
literal_spelled text from (t ∷ ts) zero j f = literal_here text (t.start + length t.text) j ts f.2
literal_spelled text from (t ∷ ts) (suc n) j f = literal_spelled text (t.start + length t.text) ts n j f.2

module _ (text : List ℕ) (tokens : List Lexeme) (f : AreSpelled text 0 tokens) where
  word_written : (n : ℕ) → IsWritten text (word_stretch tokens n)
  word_written n =
      stretch_written text (text_of (number_tokens tokens) n) (start_of tokens n)
      (subst (λ l. IsSpelled text (start_of tokens n) (first_text l)) (sym (numbered_at tokens n)) (word_spelled text 0 tokens n n f))

  label_written : (l : Label) → IsWritten text (label_stretch tokens l)
  label_written l = by (l.first == l.last)
    where
      by : (b : Bool) → IsWritten text (stretch_at (cond b (text_of (number_tokens tokens) l.first) (first_literal (drop (l.first + 1) (number_tokens tokens)))) (cond b (start_of tokens l.first) (stop_of tokens l.first)))
      by true = word_written l.first
      by false =
          let next : suc l.first ≡ l.first + 1 = omega arith in
          let same : numbered_from (l.first + 1) (drop (suc l.first) tokens) ≡ drop (l.first + 1) (number_tokens tokens) =
          ap (λ k. numbered_from (l.first + 1) (drop k tokens)) next ∙ sym (numbered_at tokens (l.first + 1)) in
          stretch_written text (first_literal (drop (l.first + 1) (number_tokens tokens))) (stop_of tokens l.first)
          (subst (λ ts. IsSpelled text (stop_of tokens l.first) (first_literal ts)) same (literal_spelled text 0 tokens l.first (l.first + 1) f))

-- ---- references

-- each token has the text for its number
abbrev AreTexts : (ℕ → List ℕ) → List Numbered → Type 0
AreTexts texts [] = Unit {0}
AreTexts texts (t ∷ ts) = (t.text ≡ texts t.number) × AreTexts texts ts

-- the last part of a name is the text of its token
abbrev AreNamed : (ℕ → List ℕ) → List NameReference → Type 0
AreNamed texts [] = Unit {0}
AreNamed texts (r ∷ rs) = (last_part r.name ≡ texts r.token) × AreNamed texts rs

module _ (texts : ℕ → List ℕ) where
  texts_filter : (p : Numbered → Bool) (ts : List Numbered) → AreTexts texts ts → AreTexts texts (filter p ts)
  texts_filter p [] h = tt
  texts_filter p (t ∷ ts) h = by (p t) (texts_filter p ts h.1)
    where
      by : (b : Bool) → AreTexts texts (filter p ts) → AreTexts texts (cond b (t ∷ filter p ts) (filter p ts))
      by true r = (h.0, r)
      by false r = r

  texts_drop : (k : ℕ) (ts : List Numbered) → AreTexts texts ts → AreTexts texts (drop k ts)
  texts_drop zero ts h = h
  texts_drop (suc k) [] h = h
  texts_drop (suc k) (t ∷ ts) h = texts_drop k ts h.1

  numbered_texts : (n : ℕ) (ts : List Lexeme) → ((k : ℕ) → first_text (drop k (numbered_from n ts)) ≡ texts (n + k)) → AreTexts texts (numbered_from n ts)
  numbered_texts n [] same = tt
  numbered_texts n (t ∷ ts) same =
      let z : n + 0 ≡ n = omega arith in
      (same 0 ∙ ap texts z, numbered_texts (n + 1) ts (λ k. let s : n + suc k ≡ n + 1 + k = omega arith in same (suc k) ∙ ap texts s))

  text_after : (ts : List Numbered) (n : Numbered) → AreTexts texts ts → name_after ts ≡ Some n → n.text ≡ texts n.number
  text_after [] n h e = absurd (cc)
  text_after (d ∷ []) n h e = absurd (cc)
  text_after (d ∷ m ∷ rest) n h e = by (is kind.Dot d.kind && is kind.Ident m.kind) e
    where
      by : (b : Bool) → cond b (Some m) None ≡ Some n → n.text ≡ texts n.number
      by true found =
          let same : m ≡ n = cc in
          subst (λ (x : Numbered). x.text ≡ texts x.number) same h.1.0
      by false found = absurd (cc)

  by_named : (w n : Numbered) (rest : List Numbered) → n.text ≡ texts n.number → AreTexts texts rest → AreNamed texts (listed_reference (refers_by w n rest))
  by_named w n rest here h = by (bytes_eq w.text (codes "var")) (bytes_eq w.text (codes "local")) (bytes_eq w.text (codes "data")) (bytes_eq w.text (codes "module")) (name_after rest) (λ m e. text_after rest m h e)
    where
      by : (a b c d : Bool) (m : Option Numbered) → ((x : Numbered) → m ≡ Some x → x.text ≡ texts x.number)
          → AreNamed texts (listed_reference (cond a (Some (refer w n (Variable n.text))) (cond b (Some (refer w n (Local n.text))) (cond c (option_map (λ x. refer w x (Data n.text x.text)) m) (cond d (Some (refer w n (Module n.text))) None)))))
      by true b c d m k = (here, tt)
      by false true c d m k = (here, tt)
      by false false true d None k = tt
      by false false true d (Some x) k = (k x refl, tt)
      by false false false true m k = (here, tt)
      by false false false false m k = tt

  at_named : (w : Numbered) (ts : List Numbered) → AreTexts texts ts → AreNamed texts (listed_reference (refers_at (w ∷ ts)))
  at_named w ts h = by (is kind.Ident w.kind) (name_after ts) (λ n e. text_after ts n h e)
    where
      by : (b : Bool) (m : Option Numbered) → ((x : Numbered) → m ≡ Some x → x.text ≡ texts x.number) → AreNamed texts (listed_reference (cond b (option_and_then (λ n. refers_by w n (drop 2 ts)) m) None))
      by true None k = tt
      by true (Some n) k = by_named w n (drop 2 ts) (k n refl) (texts_drop 2 ts h)
      by false m k = tt

  named_append : (rs more : List NameReference) → AreNamed texts rs → AreNamed texts more → AreNamed texts (rs ++ more)
  named_append [] more h k = k
  named_append (r ∷ rs) more h k = (h.0, named_append rs more h.1 k)

  from_named : (after_dot : Bool) (ts : List Numbered) → AreTexts texts ts → AreNamed texts (refers_from after_dot ts)
  from_named after_dot [] h = tt
  from_named true (t ∷ ts) h = from_named (is kind.Dot t.kind) ts h.1
  from_named false (t ∷ ts) h =
      named_append (listed_reference (refers_at (t ∷ ts))) (refers_from (is kind.Dot t.kind) ts) (at_named t ts h.1)
      (from_named (is kind.Dot t.kind) ts h.1)

references_named : (tokens : List Lexeme) → AreNamed (text_of (number_tokens tokens)) (name_references (number_tokens tokens))
references_named tokens =
    let texts = text_of (number_tokens tokens) in
    let all : AreTexts texts (number_tokens tokens) = numbered_texts texts 0 tokens (λ k. let z : k ≡ 0 + k = omega arith in ap texts z) in
    from_named texts false (significant (number_tokens tokens)) (texts_filter texts (λ t. not (is_passed_over t.kind)) (number_tokens tokens) all)

-- ---- all occurrences

abbrev IsThere : List ℕ → Occurrence → Type 0
IsThere text o = take (o.end - o.start) (drop o.start text) ≡ last_part o.name

references_there : (text : List ℕ) (tokens : List Lexeme) (rs : List NameReference) → AreSpelled text 0 tokens → AreNamed (text_of (number_tokens tokens)) rs → All (λ o. IsThere text o) (map (occurrence_of tokens) rs)
references_there text tokens [] f h = all_none (λ o. IsThere text o)
references_there text tokens (r ∷ rs) f h =
    all_more (λ o. IsThere text o) (occurrence_of tokens r) (map (occurrence_of tokens) rs) (word_written text tokens f r.token ∙ sym h.0) (references_there text tokens rs f h.1)

-- THE LAW
pub names_are_spelled_there : (text : List ℕ) (tokens : List Lexeme) → Scans text tokens → All (λ o. take (o.end - o.start) (drop o.start text) ≡ last_part o.name) (occurrences (record { text = text; tokens = tokens }))
names_are_spelled_there text tokens p =
    let f = tokens_spelled text tokens p in
    All-append (λ o. IsThere text o) (name_declarations tokens) (map (occurrence_of tokens) (name_references (number_tokens tokens)))
    (each_declared (λ s. IsWritten text s) (λ o. IsThere text o) (λ name s same h. h ∙ sym same) tokens (word_written text tokens f) (label_written text tokens f) (outline tokens))
    (references_there text tokens (name_references (number_tokens tokens)) f (references_named tokens))
