-- The comments of a file, in turn.
use Rattle.std.proofs.Common.{◌≡◌, ◌∙◌, ◌∷◌, ◌++◌, ◌<◌, ◌≤◌, ◌+◌, [], ℕ, Bool, true, false, List, ap, append_assoc, append-nil, arith, drop, eqb-true, length, map, refl, sym}
use Rattle.std.specs.Prelude.{◌==◌, ◌&&◌, Some, slice_get, if◌then◌else◌}
use Rattle.std.specs.List.{flat_map}
use Rattle.std.specs.Str.Lossy.{utf8_lossy}
use Rattle.hcl_grammar.specs.Numbered.{number_tokens, numbered_from}
use Rattle.hcl_grammar.specs.Verdict.{start_of}
use Rattle.hcl_grammar.proofs.NumberedLemmas.{numbered_at, numbered_here, numbered_past}
use Rattle.hcl_source.specs.declared.fault.Position.{Position}
use Rattle.hcl_tokens.specs.Kinds.{is}
use Rattle.hcl_tokens.specs.Lexemes.{Lexeme}
use Rattle.hcl_tokens.specs.Scans.{Scans}
use Rattle.hcl_tokens.specs.declared.token.Kind.TheVariants.{LineComment}
use Rattle.tf_rules.specs.Issues.{File, place_in}
use Rattle.tf_rules.specs.Walked.{Walked}
use Rattle.tf_rules.proofs.StartLemmas.{starts_rise}
use Rattle.tree_lint.specs.CommentFaults.{CommentFault, fault_of, fault_view, is_some_text}
use Rattle.tree_lint.specs.CommentTexts.{fault_text}
use Rattle.tree_lint.specs.Inner.Looking.{Adds, IsBefore, number_of}
use Rattle.tree_lint.specs.declared.comment_fault.CommentFault as code

-- ---- one token

same_token : (ts : List Lexeme) (n : ℕ) (t u : Lexeme) → slice_get ts n ≡ Some t → slice_get ts n ≡ Some u → t ≡ u
same_token ts n t u e f = cc

and_false : (b : Bool) → (b && false) ≡ false
and_false true = refl
and_false false = refl

is_none : (text : List ℕ) → (length text == 0) ≡ true → is_some_text text ≡ false
is_none [] e = refl
is_none (b ∷ bs) e = absurd (omega (arith, eqb-true (length (b ∷ bs)) 0 e))

is_there : (text : List ℕ) → (length text == 0) ≡ false → is_some_text text ≡ true
is_there [] e = absurd (cc)
is_there (b ∷ bs) e = refl

module _ (file : File) (n : ℕ) where
  abbrev told : ℕ → Position → List ℕ → CommentFault
  told number at text = record { file = number; at = at; text = utf8_lossy text }

  by_kind : (t : Lexeme) (b c : Bool) → is LineComment t.kind ≡ b → is_some_text (fault_text t.text) ≡ c → fault_of file (number_of n t) ≡ (if b && c then told file.number (place_in file n).at (fault_text t.text) ∷ [] else [])
  by_kind t b c e f = λ i. if e i && f i then told file.number (place_in file n).at (fault_text t.text) ∷ [] else []

  module _ (old : List code.CommentFault) where
    pub nothing_of_token : ((t : Lexeme) → slice_get file.source.tokens n ≡ Some t → is LineComment t.kind ≡ false) → Adds file n old old
    nothing_of_token other t e =
        sym (append-nil (map fault_view old)) ∙ ap (λ l. map fault_view old ++ l) (sym (by_kind t false (is_some_text (fault_text t.text)) (other t e) refl))

    module _ (u : Lexeme) (here : slice_get file.source.tokens n ≡ Some u) (text : List ℕ) (said : text ≡ fault_text u.text) where
      text_of : (t : Lexeme) → slice_get file.source.tokens n ≡ Some t → text ≡ fault_text t.text
      text_of t e = said ∙ ap (λ (v : Lexeme). fault_text v.text) (same_token file.source.tokens n u t here e)

      pub nothing_said : (length text == 0) ≡ true → Adds file n old old
      nothing_said none t e =
          sym (append-nil (map fault_view old))
          ∙ ap (λ l. map fault_view old ++ l) (sym (by_kind t (is LineComment t.kind) false refl (sym (ap is_some_text (text_of t e)) ∙ is_none text none) ∙ ap (λ (b : Bool). if b then told file.number (place_in file n).at (fault_text t.text) ∷ [] else []) (and_false (is LineComment t.kind))))

      pub said_here : (new : List code.CommentFault) (f : code.CommentFault) → ((t : Lexeme) → slice_get file.source.tokens n ≡ Some t → is LineComment t.kind ≡ true) → (length text == 0) ≡ false
          → map fault_view new ≡ map fault_view old ++ fault_view f ∷ [] → fault_view f ≡ told file.number (place_in file n).at text → Adds file n old new
      said_here new f comment some pushed is t e =
          pushed ∙ ap (λ l. map fault_view old ++ l ∷ []) (is ∙ ap (told file.number (place_in file n).at) (text_of t e))
          ∙ ap (λ l. map fault_view old ++ l) (sym (by_kind t true true (comment t e) (sym (ap is_some_text (text_of t e)) ∙ is_there text some)))

-- ---- all of them

-- those so far and those to come are all, and the walk is before the tokens to come
pub record IsLooking (file : File) (first faults : List code.CommentFault) (n : ℕ) (walk : Walked) : Type 0 where
  pub so_far : map fault_view faults ++ flat_map (fault_of file) (numbered_from n (drop n file.source.tokens)) ≡ map fault_view first ++ flat_map (fault_of file) (number_tokens file.source.tokens)
  pub text : walk.text ≡ file.source.text
  pub ahead : (j : ℕ) → n ≤ j → j < length file.source.tokens → walk.reached ≤ start_of file.source.tokens j

module _ (file : File) (first : List code.CommentFault) where
  pub none_looked_at : (walk : Walked) → walk ≡ record { text = file.source.text; reached = 0 } → IsLooking file first first 0 walk
  none_looked_at walk e = record {
    so_far = refl;
    text = ap (λ (w : Walked). w.text) e;
    ahead = λ j from lt. omega (arith, ap (λ (w : Walked). w.reached) e);
  }

  module _ (faults : List code.CommentFault) (n : ℕ) (walk : Walked) (h : IsLooking file first faults n walk) where
    pub before_it : n < length file.source.tokens → IsBefore file.source n walk
    before_it lt = record { text = h.text; reached = h.ahead n (omega arith) lt }

    pub one_looked_at : (more : List code.CommentFault) (walk' : Walked) (t : Lexeme) → slice_get file.source.tokens n ≡ Some t → Scans file.source.text file.source.tokens → Adds file n faults more → IsBefore file.source n walk' → IsLooking file first more (n + 1) walk'
    one_looked_at more walk' t e scanned adds before = record {
      so_far =
          ap (λ l. l ++ rest) (adds t e) ∙ append_assoc (map fault_view faults) (fault_of file (number_of n t)) rest
          ∙ ap (λ l. map fault_view faults ++ l) (sym (ap (flat_map (fault_of file)) (sym (numbered_at file.source.tokens n) ∙ numbered_here file.source.tokens n t e)))
          ∙ h.so_far;
      text = before.text;
      ahead = λ j from lt. omega (arith, before.reached, starts_rise file.source.text file.source.tokens scanned n j (omega (arith, from)) lt);
    }
      where
        rest : List CommentFault
        rest = flat_map (fault_of file) (numbered_from (n + 1) (drop (n + 1) file.source.tokens))

    pub all_looked_at : length file.source.tokens ≤ n → map fault_view faults ≡ map fault_view first ++ flat_map (fault_of file) (number_tokens file.source.tokens)
    all_looked_at past =
        sym (append-nil (map fault_view faults))
        ∙ ap (λ l. map fault_view faults ++ flat_map (fault_of file) l) (sym (sym (numbered_at file.source.tokens n) ∙ numbered_past file.source.tokens n past))
        ∙ h.so_far
