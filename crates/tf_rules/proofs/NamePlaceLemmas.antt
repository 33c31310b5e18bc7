-- The tokens that name items, and the dots beside other identifiers.
use Rattle.std.proofs.Common.{◌≡◌, ◌⊎◌, inl, inr, ℕ, ◌+◌, Bool, true, false, cond, not, List, [], ◌∷◌, drop, refl, sym, ap, subst, ◌∙◌, true≢false}
use Rattle.std.specs.Prelude.{◌&&◌, ◌||◌, Some, None}
use Rattle.std.proofs.lemmas.List.{drop-drop}
use Rattle.hcl_tokens.specs.Kinds.{is}
use Rattle.hcl_tokens.specs.declared.token.Kind.{Kind}
use Rattle.hcl_tokens.specs.declared.token.Kind.TheVariants as kind
use Rattle.hcl_grammar.specs.Classes.{class_at, drops, is_trivia}
use Rattle.hcl_grammar.specs.Grammar.{Symbol, the, after, after_ident, step, section_directive, Marked, ◌at◌, none, reads, row_of, fits}
use Rattle.hcl_grammar.specs.Numbered.{Numbered, is_comment, is_passed_over, significant, without_comments}
use Rattle.hcl_grammar.specs.Predictor.{on, effect, row_effect}
use Rattle.hcl_grammar.specs.declared.class.Class.TheVariants.{Dot, Newline}
use Rattle.hcl_grammar.specs.declared.class.Lookahead.{Lookahead}
use Rattle.hcl_grammar.specs.declared.expected.Newlines.{Newlines}
use Rattle.hcl_grammar.specs.declared.expected.Newlines.TheVariants.{Seen, Dropped}
use Rattle.hcl_grammar.specs.declared.expected.Terminal.{Terminal}
use Rattle.hcl_grammar.specs.declared.expected.Terminal.TheVariants.{Name}
use Rattle.hcl_grammar.specs.declared.expected.Section.TheVariants.{InIf, InElse, InFor}
use Rattle.hcl_grammar.specs.declared.refusal.Refusal.TheVariants.{UnexpectedToken}
use Rattle.tf_rules.proofs.InnerLemmas.{landed, stopped}
use Rattle.tf_rules.proofs.TurnLemmas.{Place, line, labelled, started, named, turn}

abbrev pub begins_dot : List Numbered → Bool
begins_dot [] = false
begins_dot (t ∷ ts) = is kind.Dot t.kind

-- the last token that isn't skipped is a dot
abbrev pub follows_dot : Bool → Kind → Bool
follows_dot dot k = cond (is_passed_over k) dot (is kind.Dot k)

-- a quote, or an identifier beside no dot
abbrev pub is_disjoint : Bool → Kind → List Numbered → Bool
is_disjoint dot k rest = is kind.QuoteOpen k || (is kind.Ident k && (not dot && not (begins_dot (significant rest))))

-- token by token
abbrev pub disjoint : Bool → List Numbered → List Bool
disjoint dot [] = []
disjoint dot (t ∷ ts) = is_disjoint dot t.kind ts ∷ disjoint (follows_dot dot t.kind) ts

abbrev pub first : List Bool → Bool
first [] = false
first (b ∷ bs) = b

abbrev pub IsDisjoint : List Numbered → ℕ → Type 0
IsDisjoint all n = first (drop n (disjoint false all)) ≡ true

pub disjoint_on : (all : List Numbered) (n : ℕ) (dot : Bool) (t : Numbered) (ts : List Numbered) → drop n (disjoint false all) ≡ disjoint dot (t ∷ ts) → drop (n + 1) (disjoint false all) ≡ disjoint (follows_dot dot t.kind) ts
disjoint_on all n dot t ts e = sym (drop-drop 1 n (disjoint false all)) ∙ ap (drop 1) e

-- ---- which tokens name

abbrev pub is_name : Place → Kind → Bool
is_name (line k) t = is kind.Ident t
is_name (labelled k b) t = is kind.Ident t || is kind.QuoteOpen t
is_name (started k) t = is kind.Ident t
is_name _ t = false

ident_is : (t : Kind) → is kind.Ident t ≡ true → t ≡ kind.Ident
ident_is kind.Ident e = refl
ident_is _ e = absurd (true≢false (sym e))

name_kind : (p : Place) (t : Kind) → is_name p t ≡ true → (is kind.QuoteOpen t ≡ true) ⊎ (t ≡ kind.Ident)
name_kind (line k) t e = inr (ident_is t e)
name_kind (started k) t e = inr (ident_is t e)
name_kind (labelled k b) t e = by t e
  where
    by : (t : Kind) → (is kind.Ident t || is kind.QuoteOpen t) ≡ true → (is kind.QuoteOpen t ≡ true) ⊎ (t ≡ kind.Ident)
    by kind.Ident e = inr refl
    by kind.QuoteOpen e = inl refl
    by _ e = absurd (true≢false (sym e))
name_kind _ t e = absurd (true≢false (sym e))

-- ---- no dot follows a name

abbrev pub follows : Kind → Bool
follows t = not (is_passed_over t) && not (is kind.Dot t)

abbrev pub Follows : List Numbered → Type 0
Follows [] = Unit {0}
Follows (t ∷ ts) = follows t.kind ≡ true

after_labels : (k : ℕ) (b : Bool) (t : Kind) (q : Place) → turn (labelled k b) t ≡ Some q → follows t ≡ true
after_labels k b kind.Ident q e = refl
after_labels k b kind.QuoteOpen q e = refl
after_labels k b kind.BraceOpen q e = refl
after_labels k b kind.Assign q e = refl
after_labels k b t q e = let n : None ≡ Some q = e in absurd (cc)

after_name : (k : ℕ) (t : Kind) (q : Place) → turn (named k) t ≡ Some q → follows t ≡ true
after_name k kind.Assign q e = refl
after_name k t q e = let n : None ≡ Some q = e in absurd (cc)

pub name_next : (p q r : Place) (t : Kind) → is_name p kind.Ident ≡ true → turn p kind.Ident ≡ Some q → turn q t ≡ Some r → follows t ≡ true
name_next (line k) q r t e turned next = let f : labelled k true ≡ q = cc in after_labels k true t r (subst (λ x. turn x t ≡ Some r) (sym f) next)
name_next (labelled k b) q r t e turned next = let f : labelled k false ≡ q = cc in after_labels k false t r (subst (λ x. turn x t ≡ Some r) (sym f) next)
name_next (started k) q r t e turned next = let f : named k ≡ q = cc in after_name k t r (subst (λ x. turn x t ≡ Some r) (sym f) next)
name_next _ q r t e turned next = absurd (true≢false (sym e))

pub no_dot : (ts : List Numbered) → Follows (without_comments ts) → begins_dot (significant ts) ≡ false
no_dot [] h = refl
no_dot (t ∷ ts) h = by t.kind refl h (no_dot ts)
  where
    Front : (k : Kind) → Type 0
    Front k = begins_dot (cond (not (is_passed_over k)) (t ∷ significant ts) (significant ts)) ≡ false

    one : (k : Kind) → t.kind ≡ k → (is_passed_over k ≡ false) → follows k ≡ true → is kind.Dot t.kind ≡ false
    one k e plain h = ap (is kind.Dot) e ∙ other (is_passed_over k) (is kind.Dot k) plain h
      where
        other : (a b : Bool) → a ≡ false → (not a && not b) ≡ true → b ≡ false
        other false false e h = refl
        other false true e h = absurd (true≢false (sym h))
        other true b e h = absurd (true≢false e)

    by : (k : Kind) → t.kind ≡ k → Follows (cond (not (is_comment k)) (t ∷ without_comments ts) (without_comments ts)) → (Follows (without_comments ts) → begins_dot (significant ts) ≡ false) → Front k
    by kind.LineComment e h rest = rest h
    by kind.InlineComment e h rest = rest h
    by kind.Blank e h rest = absurd (true≢false (sym (sym (ap follows e) ∙ h)))
    by kind.Newline e h rest = absurd (true≢false (sym (sym (ap follows e) ∙ h)))
    by k e h rest = one k e refl (sym (ap follows e) ∙ h)

pub name_disjoint : (all : List Numbered) (n : ℕ) (dot : Bool) (p : Place) (t : Numbered) (ts : List Numbered) → is_name p t.kind ≡ true → dot ≡ false → (t.kind ≡ kind.Ident → Follows (without_comments ts))
    → drop n (disjoint false all) ≡ disjoint dot (t ∷ ts) → IsDisjoint all n
name_disjoint all n dot p t ts e plain next this = ap first this ∙ by (name_kind p t.kind e)
  where
    by : (is kind.QuoteOpen t.kind ≡ true) ⊎ (t.kind ≡ kind.Ident) → is_disjoint dot t.kind ts ≡ true
    by (inl q) = ap (λ b. b || (is kind.Ident t.kind && (not dot && not (begins_dot (significant ts))))) q
    by (inr i) = ap (λ k. is_disjoint dot k ts) i ∙ ap (λ b. not b && not (begins_dot (significant ts))) plain ∙ ap not (no_dot ts (next i))

-- ---- a dot is followed by a step

abbrev pub steps : List Marked → Bool
steps (step at m ∷ ss) = true
steps _ = false

dot_fits : (e : Terminal) → fits e Dot ≡ false
dot_fits Name = refl
dot_fits _ = refl

dot_row : (s : Symbol) (m : Newlines) (n : ℕ) → (row_of s m n Dot ≡ none) ⊎ (row_of s m n Dot ≡ reads (step at m ∷ after at m ∷ []))
dot_row (the e) m n = inl (ap (λ b. cond b (reads []) none) (dot_fits e))
dot_row after m n = inr refl
dot_row after_ident m n = inr refl
dot_row (section_directive InIf k) m n = inl refl
dot_row (section_directive InElse k) m n = inl refl
dot_row (section_directive InFor k) m n = inl refl
dot_row s m n = inl refl

no_drop : (m : Newlines) → drops m Dot ≡ false
no_drop Seen = refl
no_drop Dropped = refl

dot_steps : (count n later : ℕ) (ss us : List Marked) → effect count ss (record { class = Dot; number = n }) ≡ on later us → steps us ≡ true
dot_steps count n later [] us e = absurd (stopped (UnexpectedToken n) later us e)
dot_steps count n later (s at m ∷ ss) us e = by (dot_row s m n)
  where
    it : Lookahead
    it = record { class = Dot; number = n }

    read : row_effect count (row_of s m n Dot) ss (effect count ss it) it ≡ on later us
    read = sym (ap (λ b. cond b (on count (s at m ∷ ss)) (row_effect count (row_of s m n Dot) ss (effect count ss it) it)) (no_drop m)) ∙ e

    by : (row_of s m n Dot ≡ none) ⊎ (row_of s m n Dot ≡ reads (step at m ∷ after at m ∷ [])) → steps us ≡ true
    by (inl h) = absurd (stopped (UnexpectedToken n) later us (sym (ap (λ r. row_effect count r ss (effect count ss it) it) h) ∙ read))
    by (inr h) = ap steps (landed count later (step at m ∷ after at m ∷ ss) us (sym (ap (λ r. row_effect count r ss (effect count ss it) it) h) ∙ read))

newline_steps : (count n later : ℕ) (ss us : List Marked) → steps ss ≡ true → effect count ss (record { class = Newline; number = n }) ≡ on later us → steps us ≡ true
newline_steps count n later [] us h e = absurd (true≢false (sym h))
newline_steps count n later (step at Seen ∷ ss) us h e = absurd (stopped (UnexpectedToken n) later us e)
newline_steps count n later (step at Dropped ∷ ss) us h e = ap steps (landed count later (step at Dropped ∷ ss) us e)
newline_steps count n later (s at m ∷ ss) us h e = absurd (true≢false (sym h))

-- ONE TOKEN
pub step_stays : (count n later : ℕ) (t : Kind) (text : List ℕ) (ss us : List Marked) (dot : Bool) → (dot ≡ true → steps ss ≡ true) → is_trivia (class_at t text) ≡ false
    → effect count ss (record { class = class_at t text; number = n }) ≡ on later us → follows_dot dot t ≡ true → steps us ≡ true
step_stays count n later kind.Dot text ss us dot h plain e d = dot_steps count n later ss us e
step_stays count n later kind.Newline text ss us dot h plain e d = newline_steps count n later ss us (h d) e
step_stays count n later kind.Blank text ss us dot h plain e d = absurd (true≢false plain)
step_stays count n later kind.LineComment text ss us dot h plain e d = absurd (true≢false plain)
step_stays count n later kind.InlineComment text ss us dot h plain e d = absurd (true≢false plain)
step_stays count n later t text ss us dot h plain e d = absurd (true≢false (sym d))
