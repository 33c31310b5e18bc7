-- After a token that may grow: if the gap fits, the token that is read there in a text of the same tokens doesn't
-- extend it.
use Rattle.std.proofs.Common.{◌≡◌, ℕ, zero, suc, ◌<◌, ◌≤◌, ◌&&◌, ◌||◌, ◌==◌, not, Bool, true, false, cond, List, [], ◌∷◌, ◌++◌, length, get_or, replicate, ⊎_elim, refl, sym, ap, ◌∙◌, arith}
use Rattle.std.specs.Char.{is_ascii_digit}
use Rattle.std.specs.Prelude.{nat_le}
use Rattle.std.proofs.lemmas.List.{get_or_append_left}
use Rattle.std.proofs.lemmas.Bool.Decides.{nat_tests}
use Rattle.std.proofs.lemmas.Bool.{false≢true}
use Rattle.hcl_tokens.specs.Lexemes.{Lexeme, Opener, in_heredoc, open_after}
use Rattle.hcl_tokens.specs.Spelling.{punctuation, IsPunctuation, IsExpressionText, context, Expression}
use Rattle.hcl_tokens.specs.Kinds.{is}
use Rattle.hcl_tokens.specs.Scans.{State, ahead, Reads, Closes, Next, Run}
use Rattle.hcl_scan.specs.Inner.Prefixes.{prefix_of, prefix_bytes}
use Rattle.hcl_tokens.specs.Neighbours.{grows, joins, joins_text, stays}
use Rattle.hcl_tokens.specs.Regapped.{without_gaps, text_with_gaps, is_template, touches, AllFit}
use Rattle.hcl_scan.specs.declared.front.Prefix.TheVariants.{Sign as SignLead}
use Rattle.hcl_tokens.specs.declared.token.Kind.{Kind}
use Rattle.hcl_tokens.specs.declared.token.Kind.TheVariants.{LineComment, Ident, Number, Dot, Colon, Not, Assign, Less, Greater, Slash, Lit, InterpOpen, ControlOpen, QuoteClose, HeredocClose}
use Rattle.hcl_tokens.proofs.BooleanLemmas.{and_true, not_true}
use Rattle.hcl_scan.proofs.ContextLemmas.{not_both}
use Rattle.hcl_scan.proofs.WayLemmas.{Ways, ways, mark_passes}
use Rattle.hcl_scan.proofs.PrefixLemmas.{leads, some, sign_mark}
use Rattle.hcl_tokens.proofs.ExpressionKindLemmas.{in_expressions}
use Rattle.hcl_scan.proofs.KindPlaceLemmas.{Side, expression, template, side}
use Rattle.hcl_scan.proofs.TemplateLemmas.{lit, interp, control, quote}
use Rattle.hcl_scan.proofs.PunctuationNeighbourLemmas.{blank_grows}

-- ---- the kinds, by the table's tests of the text after
abbrev pub grower : Kind → Bool
grower Ident = true
grower Number = true
grower Dot = true
grower Colon = true
grower Not = true
grower Assign = true
grower Less = true
grower Greater = true
grower Slash = true
grower InterpOpen = true
grower ControlOpen = true
grower _ = false

-- ---- a token that may grow leaves an expression
in_place : (opens : List Opener) (dot : Bool) (kind : Kind) (text rest : List ℕ) → in_expressions kind ≡ true → Side opens dot kind text rest → context opens ≡ Expression
in_place opens dot kind text rest k (expression e l h) = e
in_place opens dot kind text rest k (template quoted e (lit l h)) = absurd (let c : true ≡ false = sym k ∙ ap in_expressions l in cc)
in_place opens dot kind text rest k (template quoted e (interp l h)) = absurd (let c : true ≡ false = sym k ∙ ap in_expressions l in cc)
in_place opens dot kind text rest k (template quoted e (control l h)) = absurd (let c : true ≡ false = sym k ∙ ap in_expressions l in cc)
in_place opens dot kind text rest k (template quoted e (quote l q h)) = absurd (let c : true ≡ false = sym k ∙ ap in_expressions l in cc)

abbrev LeavesExpression : Kind → List Opener → Type 0
LeavesExpression kind opens = (context (open_after kind opens) ≡ Expression) × (in_heredoc (open_after kind opens) ≡ in_heredoc opens)

grown_place : (opens : List Opener) (dot : Bool) (kind : Kind) (text rest : List ℕ) → grower kind ≡ true → Side opens dot kind text rest → LeavesExpression kind opens
grown_place opens dot Ident text rest g s = (in_place opens dot Ident text rest refl s, refl)
grown_place opens dot Number text rest g s = (in_place opens dot Number text rest refl s, refl)
grown_place opens dot Dot text rest g s = (in_place opens dot Dot text rest refl s, refl)
grown_place opens dot Colon text rest g s = (in_place opens dot Colon text rest refl s, refl)
grown_place opens dot Not text rest g s = (in_place opens dot Not text rest refl s, refl)
grown_place opens dot Assign text rest g s = (in_place opens dot Assign text rest refl s, refl)
grown_place opens dot Less text rest g s = (in_place opens dot Less text rest refl s, refl)
grown_place opens dot Greater text rest g s = (in_place opens dot Greater text rest refl s, refl)
grown_place opens dot Slash text rest g s = (in_place opens dot Slash text rest refl s, refl)
grown_place opens dot InterpOpen text rest g s = (refl, refl)
grown_place opens dot ControlOpen text rest g s = (refl, refl)
grown_place opens dot _ text rest g s = absurd (false≢true g)

-- ---- what is read in an expression outside heredocs
pub record ReadPlain (s : State) (t : Lexeme) : Type 0 where
  pub rest : List ℕ
  pub whole : t.text ++ rest ≡ ahead s
  pub is : IsExpressionText s.opens s.after_dot t.kind t.text rest
  pub in_expression : in_expressions t.kind ≡ true
  pub inside : t.inside_heredoc ≡ false

pub read_plain : (s : State) (t : Lexeme) (next : State) → context s.opens ≡ Expression → in_heredoc s.opens ≡ false → Next s t next → ReadPlain s t
read_plain s t next here plain step = ⊎_elim reads closes step
  where
    closes : Closes s t next → ReadPlain s t
    closes c = absurd (let e : in_heredoc s.opens ≡ true = ap in_heredoc c.top in cc)

    reads : Reads s t next → ReadPlain s t
    reads r = by (side s.opens s.after_dot t.kind t.text r.rest r.longest.spelled)
      where
        by : Side s.opens s.after_dot t.kind t.text r.rest → ReadPlain s t
        by (expression e k h) = record { rest = r.rest; whole = r.longest.whole; is = h; in_expression = k; inside = r.inside ∙ plain }
        by (template quoted e w) = absurd (not_both (context s.opens) quoted here e)

pub no_template : (kind : Kind) → in_expressions kind ≡ true → is_template kind ≡ false
no_template Lit h = absurd (cc)
no_template InterpOpen h = absurd (cc)
no_template ControlOpen h = absurd (cc)
no_template QuoteClose h = absurd (cc)
no_template HeredocClose h = absurd (cc)
no_template _ h = refl

no_touch : (kind : Kind) (t : Lexeme) → grower kind ≡ true → in_expressions t.kind ≡ true → t.inside_heredoc ≡ false → touches kind t ≡ false
no_touch LineComment t g k i = absurd (cc)
no_touch _ t g k i = λ j. no_template t.kind k j || i j

-- ---- a text that begins with a point
abbrev point_test : List ℕ → Kind → Bool
point_test t k = is Dot k || not (get_or t 0 0 == 46) || (nat_le 2 (length t) && not (is_ascii_digit (get_or t 1 0)))

points : (text : List ℕ) (kind : Kind) → IsPunctuation punctuation text kind → point_test text kind ≡ true
unfolding punctuation
points text kind is = mark_passes (λ t k. point_test t k) punctuation text kind refl is

no_fraction : (opens : List Opener) (dot : Bool) (kind : Kind) (text rest other : List ℕ) → IsExpressionText opens dot kind text rest → is Dot kind ≡ false → ((get_or (text ++ other) 0 0 == 46) && is_ascii_digit (get_or (text ++ other) 1 0)) ≡ false
no_fraction opens dot kind text rest other this no_dot = by (get_or (text ++ other) 0 0 == 46) refl
  where
    w : Ways opens dot kind text rest
    w = ways opens dot kind text rest this

    long : 0 < length text
    long = some opens dot kind text rest w

    first : get_or (text ++ other) 0 0 ≡ get_or text 0 0
    first = get_or_append_left text other 0 0 long

    two : (n d : ℕ) (c f : Bool) → c ≡ false → f ≡ true → (c || not f || (nat_le 2 n && not (is_ascii_digit d))) ≡ true → (2 ≤ n) × (is_ascii_digit d ≡ false)
    two n d true f h g k = absurd (cc)
    two n d false false h g k = absurd (cc)
    two n d false true h g k = let p = and_true (nat_le 2 n) (not (is_ascii_digit d)) k in (le n p.0, not_true (is_ascii_digit d) p.1)
      where
        le : (n : ℕ) → nat_le 2 n ≡ true → 2 ≤ n
        le n h = grind (arith, nat_tests)

    by : (v : Bool) → (get_or (text ++ other) 0 0 == 46) ≡ v → (v && is_ascii_digit (get_or (text ++ other) 1 0)) ≡ false
    by false e = refl
    by true e =
        let b : get_or text 0 0 ≡ 46 = sym first ∙ is_point (get_or (text ++ other) 0 0) e in
        let prefix : prefix_of text ≡ SignLead = ap (λ b. prefix_bytes b (get_or text 1 0)) b in
        let m = sign_mark opens dot kind text rest (sym (leads opens dot kind text rest w) ∙ prefix) w in
        let t = two (length text) (get_or text 1 0) (is Dot kind) (get_or text 0 0 == 46) no_dot (ap (λ c. c == 46) b) (points text kind m) in
        ap is_ascii_digit (get_or_append_left text other 0 1 t.0) ∙ t.1
      where
        is_point : (b : ℕ) → (b == 46) ≡ true → b ≡ 46
        is_point b h = grind (arith, nat_tests)

-- ---- a token that may grow, and a gap that fits after it
zero_grows : (kind : Kind) → grows kind 0 ≡ false
zero_grows Ident = refl
zero_grows Number = refl
zero_grows Dot = refl
zero_grows Colon = refl
zero_grows Not = refl
zero_grows Assign = refl
zero_grows Less = refl
zero_grows Greater = refl
zero_grows Slash = refl
zero_grows InterpOpen = refl
zero_grows ControlOpen = refl
zero_grows _ = refl

no_join : (g n d p x : Bool) → g ≡ false → p ≡ false → not (g || (n && d && p && x)) ≡ true
no_join true n d p x h k = absurd (cc)
no_join false true true true x h k = absurd (cc)
no_join false true true false x h k = refl
no_join false true false p x h k = refl
no_join false false d p x h k = refl

no_join_there : (g n d p x s : Bool) → not (g || (n && d && s)) ≡ true → (s ≡ false → (p && x) ≡ false) → not (g || (n && d && p && x)) ≡ true
no_join_there true n d p x s h f = cc
no_join_there false true true p x true h f = absurd (cc)
no_join_there false true true p x false h f = ap not (f refl)
no_join_there false true false p x s h f = refl
no_join_there false false d p x s h f = refl

fits_free : (v : Bool) (gap : ℕ) (j : Bool) → v ≡ false → cond v (gap == 0) (not (gap == 0) || not j) ≡ true → gap ≡ 0 → not j ≡ true
fits_free true gap j h k z = absurd (cc)
fits_free false gap j h k z = (λ i. not (sym z i == 0) || not j) ∙ k

keeps_front : (kind : Kind) (dot : Bool) (text more : List ℕ) (next : Kind) → 0 < length text → not (joins dot kind next text) ≡ true → (is Dot next ≡ false → ((get_or (text ++ more) 0 0 == 46) && is_ascii_digit (get_or (text ++ more) 1 0)) ≡ false) → not (joins_text dot kind (text ++ more)) ≡ true
keeps_front kind dot text more next some h f =
    no_join_there (grows kind (get_or (text ++ more) 0 0)) (is Number kind) (not dot) (get_or (text ++ more) 0 0 == 46) (is_ascii_digit (get_or (text ++ more) 1 0)) (is Dot next)
    ((λ i. not (grows kind (get_or_append_left text more 0 0 some i) || (is Number kind && not dot && is Dot next))) ∙ h) f

pub of_joins : (dot : Bool) (kind : Kind) (rest other : List ℕ) → grower kind ≡ true → not (joins_text dot kind other) ≡ true → stays dot kind rest other ≡ true
of_joins dot LineComment rest other g h = absurd (cc)
of_joins dot Lit rest other g h = absurd (cc)
of_joins dot kind rest other g h = h

module _ (s : State) (t : Lexeme) (next end : State) (r : Reads s t next) (plain : in_heredoc s.opens ≡ false) where
  pub growing_on : grower t.kind ≡ true → (ps : List (ℕ × Lexeme)) → Run next (without_gaps ps) end → AllFit s.after_dot t.kind ps → not (joins_text s.after_dot t.kind (text_with_gaps ps)) ≡ true
  growing_on g [] run parts = no_join (grows t.kind 0) (is Number t.kind) (not s.after_dot) false (is_ascii_digit 0) (zero_grows t.kind) refl
  growing_on g (p ∷ ps) run parts = by p.0 refl
    where
      at : LeavesExpression t.kind s.opens
      at = grown_place s.opens s.after_dot t.kind t.text r.rest g (side s.opens s.after_dot t.kind t.text r.rest r.longest.spelled)

      x : ReadPlain next p.1
      x = read_plain next p.1 run.0 (ap context r.opens ∙ at.0) (ap in_heredoc r.opens ∙ at.1 ∙ plain) run.1

      free : touches t.kind p.1 ≡ false
      free = no_touch t.kind p.1 g x.in_expression x.inside

      long : 0 < length p.1.text
      long = some next.opens next.after_dot p.1.kind p.1.text x.rest (ways next.opens next.after_dot p.1.kind p.1.text x.rest x.is)

      by : (gap : ℕ) → p.0 ≡ gap → not (joins_text s.after_dot t.kind (replicate p.0 32 ++ (p.1.text ++ text_with_gaps ps))) ≡ true
      by zero e = ap (λ n. not (joins_text s.after_dot t.kind (replicate n 32 ++ (p.1.text ++ text_with_gaps ps)))) e
          ∙ keeps_front t.kind s.after_dot p.1.text (text_with_gaps ps) p.1.kind long (fits_free (touches t.kind p.1) p.0 (joins s.after_dot t.kind p.1.kind p.1.text) free parts.0 e)
          (no_fraction next.opens next.after_dot p.1.kind p.1.text x.rest (text_with_gaps ps) x.is)
      by (suc gap) e = ap (λ n. not (joins_text s.after_dot t.kind (replicate n 32 ++ (p.1.text ++ text_with_gaps ps)))) e
          ∙ no_join (grows t.kind 32) (is Number t.kind) (not s.after_dot) false _ (blank_grows t.kind) refl
