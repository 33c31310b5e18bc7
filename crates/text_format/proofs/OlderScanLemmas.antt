-- A text scanned by the earlier tables is scanned to the same tokens, if no colon follows another: at two colons in the
-- text, the earlier tables read one, and then the other.
use Rattle.std.proofs.Common.{◌≡◌, ◌≢◌, ℕ, ◌<◌, ◌&&◌, ◌||◌, ◌==◌, not, Bool, true, false, cond, List, [], ◌∷◌, ◌++◌, length, drop, get_or, inl, inr, ⊎_elim, refl, sym, ap, subst, ◌∙◌, arith, append_assoc}
use Rattle.std.specs.Char.{is_ascii_digit}
use Rattle.std.specs.List.{list_all, prefix_len}
use Rattle.std.proofs.lemmas.List.{append-nil}
use Rattle.std.proofs.lemmas.Bool.Decides.{nat_tests}
use Rattle.std.proofs.lemmas.Bool.{false≢true}
use Rattle.hcl_tokens.specs.Lexemes.{Lexeme, Opener, in_heredoc, open_after}
use Rattle.hcl_tokens.specs.Spelling.{punctuation, IsPunctuation, IsSpelling, IsExpressionText, context, Expression, is_blank, starts}
use Rattle.hcl_tokens.specs.Scans.{State, begin, ahead, gap_in, has_gaps_in, Leaves, Reads, Closes, Run, IsComplete, Scans}
use Rattle.hcl_tokens.specs.declared.token.Kind.{Kind}
use Rattle.hcl_tokens.specs.declared.token.Kind.TheVariants as kind
use Rattle.hcl_tokens.proofs.BooleanLemmas.{and_true, or_cases}
use Rattle.hcl_scan.proofs.CommentTextLemmas.{starts_split}
use Rattle.hcl_scan.proofs.ContextLemmas.{not_both}
use Rattle.hcl_scan.proofs.NumeralLemmas.{digit_head}
use Rattle.hcl_scan.proofs.PrefixLemmas.{some}
use Rattle.hcl_scan.proofs.KindPlaceLemmas.{Side, expression, template, side}
use Rattle.hcl_scan.proofs.TemplateLemmas.{Way, lit, interp, control, quote}
use Rattle.hcl_scan.proofs.WordLemmas.{begins_word, ident_word}
use Rattle.hcl_scan.proofs.WayLemmas.{Ways, ways, newline, line_comment, inline_comment, blanks, ident, digits, number, heredoc, seq_close, brace_close, slash, mark, mark_passes}
use Rattle.hcl_tokens.specs.Kinds.{is}
use Rattle.text_format.specs.Older.Tokens.{WasSpelling, WasRead, WasRun, WasScanned}

abbrev pub starts_colon : List Lexeme → Bool
starts_colon [] = false
starts_colon (t ∷ ts) = is kind.Colon t.kind

-- no Colon follows another
abbrev pub Apart : List Lexeme → Type 0
Apart [] = Unit {0}
Apart (t ∷ ts) = (is kind.Colon t.kind ≡ true → starts_colon ts ≡ false) × Apart ts

-- no ColonColon
abbrev pub Older : List Lexeme → Type 0
Older [] = Unit {0}
Older (t ∷ ts) = (t.kind ≢ kind.ColonColon) × Older ts

pub colon_colon_is : (k : Kind) → is kind.ColonColon k ≡ true → k ≡ kind.ColonColon
colon_colon_is kind.ColonColon h = refl
colon_colon_is _ h = absurd (false≢true h)

-- a text that begins with `:`
abbrev pub is_coloned : Kind → Bool
is_coloned k = is kind.Colon k || is kind.ColonColon k

pub coloned_is : (k : Kind) → is_coloned k ≡ true → (k ≢ kind.ColonColon) → k ≡ kind.Colon
coloned_is kind.Colon h n = refl
coloned_is kind.ColonColon h n = absurd (n refl)
coloned_is _ h n = absurd (false≢true h)

-- ---- a text that begins with a colon
abbrev colon_test : List ℕ → Kind → Bool
colon_test t k = not (get_or t 0 0 == 58) || is_coloned k

colon_marks : (text : List ℕ) (k : Kind) → IsPunctuation punctuation text k → colon_test text k ≡ true
unfolding punctuation
colon_marks text k is = mark_passes (λ t k. colon_test t k) punctuation text k refl is

front_byte : (text bs : List ℕ) → 0 < length text → get_or (text ++ bs) 0 0 ≡ get_or text 0 0
front_byte [] bs h = absurd (omega arith)
front_byte (b ∷ text) bs h = refl

differs : (text : List ℕ) (c : ℕ) → get_or text 0 0 ≡ c → get_or text 0 0 ≡ 58 → (c == 58) ≡ false → ⊥
differs text c e f n = let k : true ≡ false = ap (λ x. x == 58) (sym f ∙ e) ∙ n in cc

blank_byte : (text : List ℕ) → 0 < length text → list_all is_blank text ≡ true → is_blank (get_or text 0 0) ≡ true
blank_byte [] some h = absurd (omega arith)
blank_byte (b ∷ text) some h = (and_true (is_blank b) (list_all is_blank text) h).0

no_digit : (text : List ℕ) → is_ascii_digit (get_or text 0 0) ≡ true → get_or text 0 0 ≡ 58 → ⊥
no_digit text h f = let k : true ≡ false = sym h ∙ ap is_ascii_digit f in cc

-- a token of an expression that begins with `:` is a Colon or a ColonColon
colon_ways : (opens : List Opener) (dot : Bool) (k : Kind) (text rest : List ℕ) → Ways opens dot k text rest → get_or text 0 0 ≡ 58 → is_coloned k ≡ true
colon_ways opens dot k text rest (newline e (inl x)) f = absurd (differs text 10 (ap (λ l. get_or l 0 0) x) f refl)
colon_ways opens dot k text rest (newline e (inr x)) f = absurd (differs text 13 (ap (λ l. get_or l 0 0) x) f refl)
colon_ways opens dot k text rest (line_comment e x) f = absurd (⊎_elim
    (λ a. differs text 35 (ap (λ l. get_or l 0 0) (starts_split text (35 ∷ []) a).1) f refl)
    (λ b. differs text 47 (ap (λ l. get_or l 0 0) (starts_split text (47 ∷ 47 ∷ []) b).1) f refl)
    (or_cases (starts text (35 ∷ [])) (starts text (47 ∷ 47 ∷ [])) x.0))
colon_ways opens dot k text rest (inline_comment e x) f = absurd (differs text 47 (ap (λ l. get_or l 0 0) x.1) f refl)
colon_ways opens dot k text rest (blanks e h x) f = absurd (let c : true ≡ false = sym (blank_byte text x.0 x.1) ∙ ap is_blank f in cc)
colon_ways opens dot k text rest (ident e x) f = absurd (let w = ident_word text x in let c : true ≡ false = sym w.begins ∙ ap begins_word (sym (ap (λ l. get_or l 0 0) w.whole) ∙ f) in cc)
colon_ways opens dot k text rest (digits e h x) f = absurd (no_digit text (ap (λ l. is_ascii_digit (get_or l 0 0)) (sym (append-nil text)) ∙ digit_head text [] x) f)
colon_ways opens dot k text rest (number e h x) f = absurd (no_digit text (ap (λ l. is_ascii_digit (get_or l 0 0)) (x.6 ∙ append_assoc x.0 x.1 x.2) ∙ digit_head x.0 (x.1 ++ x.2) x.3) f)
colon_ways opens dot k text rest (heredoc e x) f = absurd (differs text 60 (ap (λ l. get_or l 0 0) x.6) f refl)
colon_ways opens dot k text rest (seq_close e h (inl x)) f = absurd (differs text 125 (ap (λ l. get_or l 0 0) x) f refl)
colon_ways opens dot k text rest (seq_close e h (inr x)) f = absurd (differs text 126 (ap (λ l. get_or l 0 0) x) f refl)
colon_ways opens dot k text rest (brace_close e h x) f = absurd (differs text 125 (ap (λ l. get_or l 0 0) x) f refl)
colon_ways opens dot k text rest (slash e x h) f = absurd (differs text 47 (ap (λ l. get_or l 0 0) x) f refl)
colon_ways opens dot k text rest (mark x) f = (λ i. not (sym f i == 58) || is_coloned k) ∙ colon_marks text k x

colon_expression : (opens : List Opener) (dot : Bool) (k : Kind) (text rest tail : List ℕ) → IsExpressionText opens dot k text rest → text ++ rest ≡ 58 ∷ tail → is_coloned k ≡ true
colon_expression opens dot k text rest tail is e =
    let w = ways opens dot k text rest is in
    colon_ways opens dot k text rest w (sym (front_byte text rest (some opens dot k text rest w)) ∙ ap (λ l. get_or l 0 0) e)

long_there : (opens : List Opener) (dot : Bool) (k : Kind) (text rest : List ℕ) → context opens ≡ Expression → IsSpelling opens dot k text rest → 0 < length text
long_there opens dot k text rest c is = by (side opens dot k text rest is)
  where
    by : Side opens dot k text rest → 0 < length text
    by (expression x y h) = some opens dot k text rest (ways opens dot k text rest h)
    by (template quoted x w) = absurd (not_both (context opens) quoted c x)

-- the token that was read there was a Colon
was_colon : (opens : List Opener) (dot : Bool) (k : Kind) (text rest tail : List ℕ) → context opens ≡ Expression → WasSpelling opens dot k text rest → text ++ rest ≡ 58 ∷ tail → k ≡ kind.Colon
was_colon opens dot k text rest tail c was e = coloned_is k (by (side opens dot k text rest was.1)) was.0
  where
    by : Side opens dot k text rest → is_coloned k ≡ true
    by (expression x y h) = colon_expression opens dot k text rest tail h e
    by (template quoted x w) = absurd (not_both (context opens) quoted c x)

-- ---- the text of a ColonColon
abbrev are_two : List ℕ → Bool
are_two (a ∷ b ∷ []) = (a == 58) && (b == 58)
are_two _ = false

abbrev two_test : List ℕ → Kind → Bool
two_test t k = not (is kind.ColonColon k) || are_two t

two_marks : (text : List ℕ) (k : Kind) → IsPunctuation punctuation text k → two_test text k ≡ true
unfolding punctuation
two_marks text k is = mark_passes (λ t k. two_test t k) punctuation text k refl is

two_is : (text : List ℕ) → are_two text ≡ true → text ≡ 58 ∷ 58 ∷ []
two_is [] h = absurd (cc)
two_is (a ∷ []) h = absurd (cc)
two_is (a ∷ b ∷ []) h = let p = and_true (a == 58) (b == 58) h in λ i. same a p.0 i ∷ same b p.1 i ∷ []
  where
    same : (b : ℕ) → (b == 58) ≡ true → b ≡ 58
    same b h = grind (arith, nat_tests)
two_is (a ∷ b ∷ c ∷ text) h = absurd (cc)

two_colons : (opens : List Opener) (dot : Bool) (text rest : List ℕ) → IsSpelling opens dot kind.ColonColon text rest → (context opens ≡ Expression) × (text ≡ 58 ∷ 58 ∷ [])
two_colons opens dot text rest is = by (side opens dot kind.ColonColon text rest is)
  where
    by : Side opens dot kind.ColonColon text rest → (context opens ≡ Expression) × (text ≡ 58 ∷ 58 ∷ [])
    by (expression x y h) = (x, two_is text (two_marks text kind.ColonColon h))
    by (template quoted x w) = absurd (no_sign quoted w)
      where
        no_sign : (quoted : Bool) → Way quoted kind.ColonColon text rest → ⊥
        no_sign quoted (lit k h) = cc
        no_sign quoted (interp k h) = cc
        no_sign quoted (control k h) = cc
        no_sign quoted (quote k q h) = cc

-- ---- two colons ahead
one_byte : (text rest : List ℕ) (a b : ℕ) (tail : List ℕ) → text ++ rest ≡ a ∷ b ∷ tail → 0 < length text → length text < 2 → rest ≡ b ∷ tail
one_byte [] rest a b tail e some few = absurd (omega arith)
one_byte (x ∷ []) rest a b tail e some few = ap (λ l. drop 1 l) e
one_byte (x ∷ y ∷ text) rest a b tail e some few = absurd (omega (arith, few))

no_gap : (opens : List Opener) (seen tail : List ℕ) → seen ≡ 58 ∷ tail → drop (gap_in opens seen) seen ≡ 58 ∷ tail
no_gap opens seen tail e = ap (λ l. drop (gap_in opens l) l) e ∙ by (has_gaps_in (context opens) (in_heredoc opens))
  where
    by : (v : Bool) → drop (cond v (prefix_len is_blank (58 ∷ tail)) 0) (58 ∷ tail) ≡ 58 ∷ tail
    by true = refl
    by false = refl

module _ (s : State) (t : Lexeme) (next end : State) (ts : List Lexeme) (r : WasRead s t next) (run : WasRun next ts end) (done : IsComplete end) (disjoint : is kind.Colon t.kind ≡ true → starts_colon ts ≡ false) where
  -- the earlier tables have read one colon, and the other is next
  not_two : (left : List ℕ) → ahead s ≡ 58 ∷ 58 ∷ left → context s.opens ≡ Expression → length t.text < 2 → ⊥
  not_two left e c few = by ts run disjoint
    where
      whole : t.text ++ r.rest ≡ 58 ∷ 58 ∷ left
      whole = r.longest.whole ∙ e

      long : 0 < length t.text
      long = long_there s.opens s.after_dot t.kind t.text r.rest c r.longest.spelled.1

      colon : t.kind ≡ kind.Colon
      colon = was_colon s.opens s.after_dot t.kind t.text r.rest (58 ∷ left) c r.longest.spelled whole

      opens_same : next.opens ≡ s.opens
      opens_same = r.opens ∙ ap (λ (z : Kind). open_after z s.opens) colon

      seen_is : next.seen ≡ 58 ∷ left
      seen_is = (subst (λ (z : Kind). Leaves z t.text r.rest s.hidden next.seen next.hidden) colon r.leaves).0 ∙ one_byte t.text r.rest 58 58 left whole long few

      ahead_is : ahead next ≡ 58 ∷ left
      ahead_is = no_gap next.opens next.seen left seen_is

      by : (ts : List Lexeme) → WasRun next ts end → (is kind.Colon t.kind ≡ true → starts_colon ts ≡ false) → ⊥
      by [] run disjoint = let e : [] ≡ 58 ∷ left = sym done.0 ∙ ap ahead (sym run) ∙ ahead_is in cc
      by (u ∷ us) run disjoint = ⊎_elim reads closes run.1
        where
          reads : WasRead next u run.0 → ⊥
          reads x =
              let k = was_colon next.opens next.after_dot u.kind u.text x.rest left (ap context opens_same ∙ c) x.longest.spelled (x.longest.whole ∙ ahead_is) in
              let f : true ≡ false = sym (ap (is kind.Colon) k) ∙ disjoint (ap (is kind.Colon) colon) in cc

          closes : Closes next u run.0 → ⊥
          closes x = let f : [] ≡ 58 ∷ left = sym x.read ∙ seen_is in cc

  longest_too : (other : Kind) (longer left : List ℕ) → longer ++ left ≡ ahead s → length t.text < length longer → IsSpelling s.opens s.after_dot other longer left → ⊥
  longest_too other longer left e lt this = by (is kind.ColonColon other) refl
    where
      by : (v : Bool) → is kind.ColonColon other ≡ v → ⊥
      by false f = r.longest.longest other longer left e lt ((λ k. let g : true ≡ false = sym (ap (is kind.ColonColon) k) ∙ f in cc), this)
      by true f =
          let k = colon_colon_is other f in
          let two = two_colons s.opens s.after_dot longer left (subst (λ (z : Kind). IsSpelling s.opens s.after_dot z longer left) k this) in
          not_two left (sym e ∙ ap (λ l. l ++ left) two.1) two.0 (subst (λ (n : List ℕ). length t.text < length n) two.1 lt)

  pub read_too : Reads s t next
  read_too = record {
    rest = r.rest;
    longest = record { whole = r.longest.whole; spelled = r.longest.spelled.1; longest = longest_too };
    start = r.start;
    inside = r.inside;
    at = r.at;
    opens = r.opens;
    offsets = r.offsets;
    room = r.room;
    after_dot = r.after_dot;
    leaves = r.leaves;
  }

-- ---- a whole list
run_too : (ts : List Lexeme) (s end : State) → WasRun s ts end → IsComplete end → Apart ts → Run s ts end
run_too [] s end run done disjoint = run
run_too (t ∷ ts) s end run done disjoint =
    (run.0, ⊎_elim (λ r. inl (read_too s t run.0 end ts r run.2 done disjoint.0)) (λ c. inr c) run.1, run_too ts run.0 end run.2 done disjoint.1)

pub scanned_too : (text : List ℕ) (ts : List Lexeme) → WasScanned text ts → Apart ts → Scans text ts
scanned_too text ts was disjoint = (was.0, run_too ts (begin text) was.0 was.1 was.2 disjoint, was.2)

run_older : (ts : List Lexeme) (s end : State) → WasRun s ts end → Older ts
run_older [] s end run = tt
run_older (t ∷ ts) s end run = (⊎_elim (λ r. r.longest.spelled.0) (λ c k. let f = sym c.kind ∙ k in cc) run.1, run_older ts run.0 end run.2)

pub scanned_older : (text : List ℕ) (ts : List Lexeme) → WasScanned text ts → Older ts
scanned_older text ts was = run_older ts (begin text) was.0 was.1
