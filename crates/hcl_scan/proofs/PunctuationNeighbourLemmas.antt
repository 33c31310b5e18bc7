-- Marks: no longer text begins there unless the next byte extends the mark.
use Rattle.std.proofs.Common.{◌≡◌, ℕ, suc, ◌<◌, ◌&&◌, ◌||◌, ◌==◌, not, Bool, true, false, cond, List, [], ◌∷◌, ◌++◌, length, drop, if◌then◌else◌, get_or, inl, inr, refl, sym, ap, ◌∙◌, arith, append_assoc}
use Rattle.std.specs.List.{list_all}
use Rattle.std.specs.Char.{is_ascii_digit}
use Rattle.std.specs.Prelude.{nat_le}
use Rattle.std.proofs.lemmas.Bool.Decides.{nat_tests}
use Rattle.std.proofs.lemmas.List.{get_or-append-add, append-nil}
use Rattle.hcl_tokens.specs.Lexemes.{Opener, in_heredoc}
use Rattle.hcl_tokens.specs.Spelling.{punctuation, IsPunctuation, IsNumber, starts}
use Rattle.hcl_tokens.specs.Neighbours.{grows}
use Rattle.hcl_tokens.specs.declared.token.Kind.{Kind}
use Rattle.hcl_tokens.specs.declared.token.Kind.TheVariants.{Ident, Number, Dot, Colon, Not, Assign, Less, Greater, Slash, InterpOpen, ControlOpen}
use Rattle.hcl_tokens.proofs.BooleanLemmas.{and_true}
use Rattle.hcl_scan.proofs.TextStartLemmas.{starts_so}
use Rattle.hcl_scan.proofs.NumeralLemmas.{digit_head}
use Rattle.hcl_scan.proofs.WayLemmas.{Ways, ways, newline, line_comment, inline_comment, blanks, ident, digits, number, heredoc, seq_close, brace_close, slash, mark, mark_passes}
use Rattle.hcl_scan.proofs.WordLemmas.{ident_word, begins_word}
use Rattle.hcl_scan.proofs.LongerTextLemmas.{Alone, Longer, longer_is}

-- A MARK: its first byte begins no word, number, comment, newline or closer
abbrev alone_first : List ℕ → Bool
alone_first text = let b = get_or text 0 0 in not (begins_word b) && not (is_ascii_digit b) && not ((b == 10) || (b == 13) || (b == 35) || (b == 47) || (b == 125) || (b == 126)) && not (length text == 0)

abbrev no_heredoc : List ℕ → Kind → Bool
no_heredoc text kind = not (get_or text 0 0 == 60) || (if length text == 1 then grows kind 60 else not (get_or text 1 0 == 60))

-- the table has the bytes that join two marks into one
abbrev no_pair : List ℕ → Kind → List ℕ → Bool
no_pair text kind longer = not (starts longer text) || nat_le (length longer) (length text) || grows kind (get_or longer (length text) 0)

mark_first : (text : List ℕ) (kind : Kind) → IsPunctuation punctuation text kind → alone_first text ≡ true
unfolding punctuation
mark_first text kind is = mark_passes (λ t _. alone_first t) punctuation text kind refl is

mark_heredoc : (text : List ℕ) (kind : Kind) → IsPunctuation punctuation text kind → no_heredoc text kind ≡ true
unfolding punctuation
mark_heredoc text kind is = mark_passes no_heredoc punctuation text kind refl is

all_pairs : List ℕ → Kind → Bool
unfolding punctuation
all_pairs text kind = list_all (λ m. no_pair text kind m.0) punctuation

mark_pairs : (text longer : List ℕ) (kind other : Kind) → IsPunctuation punctuation text kind → IsPunctuation punctuation longer other → no_pair text kind longer ≡ true
unfolding punctuation all_pairs
mark_pairs text longer kind other is is' = mark_passes (λ t _. no_pair text kind t) punctuation longer other (mark_passes all_pairs punctuation text kind refl is) is'

number_first : (text : List ℕ) → IsNumber text → is_ascii_digit (get_or text 0 0) ≡ true
number_first text is = ap (λ x. is_ascii_digit (get_or x 0 0)) (is.6 ∙ append_assoc is.0 is.1 is.2) ∙ digit_head is.0 (is.1 ++ is.2) is.3

abbrev pub stops_mark : Kind → List ℕ → Bool
stops_mark kind [] = true
stops_mark kind (b ∷ bs) = not (grows kind b)

abbrev alone_byte : ℕ → Bool
alone_byte b = not (begins_word b) && not (is_ascii_digit b) && not ((b == 10) || (b == 13) || (b == 35) || (b == 47) || (b == 125) || (b == 126))

grown_by : (kind : Kind) (bs left : List ℕ) → 0 < length bs → grows kind (get_or bs 0 0) ≡ true → stops_mark kind (bs ++ left) ≡ true → ⊥
grown_by kind [] left some h k = omega arith
grown_by kind (b ∷ bs) left some h k = let clash : not true ≡ true = ap not (sym h) ∙ k in cc

front_byte : (text bs : List ℕ) → 0 < length text → get_or (text ++ bs) 0 0 ≡ get_or text 0 0
front_byte [] bs some = absurd (omega arith)
front_byte (b ∷ text) bs some = refl

seam_byte : (text bs : List ℕ) → get_or (text ++ bs) (length text) 0 ≡ get_or bs 0 0
seam_byte text bs = ap (λ n. get_or (text ++ bs) n 0) (omega arith) ∙ get_or-append-add text bs 0 0

no_byte : (b c : ℕ) → alone_byte b ≡ true → b ≡ c → alone_byte c ≡ false → ⊥
no_byte b c h e k = let clash : true ≡ false = sym h ∙ ap alone_byte e ∙ k in cc

comment_byte : (text : List ℕ) → (starts text (35 ∷ []) || starts text (47 ∷ 47 ∷ [])) ≡ true → alone_byte (get_or text 0 0) ≡ false
comment_byte [] h = absurd (cc)
comment_byte (b ∷ text) h = by (starts text []) (starts text (47 ∷ [])) h
  where
    by : (x y : Bool) → (((b == 35) && x) || ((b == 47) && y)) ≡ true → alone_byte b ≡ false
    by x y h = grind (arith, nat_tests)

word_byte : (b : ℕ) → begins_word b ≡ true → alone_byte b ≡ false
word_byte b h = λ i. not (h i) && not (is_ascii_digit b) && not ((b == 10) || (b == 13) || (b == 35) || (b == 47) || (b == 125) || (b == 126))

digit_byte : (b : ℕ) → is_ascii_digit b ≡ true → alone_byte b ≡ false
digit_byte b h = let p : begins_word b ≡ false = grind (arith, nat_tests) in λ i. not (p i) && not (h i) && not ((b == 10) || (b == 13) || (b == 35) || (b == 47) || (b == 125) || (b == 126))

le_false : (a b : ℕ) → b < a → nat_le a b ≡ false
le_false a b h = grind (arith, nat_tests)

heredoc_grows : (kind : Kind) (text bs tail : List ℕ) → text ++ bs ≡ 60 ∷ 60 ∷ tail → 0 < length text → no_heredoc text kind ≡ true → grows kind (get_or bs 0 0) ≡ true
heredoc_grows kind [] bs tail e some h = absurd (omega arith)
heredoc_grows kind (b ∷ []) bs tail e some h =
    let first : b ≡ 60 = ap (λ l. get_or l 0 0) e in
    let second : get_or bs 0 0 ≡ 60 = ap (λ l. get_or (drop 1 l) 0 0) e in
    ap (grows kind) second ∙ (λ i. not (sym first i == 60) || grows kind 60) ∙ h
heredoc_grows kind (b ∷ c ∷ text) bs tail e some h =
    let first : b ≡ 60 = ap (λ l. get_or l 0 0) e in
    let second : c ≡ 60 = ap (λ l. get_or l 1 0) e in
    let two : (length (b ∷ c ∷ text) == 1) ≡ false = not_one (length text) in
    let clash : false ≡ true = (λ i. not (sym first i == 60) || cond (sym two i) (grows kind 60) (not (sym second i == 60))) ∙ h in
    absurd (cc)
  where
    not_one : (n : ℕ) → (suc (suc n) == 1) ≡ false
    not_one n = grind (arith, nat_tests)

-- A MARK stays the longest if the table says so
pub mark_alone : (opens : List Opener) (dot : Bool) (kind : Kind) (text rest : List ℕ) → in_heredoc opens ≡ false → IsPunctuation punctuation text kind → stops_mark kind rest ≡ true → Alone opens dot text rest
mark_alone opens dot kind text rest plain is stop other longer left e lt h = by (ways opens dot other longer left h)
  where
    more : Longer text rest longer left
    more = longer_is text rest longer left e lt

    stop' : stops_mark kind (more.bs ++ left) ≡ true
    stop' = ap (stops_mark kind) more.after ∙ stop

    parts : (alone_byte (get_or text 0 0) ≡ true) × (not (length text == 0) ≡ true)
    parts = and_true (alone_byte (get_or text 0 0)) (not (length text == 0)) (mark_first text kind is)

    nonempty : (n : ℕ) → not (n == 0) ≡ true → 0 < n
    nonempty n k = grind (arith, nat_tests)

    some : 0 < length text
    some = nonempty (length text) parts.1

    -- the first byte of the longer text
    byte : get_or text 0 0 ≡ get_or longer 0 0
    byte = sym (front_byte text more.bs some) ∙ ap (λ l. get_or l 0 0) (sym more.whole)

    never : (c : ℕ) → get_or longer 0 0 ≡ c → alone_byte c ≡ false → ⊥
    never c f k = no_byte (get_or text 0 0) c parts.0 (byte ∙ f) k

    by : Ways opens dot other longer left → ⊥
    by (newline k (inl f)) = never 10 (ap (λ l. get_or l 0 0) f) refl
    by (newline k (inr f)) = never 13 (ap (λ l. get_or l 0 0) f) refl
    by (line_comment k x) = never (get_or longer 0 0) refl (comment_byte longer x.0)
    by (inline_comment k x) = never 47 (ap (λ l. get_or l 0 0) x.1) refl
    by (blanks k x y) = absurd (cc)
    by (ident k x) = let w = ident_word longer x in never w.first (ap (λ l. get_or l 0 0) w.whole) (word_byte w.first w.begins)
    by (digits k d x) = never (get_or longer 0 0) refl (digit_byte (get_or longer 0 0) (ap (λ l. is_ascii_digit (get_or l 0 0)) (sym (append-nil longer)) ∙ digit_head longer [] x))
    by (number k d x) = never (get_or longer 0 0) refl (digit_byte (get_or longer 0 0) (number_first longer x))
    by (heredoc k x) = grown_by kind more.bs left more.some (heredoc_grows kind text more.bs _ (sym more.whole ∙ x.6) some (mark_heredoc text kind is)) stop'
    by (seq_close k c (inl f)) = never 125 (ap (λ l. get_or l 0 0) f) refl
    by (seq_close k c (inr f)) = never 126 (ap (λ l. get_or l 0 0) f) refl
    by (brace_close k c f) = never 125 (ap (λ l. get_or l 0 0) f) refl
    by (slash k f c) = never 47 (ap (λ l. get_or l 0 0) f) refl
    by (mark x) =
        let pair = mark_pairs text longer kind other is x in
        let starts_is : starts longer text ≡ true = ap (λ l. starts l text) more.whole ∙ starts_so text more.bs in
        let seam : get_or longer (length text) 0 ≡ get_or more.bs 0 0 = ap (λ l. get_or l (length text) 0) more.whole ∙ seam_byte text more.bs in
        let not_le : nat_le (length longer) (length text) ≡ false = le_false (length longer) (length text) lt in
        grown_by kind more.bs left more.some ((λ i. not (sym starts_is i) || sym not_le i || grows kind (sym seam i)) ∙ pair) stop'

pub blank_grows : (kind : Kind) → grows kind 32 ≡ false
blank_grows Ident = refl
blank_grows Number = refl
blank_grows Dot = refl
blank_grows Colon = refl
blank_grows Not = refl
blank_grows Assign = refl
blank_grows Less = refl
blank_grows Greater = refl
blank_grows Slash = refl
blank_grows InterpOpen = refl
blank_grows ControlOpen = refl
blank_grows _ = refl
