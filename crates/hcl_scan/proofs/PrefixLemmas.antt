-- The kinds of a token of an expression by its first two bytes.
use Rattle.std.proofs.Common.{◌≡◌, ℕ, ◌<◌, ◌&&◌, ◌||◌, ◌==◌, Bool, true, false, cond, List, [], ◌∷◌, ◌++◌, length, get_or, ◌⊎◌, inl, inr, ⊎_elim, refl, sym, ap, ◌∙◌, arith, length-append, append_assoc}
use Rattle.std.specs.List.{list_all}
use Rattle.std.specs.Char.{is_ascii_digit}
use Rattle.std.proofs.lemmas.Bool.Decides.{nat_tests}
use Rattle.std.proofs.lemmas.List.{append-nil}
use Rattle.std.proofs.lemmas.Bool.{false≢true}
use Rattle.hcl_tokens.specs.Lexemes.{Opener}
use Rattle.hcl_tokens.specs.Spelling.{punctuation, IsPunctuation, IsDigits, is_blank, starts}
use Rattle.hcl_scan.specs.Inner.Prefixes.{prefix_of, prefix_bytes, slash_prefix}
use Rattle.hcl_tokens.specs.SideBySide.{may_begin_ident}
use Rattle.hcl_scan.specs.declared.front.Prefix.{Prefix}
use Rattle.hcl_scan.specs.declared.front.Prefix.TheVariants.{LineEnd, Space, Letter, Digit, HashOrSlashes, SlashStar, OneSlash, LessLess, Closer, Sign}
use Rattle.hcl_tokens.specs.declared.token.Kind.{Kind}
use Rattle.hcl_tokens.specs.declared.token.Kind.TheVariants.{Newline, LineComment, InlineComment, Blank, Ident, Number, HeredocOpen, SeqClose, BraceClose, Slash}
use Rattle.hcl_tokens.proofs.BooleanLemmas.{and_true, or_cases}
use Rattle.hcl_scan.proofs.WordLemmas.{ident_word}
use Rattle.hcl_scan.proofs.WayLemmas.{Ways, newline, line_comment, inline_comment, blanks, ident, digits, number, heredoc, seq_close, brace_close, slash, mark, mark_passes}
use Rattle.hcl_scan.proofs.NumeralLemmas.{digit_head}
use Rattle.hcl_scan.proofs.CommentTextLemmas.{starts_split}

-- how the texts of each kind begin
abbrev pub kind_lead : Kind → Prefix
kind_lead Newline = LineEnd
kind_lead Blank = Space
kind_lead Ident = Letter
kind_lead Number = Digit
kind_lead LineComment = HashOrSlashes
kind_lead InlineComment = SlashStar
kind_lead Slash = OneSlash
kind_lead HeredocOpen = LessLess
kind_lead SeqClose = Closer
kind_lead BraceClose = Closer
kind_lead _ = Sign

abbrev rank : Prefix → ℕ
rank LineEnd = 0
rank Space = 1
rank Letter = 2
rank Digit = 3
rank HashOrSlashes = 4
rank SlashStar = 5
rank OneSlash = 6
rank LessLess = 7
rank Closer = 8
rank Sign = 9

-- whether the second is the first, by computation
abbrev is_lead : Prefix → Prefix → Bool
is_lead l m = rank l == rank m

is_sign_lead : Prefix → Bool
is_sign_lead Sign = true
is_sign_lead _ = false

sign_is : (l : Prefix) → is_sign_lead l ≡ true → l ≡ Sign
unfolding is_sign_lead
sign_is Sign h = refl
sign_is _ h = absurd (false≢true h)

mark_leads : (text : List ℕ) (kind : Kind) → IsPunctuation punctuation text kind → (is_sign_lead (prefix_of text) && is_sign_lead (kind_lead kind)) ≡ true
unfolding punctuation is_sign_lead
mark_leads text kind is = mark_passes (λ t k. is_sign_lead (prefix_of t) && is_sign_lead (kind_lead k)) punctuation text kind refl is

pub letter_leads : (b second : ℕ) → may_begin_ident b ≡ true → prefix_bytes b second ≡ Letter
letter_leads b second h = rw h refl

pub letter_begins : (b second : ℕ) → prefix_bytes b second ≡ Letter → may_begin_ident b ≡ true
letter_begins b second h = by (may_begin_ident b) (is_ascii_digit b) ((b == 10) || (b == 13)) (is_blank b) (b == 35) (b == 47) (second == 47) (second == 42) ((b == 60) && (second == 60)) ((b == 125) || (b == 126)) h
  where
    by : (a d l s f g v w m i : Bool) → cond a Letter (cond d Digit (cond l LineEnd (cond s Space (cond f HashOrSlashes (cond g (cond v HashOrSlashes (cond w SlashStar OneSlash)) (cond m LessLess (cond i Closer Sign))))))) ≡ Letter → a ≡ true
    by true d l s f g v w m i h = refl
    by false true l s f g v w m i h = absurd (cc)
    by false false true s f g v w m i h = absurd (cc)
    by false false false true f g v w m i h = absurd (cc)
    by false false false false true g v w m i h = absurd (cc)
    by false false false false false true true w m i h = absurd (cc)
    by false false false false false true false true m i h = absurd (cc)
    by false false false false false true false false m i h = absurd (cc)
    by false false false false false false v w true i h = absurd (cc)
    by false false false false false false v w false true h = absurd (cc)
    by false false false false false false v w false false h = absurd (cc)

pub digit_leads : (b second : ℕ) → is_ascii_digit b ≡ true → prefix_bytes b second ≡ Digit
digit_leads b second h = let no : may_begin_ident b ≡ false = grind (arith, nat_tests) in rw (no, h) refl

pub blank_leads : (b second : ℕ) → is_blank b ≡ true → prefix_bytes b second ≡ Space
blank_leads b second h =
    let no : may_begin_ident b ≡ false = grind (arith, nat_tests) in
    let digit : is_ascii_digit b ≡ false = grind (arith, nat_tests) in
    let line : ((b == 10) || (b == 13)) ≡ false = grind (arith, nat_tests) in
    rw (no, digit, line, h) refl

pub newline_leads : (b second : ℕ) → ((b == 10) || (b == 13)) ≡ true → prefix_bytes b second ≡ LineEnd
newline_leads b second h =
    let no : may_begin_ident b ≡ false = grind (arith, nat_tests) in
    let digit : is_ascii_digit b ≡ false = grind (arith, nat_tests) in
    rw (no, digit, h) refl

blanks_lead : (text : List ℕ) → 0 < length text → list_all is_blank text ≡ true → prefix_of text ≡ Space
blanks_lead [] some h = absurd (omega arith)
blanks_lead (b ∷ text) some h = blank_leads b (get_or (b ∷ text) 1 0) (and_true (is_blank b) (list_all is_blank text) h).0

pub digits_lead : (text after : List ℕ) → IsDigits text → prefix_of (text ++ after) ≡ Digit
digits_lead text after is = digit_leads (get_or (text ++ after) 0 0) (get_or (text ++ after) 1 0) (digit_head text after is)

word_lead : (text more : List ℕ) (b : ℕ) → text ≡ b ∷ more → may_begin_ident b ≡ true → prefix_of text ≡ Letter
word_lead text more b e h = ap prefix_of e ∙ letter_leads b (get_or (b ∷ more) 1 0) h

pub line_lead : (text : List ℕ) → (starts text (35 ∷ []) || starts text (47 ∷ 47 ∷ [])) ≡ true → prefix_of text ≡ HashOrSlashes
line_lead text h = ⊎_elim
    (λ a. ap prefix_of (starts_split text (35 ∷ []) a).1)
    (λ b. ap prefix_of (starts_split text (47 ∷ 47 ∷ []) b).1)
    (or_cases (starts text (35 ∷ [])) (starts text (47 ∷ 47 ∷ [])) h)

-- THE LAW: a token begins as its kind does
pub leads : (opens : List Opener) (dot : Bool) (kind : Kind) (text rest : List ℕ) → Ways opens dot kind text rest → prefix_of text ≡ kind_lead kind
leads opens dot kind text rest (newline k (inl e)) = ap prefix_of e ∙ ap kind_lead (sym k)
leads opens dot kind text rest (newline k (inr e)) = ap prefix_of e ∙ ap kind_lead (sym k)
leads opens dot kind text rest (line_comment k is) = line_lead text is.0 ∙ ap kind_lead (sym k)
leads opens dot kind text rest (inline_comment k is) = ap prefix_of is.1 ∙ ap kind_lead (sym k)
leads opens dot kind text rest (blanks k h is) = blanks_lead text is.0 is.1 ∙ ap kind_lead (sym k)
leads opens dot kind text rest (ident k is) = let w = ident_word text is in word_lead text w.more w.first w.whole w.begins ∙ ap kind_lead (sym k)
leads opens dot kind text rest (digits k h is) = sym (ap prefix_of (append-nil text)) ∙ digits_lead text [] is ∙ ap kind_lead (sym k)
leads opens dot kind text rest (number k h is) = ap prefix_of (is.6 ∙ append_assoc is.0 is.1 is.2) ∙ digits_lead is.0 (is.1 ++ is.2) is.3 ∙ ap kind_lead (sym k)
leads opens dot kind text rest (heredoc k is) = ap prefix_of is.6 ∙ ap kind_lead (sym k)
leads opens dot kind text rest (seq_close k h (inl e)) = ap prefix_of e ∙ ap kind_lead (sym k)
leads opens dot kind text rest (seq_close k h (inr e)) = ap prefix_of e ∙ ap kind_lead (sym k)
leads opens dot kind text rest (brace_close k h e) = ap prefix_of e ∙ ap kind_lead (sym k)
leads opens dot kind text rest (slash k e h) = ap prefix_of e ∙ ap kind_lead (sym k)
leads opens dot kind text rest (mark is) =
    let both = and_true (is_sign_lead (prefix_of text)) (is_sign_lead (kind_lead kind)) (mark_leads text kind is) in
    sign_is (prefix_of text) both.0 ∙ sym (sign_is (kind_lead kind) both.1)

pub mark_lead : (text : List ℕ) (kind : Kind) → IsPunctuation punctuation text kind → kind_lead kind ≡ Sign
mark_lead text kind is = sign_is (kind_lead kind) (and_true (is_sign_lead (prefix_of text)) (is_sign_lead (kind_lead kind)) (mark_leads text kind is)).1

-- no token is empty
pub some : (opens : List Opener) (dot : Bool) (kind : Kind) (text rest : List ℕ) → Ways opens dot kind text rest → 0 < length text
unfolding punctuation
some opens dot kind text rest (newline k (inl e)) = omega (arith, ap length e)
some opens dot kind text rest (newline k (inr e)) = omega (arith, ap length e)
some opens dot kind text rest (line_comment k is) = ⊎_elim
    (λ a. omega (arith, ap length (starts_split text (35 ∷ []) a).1))
    (λ b. omega (arith, ap length (starts_split text (47 ∷ 47 ∷ []) b).1))
    (or_cases (starts text (35 ∷ [])) (starts text (47 ∷ 47 ∷ [])) is.0)
some opens dot kind text rest (inline_comment k is) = omega (arith, ap length is.1)
some opens dot kind text rest (blanks k h is) = is.0
some opens dot kind text rest (ident k is) = let w = ident_word text is in omega (arith, ap length w.whole)
some opens dot kind text rest (digits k h is) = is.0
some opens dot kind text rest (number k h is) = omega (arith, ap length is.6, length-append (is.0 ++ is.1) is.2, length-append is.0 is.1, is.3.0)
some opens dot kind text rest (heredoc k is) = omega (arith, ap length is.6)
some opens dot kind text rest (seq_close k h (inl e)) = omega (arith, ap length e)
some opens dot kind text rest (seq_close k h (inr e)) = omega (arith, ap length e)
some opens dot kind text rest (brace_close k h e) = omega (arith, ap length e)
some opens dot kind text rest (slash k e h) = omega (arith, ap length e)
some opens dot kind text rest (mark is) = some_mark text kind is
  where
    is_some : List ℕ → Bool
    is_some [] = false
    is_some (b ∷ l) = true

    of : (l : List ℕ) → is_some l ≡ true → 0 < length l
    of [] h = absurd (cc)
    of (b ∷ l) h = omega arith

    some_mark : (text : List ℕ) (kind : Kind) → IsPunctuation punctuation text kind → 0 < length text
    some_mark text kind is = of text (mark_passes (λ t k. is_some t) punctuation text kind refl is)

-- the kinds of a lead
pub line_kind : (kind : Kind) → kind_lead kind ≡ LineEnd → kind ≡ Newline
line_kind Newline h = refl
line_kind _ h = absurd (false≢true (ap (is_lead LineEnd) h))

pub space_kind : (kind : Kind) → kind_lead kind ≡ Space → kind ≡ Blank
space_kind Blank h = refl
space_kind _ h = absurd (false≢true (ap (is_lead Space) h))

pub letter_kind : (kind : Kind) → kind_lead kind ≡ Letter → kind ≡ Ident
letter_kind Ident h = refl
letter_kind _ h = absurd (false≢true (ap (is_lead Letter) h))

pub digit_kind : (kind : Kind) → kind_lead kind ≡ Digit → kind ≡ Number
digit_kind Number h = refl
digit_kind _ h = absurd (false≢true (ap (is_lead Digit) h))

pub hash_kind : (kind : Kind) → kind_lead kind ≡ HashOrSlashes → kind ≡ LineComment
hash_kind LineComment h = refl
hash_kind _ h = absurd (false≢true (ap (is_lead HashOrSlashes) h))

pub star_kind : (kind : Kind) → kind_lead kind ≡ SlashStar → kind ≡ InlineComment
star_kind InlineComment h = refl
star_kind _ h = absurd (false≢true (ap (is_lead SlashStar) h))

pub slash_kind : (kind : Kind) → kind_lead kind ≡ OneSlash → kind ≡ Slash
slash_kind Slash h = refl
slash_kind _ h = absurd (false≢true (ap (is_lead OneSlash) h))

pub less_kind : (kind : Kind) → kind_lead kind ≡ LessLess → kind ≡ HeredocOpen
less_kind HeredocOpen h = refl
less_kind _ h = absurd (false≢true (ap (is_lead LessLess) h))

pub closer_kinds : (kind : Kind) → kind_lead kind ≡ Closer → (kind ≡ SeqClose) ⊎ (kind ≡ BraceClose)
closer_kinds SeqClose h = inl refl
closer_kinds BraceClose h = inr refl
closer_kinds _ h = absurd (false≢true (ap (is_lead Closer) h))

-- a text of a kind that begins as the marks do is a mark
pub sign_mark : (opens : List Opener) (dot : Bool) (kind : Kind) (text rest : List ℕ) → kind_lead kind ≡ Sign → Ways opens dot kind text rest → IsPunctuation punctuation text kind
sign_mark opens dot kind text rest l (mark is) = is
sign_mark opens dot kind text rest l (newline k is) = absurd (let other = ap kind_lead k in cc)
sign_mark opens dot kind text rest l (line_comment k is) = absurd (let other = ap kind_lead k in cc)
sign_mark opens dot kind text rest l (inline_comment k is) = absurd (let other = ap kind_lead k in cc)
sign_mark opens dot kind text rest l (blanks k h is) = absurd (let other = ap kind_lead k in cc)
sign_mark opens dot kind text rest l (ident k is) = absurd (let other = ap kind_lead k in cc)
sign_mark opens dot kind text rest l (digits k h is) = absurd (let other = ap kind_lead k in cc)
sign_mark opens dot kind text rest l (number k h is) = absurd (let other = ap kind_lead k in cc)
sign_mark opens dot kind text rest l (heredoc k is) = absurd (let other = ap kind_lead k in cc)
sign_mark opens dot kind text rest l (seq_close k h is) = absurd (let other = ap kind_lead k in cc)
sign_mark opens dot kind text rest l (brace_close k h e) = absurd (let other = ap kind_lead k in cc)
sign_mark opens dot kind text rest l (slash k e h) = absurd (let other = ap kind_lead k in cc)

-- leads by the first byte alone
abbrev pub is_settled : Prefix → Bool
is_settled HashOrSlashes = false
is_settled SlashStar = false
is_settled OneSlash = false
is_settled LessLess = false
is_settled _ = true

slash_unsettled : (second : ℕ) → is_settled (slash_prefix second) ≡ false
slash_unsettled second = by (second == 47) (second == 42)
  where
    by : (v w : Bool) → is_settled (cond v HashOrSlashes (cond w SlashStar OneSlash)) ≡ false
    by true w = refl
    by false true = refl
    by false false = refl

settled_first : (first second : ℕ) (l : Prefix) → is_settled l ≡ true → prefix_bytes first second ≡ l → prefix_bytes first 0 ≡ l
settled_first first second l h e =
    by (may_begin_ident first) (is_ascii_digit first) ((first == 10) || (first == 13)) (is_blank first) (first == 35) (first == 47) (first == 60) (second == 60) ((first == 125) || (first == 126)) (slash_prefix second) (slash_unsettled second) e
  where
    by : (a b c d f g less more i : Bool) (x : Prefix) → is_settled x ≡ false → cond a Letter (cond b Digit (cond c LineEnd (cond d Space (cond f HashOrSlashes (cond g x (cond (less && more) LessLess (cond i Closer Sign))))))) ≡ l →
        cond a Letter (cond b Digit (cond c LineEnd (cond d Space (cond f HashOrSlashes (cond g OneSlash (cond (less && false) LessLess (cond i Closer Sign))))))) ≡ l
    by true b c d f g less more i x u k = k
    by false true c d f g less more i x u k = k
    by false false true d f g less more i x u k = k
    by false false false true f g less more i x u k = k
    by false false false false true g less more i x u k = k
    by false false false false false true less more i x u k = absurd (let yes : is_settled x ≡ true = ap is_settled k ∙ h in cc)
    by false false false false false false true true i x u k = absurd (let yes : is_settled LessLess ≡ true = ap is_settled k ∙ h in cc)
    by false false false false false false true false i x u k = k
    by false false false false false false false more i x u k = k

-- fronts of the visible text
pub front_lead : (longer left seen : List ℕ) → longer ++ left ≡ seen → 1 < length longer → prefix_of longer ≡ prefix_of seen
front_lead [] left seen e lt = absurd (omega arith)
front_lead (b ∷ []) left seen e lt = absurd (omega arith)
front_lead (b ∷ c ∷ longer) left seen e lt = ap prefix_of e

pub front_settled : (text rest seen : List ℕ) (l : Prefix) → text ++ rest ≡ seen → 0 < length text → is_settled l ≡ true → prefix_of seen ≡ l → prefix_of text ≡ l
front_settled [] rest seen l e lt h is = absurd (omega arith)
front_settled (b ∷ []) rest seen l e lt h is = settled_first b (get_or (b ∷ rest) 1 0) l h (ap prefix_of e ∙ is)
front_settled (b ∷ c ∷ text) rest seen l e lt h is = ap prefix_of e ∙ is
