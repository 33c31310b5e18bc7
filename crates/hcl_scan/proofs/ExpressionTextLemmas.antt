-- From the longest front of a form to the longest token of an expression.
use Rattle.std.proofs.Common.{◌≡◌, ℕ, ◌<◌, ◌≤◌, ◌&&◌, ◌||◌, ◌==◌, Bool, true, false, cond, List, [], ◌∷◌, ◌++◌, length, take, drop, get_or, inl, inr, ⊎_elim, refl, sym, ap, subst, ◌∙◌, arith, IsUtf8, length-take-le, Option, Some, None}
use Rattle.std.specs.Prelude.{IfSome, IfNone}
use Rattle.std.specs.List.{prefix_len}
use Rattle.std.specs.Str.{IsCharBoundary}
use Rattle.std.proofs.lemmas.Str.{IsCharBoundary-after_ascii}
use Rattle.std.proofs.lemmas.List.{take-append-drop}
use Rattle.std.proofs.lemmas.Bool.Decides.{nat_tests}
use Rattle.hcl_tokens.specs.Lexemes.{Opener, in_heredoc, closes_sequence}
use Rattle.hcl_tokens.specs.Spelling.{punctuation, IsPunctuation, IsNewline, IsLineComment, IsInlineComment, IsIdent, IsHeredocOpen, IsSpelling, IsTextIn, IsExpressionText, Context, starts}
use Rattle.hcl_scan.specs.Inner.Found.{Finds, AreSurroundings, FindsAt, HasNoneAt, IsLongestFront, HasNoFront, BlankText, NumberText, CloserText, closer_kind, IsLongestPunctuation, HasNoPunctuation}
use Rattle.hcl_tokens.specs.Scans.{HasNone}
use Rattle.hcl_scan.specs.Inner.Prefixes.{prefix_of, prefix_bytes, slash_prefix}
use Rattle.hcl_tokens.specs.SideBySide.{may_begin_ident}
use Rattle.hcl_scan.specs.declared.front.Prefix.{Prefix}
use Rattle.hcl_scan.specs.declared.front.Prefix.TheVariants.{LineEnd, Space, Letter, Digit, HashOrSlashes, SlashStar, OneSlash, LessLess, Closer, Sign}
use Rattle.hcl_scan.specs.declared.found.FoundToken.{FoundToken}
use Rattle.hcl_tokens.specs.declared.token.Kind.{Kind}
use Rattle.hcl_tokens.specs.declared.token.Kind.TheVariants.{Newline, LineComment, InlineComment, Blank, Ident, Number, HeredocOpen, SeqClose, BraceClose, Slash, Less}
use Rattle.hcl_scan.proofs.WayLemmas.{ways}
use Rattle.hcl_scan.proofs.PrefixLemmas.{kind_lead, leads, some, is_settled, front_lead, front_settled, line_kind, space_kind, letter_kind, digit_kind, hash_kind, star_kind, slash_kind, less_kind, closer_kinds, sign_mark, mark_lead}
use Rattle.hcl_scan.proofs.CommentTextLemmas.{goes_on, line_comment_found}
use Rattle.hcl_scan.proofs.TextCutLemmas.{EndsLow, low_cut}

module _ (dot inside closes : Bool) where
  -- the texts of the kinds that begin so have one form, and the form one kind
  pub record Reading (prefix : Prefix) (kind : Kind) (form : List ℕ → Type 0) : Type 0 where
    pub into : (opens : List Opener) → AreSurroundings opens inside closes → (text rest : List ℕ) → form text → IsExpressionText opens dot kind text rest
    pub out : (opens : List Opener) → AreSurroundings opens inside closes → (other : Kind) (text rest : List ℕ) → kind_lead other ≡ prefix → IsExpressionText opens dot other text rest → form text

  module _ (opens : List Opener) (place : AreSurroundings opens inside closes) (seen : List ℕ) where
    spelling : (kind : Kind) (text rest : List ℕ) → IsExpressionText opens dot kind text rest → IsSpelling opens dot kind text rest
    spelling kind text rest is = subst (λ (z : Context). IsTextIn z opens dot kind text rest) (sym place.expression) is

    in_expression : (kind : Kind) (text rest : List ℕ) → IsSpelling opens dot kind text rest → IsExpressionText opens dot kind text rest
    in_expression kind text rest is = subst (λ (z : Context). IsTextIn z opens dot kind text rest) place.expression is

    -- no longer text begins so
    NoLonger : Prefix → ℕ → Type 0
    NoLonger prefix n = (other : Kind) (longer left : List ℕ) → longer ++ left ≡ seen → n < length longer → kind_lead other ≡ prefix → IsExpressionText opens dot other longer left → ⊥

    finds : (prefix : Prefix) (kind : Kind) (n : ℕ) → prefix_of seen ≡ prefix → n ≤ length seen → IsExpressionText opens dot kind (take n seen) (drop n seen) → NoLonger prefix n → Finds opens dot seen kind n
    unfolding NoLonger
    finds prefix kind n l within is none =
        let len = length-take-le n seen within in
        let one : 0 < n = omega (arith, len, some opens dot kind (take n seen) (drop n seen) (ways opens dot kind (take n seen) (drop n seen) is)) in
        record {
          within = within;
          some = one;
          longest = record {
            whole = take-append-drop n seen;
            spelled = spelling kind (take n seen) (drop n seen) is;
            longest = λ other longer left whole lt spelled.
                let text = in_expression other longer left spelled in
                none other longer left whole (omega (arith, len, lt)) (sym (leads opens dot other longer left (ways opens dot other longer left text)) ∙ front_lead longer left seen whole (omega (arith, len, lt, one)) ∙ l) text;
          };
        }

    has_none : (prefix : Prefix) → prefix_of seen ≡ prefix → is_settled prefix ≡ true → ((other : Kind) (text rest : List ℕ) → text ++ rest ≡ seen → kind_lead other ≡ prefix → IsExpressionText opens dot other text rest → ⊥) → HasNone opens dot seen
    has_none prefix l settled none other text rest whole spelled =
        let is = in_expression other text rest spelled in
        let w = ways opens dot other text rest is in
        none other text rest whole (sym (leads opens dot other text rest w) ∙ front_settled text rest seen prefix whole (some opens dot other text rest w) settled l) is

  pub found : {prefix : Prefix} {kind : Kind} {form : List ℕ → Type 0} → (seen : List ℕ) (n : ℕ) → Reading prefix kind form → prefix_of seen ≡ prefix → IsLongestFront form seen n → FindsAt dot inside closes seen kind n
  unfolding finds NoLonger
  found {prefix} {kind} seen n r l f opens place =
      finds opens place seen prefix kind n l f.within (r.into opens place (take n seen) (drop n seen) f.formed)
      (λ other longer left whole lt k is. let most = f.longest longer left whole (r.out opens place other longer left k is) in omega (arith, most, lt))

  pub nothing : {prefix : Prefix} {kind : Kind} {form : List ℕ → Type 0} → (seen : List ℕ) → Reading prefix kind form → prefix_of seen ≡ prefix → is_settled prefix ≡ true → HasNoFront form seen → HasNoneAt dot inside closes seen
  nothing {prefix} seen r l settled none opens place = has_none opens place seen prefix l settled (λ other text rest whole k is. none text rest whole (r.out opens place other text rest k is))

  -- the readings
  pub line_reading : Reading LineEnd Newline IsNewline
  line_reading = record {
    into = λ opens place text rest is. is;
    out = λ opens place other text rest k is. subst (λ (z : Kind). IsExpressionText opens dot z text rest) (line_kind other k) is;
  }

  pub letter_reading : Reading Letter Ident IsIdent
  letter_reading = record {
    into = λ opens place text rest is. is;
    out = λ opens place other text rest k is. subst (λ (z : Kind). IsExpressionText opens dot z text rest) (letter_kind other k) is;
  }

  pub hash_reading : Reading HashOrSlashes LineComment IsLineComment
  hash_reading = record {
    into = λ opens place text rest is. is;
    out = λ opens place other text rest k is. subst (λ (z : Kind). IsExpressionText opens dot z text rest) (hash_kind other k) is;
  }

  pub star_reading : Reading SlashStar InlineComment IsInlineComment
  star_reading = record {
    into = λ opens place text rest is. is;
    out = λ opens place other text rest k is. subst (λ (z : Kind). IsExpressionText opens dot z text rest) (star_kind other k) is;
  }

  pub less_reading : Reading LessLess HeredocOpen IsHeredocOpen
  less_reading = record {
    into = λ opens place text rest is. is;
    out = λ opens place other text rest k is. subst (λ (z : Kind). IsExpressionText opens dot z text rest) (less_kind other k) is;
  }

number_into : (dot : Bool) (opens : List Opener) (text rest : List ℕ) → NumberText dot text → IsExpressionText opens dot Number text rest
number_into true opens text rest is = is
number_into false opens text rest is = is

number_out : (dot : Bool) (opens : List Opener) (text rest : List ℕ) → IsExpressionText opens dot Number text rest → NumberText dot text
number_out true opens text rest is = is
number_out false opens text rest is = is

pub digit_reading : (dot inside closes : Bool) → Reading dot inside closes Digit Number (NumberText dot)
digit_reading dot inside closes = record {
  into = λ opens place text rest is. number_into dot opens text rest is;
  out = λ opens place other text rest k is. number_out dot opens text rest (subst (λ (z : Kind). IsExpressionText opens dot z text rest) (digit_kind other k) is);
}

blank_into : (inside dot : Bool) (opens : List Opener) (text rest : List ℕ) → in_heredoc opens ≡ inside → BlankText inside text → IsExpressionText opens dot Blank text rest
blank_into true dot opens text rest h is = (h, is)
blank_into false dot opens text rest h is = absurd is

blank_out : (inside dot : Bool) (opens : List Opener) (text rest : List ℕ) → in_heredoc opens ≡ inside → IsExpressionText opens dot Blank text rest → BlankText inside text
blank_out true dot opens text rest h is = is.1
blank_out false dot opens text rest h is = absurd (let yes : in_heredoc opens ≡ true = is.0 in cc)

pub space_reading : (dot inside closes : Bool) → Reading dot inside closes Space Blank (BlankText inside)
space_reading dot inside closes = record {
  into = λ opens place text rest is. blank_into inside dot opens text rest place.heredoc is;
  out = λ opens place other text rest k is. blank_out inside dot opens text rest place.heredoc (subst (λ (z : Kind). IsExpressionText opens dot z text rest) (space_kind other k) is);
}

closer_into : (closes dot : Bool) (opens : List Opener) (text rest : List ℕ) → closes_sequence opens ≡ closes → CloserText closes text → IsExpressionText opens dot (closer_kind closes) text rest
closer_into true dot opens text rest h is = (h, is)
closer_into false dot opens text rest h is = (h, is)

seq_out : (closes dot : Bool) (opens : List Opener) (text rest : List ℕ) → closes_sequence opens ≡ closes → IsExpressionText opens dot SeqClose text rest → CloserText closes text
seq_out true dot opens text rest h is = is.1
seq_out false dot opens text rest h is = absurd (let yes : closes_sequence opens ≡ true = is.0 in cc)

brace_out : (closes dot : Bool) (opens : List Opener) (text rest : List ℕ) → closes_sequence opens ≡ closes → IsExpressionText opens dot BraceClose text rest → CloserText closes text
brace_out false dot opens text rest h is = is.1
brace_out true dot opens text rest h is = absurd (let never : closes_sequence opens ≡ false = is.0 in cc)

pub closer_reading : (dot inside closes : Bool) → Reading dot inside closes Closer (closer_kind closes) (CloserText closes)
closer_reading dot inside closes = record {
  into = λ opens place text rest is. closer_into closes dot opens text rest place.sequence is;
  out = λ opens place other text rest k is. ⊎_elim
      (λ e. seq_out closes dot opens text rest place.sequence (subst (λ (z : Kind). IsExpressionText opens dot z text rest) e is))
      (λ e. brace_out closes dot opens text rest place.sequence (subst (λ (z : Kind). IsExpressionText opens dot z text rest) e is)) (closer_kinds other k);
}

-- marks
marked_text : (opens : List Opener) (dot : Bool) (kind : Kind) (text rest : List ℕ) → kind_lead kind ≡ Sign → IsPunctuation punctuation text kind → IsExpressionText opens dot kind text rest
marked_text opens dot Newline text rest l is = absurd (cc)
marked_text opens dot LineComment text rest l is = absurd (cc)
marked_text opens dot InlineComment text rest l is = absurd (cc)
marked_text opens dot Blank text rest l is = absurd (cc)
marked_text opens dot Ident text rest l is = absurd (cc)
marked_text opens dot Number text rest l is = absurd (cc)
marked_text opens dot HeredocOpen text rest l is = absurd (cc)
marked_text opens dot SeqClose text rest l is = absurd (cc)
marked_text opens dot BraceClose text rest l is = absurd (cc)
marked_text opens dot Slash text rest l is = absurd (cc)
marked_text opens dot _ text rest l is = is

pub mark_found : (dot inside closes : Bool) (seen : List ℕ) (kind : Kind) (n : ℕ) → prefix_of seen ≡ Sign → IsLongestPunctuation punctuation seen kind n → FindsAt dot inside closes seen kind n
unfolding finds NoLonger
mark_found dot inside closes seen kind n l m opens place =
    finds dot inside closes opens place seen Sign kind n l m.within (marked_text opens dot kind (take n seen) (drop n seen) (mark_lead (take n seen) kind m.formed) m.formed)
    (λ other longer left whole lt k is. let most = m.longest other longer left whole (sign_mark opens dot other longer left k (ways opens dot other longer left is)) in omega (arith, most, lt))

pub mark_nothing : (dot inside closes : Bool) (seen : List ℕ) → prefix_of seen ≡ Sign → HasNoPunctuation punctuation seen → HasNoneAt dot inside closes seen
unfolding has_none
mark_nothing dot inside closes seen l none opens place =
    has_none dot inside closes opens place seen Sign l refl (λ other text rest whole k is. none other text rest whole (sign_mark opens dot other text rest k (ways opens dot other text rest is)))

-- the text that the slashes and the `<<` leave
pick_hash : (a d l s f g v w m i : Bool) → cond a Letter (cond d Digit (cond l LineEnd (cond s Space (cond f HashOrSlashes (cond g (cond v HashOrSlashes (cond w SlashStar OneSlash)) (cond m LessLess (cond i Closer Sign))))))) ≡ HashOrSlashes →
    ((f && true) || (g && (v && true))) ≡ true
pick_hash true d l s f g v w m i h = absurd (cc)
pick_hash false true l s f g v w m i h = absurd (cc)
pick_hash false false true s f g v w m i h = absurd (cc)
pick_hash false false false true f g v w m i h = absurd (cc)
pick_hash false false false false true g v w m i h = refl
pick_hash false false false false false true true w m i h = refl
pick_hash false false false false false true false true m i h = absurd (cc)
pick_hash false false false false false true false false m i h = absurd (cc)
pick_hash false false false false false false v w true i h = absurd (cc)
pick_hash false false false false false false v w false true h = absurd (cc)
pick_hash false false false false false false v w false false h = absurd (cc)

hash_bytes : (b second : ℕ) → prefix_bytes b second ≡ HashOrSlashes → (((b == 35) && true) || ((b == 47) && ((second == 47) && true))) ≡ true
hash_bytes b second h = pick_hash (may_begin_ident b) _ _ _ (b == 35) (b == 47) (second == 47) (second == 42) _ _ h

pub hash_begins : (seen : List ℕ) → prefix_of seen ≡ HashOrSlashes → (starts seen (35 ∷ []) || starts seen (47 ∷ 47 ∷ [])) ≡ true
hash_begins [] h = absurd (cc)
hash_begins (b ∷ []) h = hash_bytes b 0 h
hash_begins (b ∷ c ∷ seen) h = hash_bytes b c h

pub line_comment : (dot inside closes : Bool) (seen : List ℕ) (n : ℕ) → prefix_of seen ≡ HashOrSlashes → n ≡ prefix_len goes_on seen → FindsAt dot inside closes seen LineComment n
line_comment dot inside closes seen n l e = found dot inside closes seen n (hash_reading dot inside closes) l (line_comment_found seen n e (hash_begins seen l))

pick_star : (a d l s f g v w m i : Bool) → cond a Letter (cond d Digit (cond l LineEnd (cond s Space (cond f HashOrSlashes (cond g (cond v HashOrSlashes (cond w SlashStar OneSlash)) (cond m LessLess (cond i Closer Sign))))))) ≡ SlashStar →
    (g ≡ true) × (w ≡ true)
pick_star true d l s f g v w m i h = absurd (cc)
pick_star false true l s f g v w m i h = absurd (cc)
pick_star false false true s f g v w m i h = absurd (cc)
pick_star false false false true f g v w m i h = absurd (cc)
pick_star false false false false true g v w m i h = absurd (cc)
pick_star false false false false false true true w m i h = absurd (cc)
pick_star false false false false false true false true m i h = (refl, refl)
pick_star false false false false false true false false m i h = absurd (cc)
pick_star false false false false false false v w true i h = absurd (cc)
pick_star false false false false false false v w false true h = absurd (cc)
pick_star false false false false false false v w false false h = absurd (cc)

same : (a b : ℕ) → (a == b) ≡ true → a ≡ b
same a b h = grind (arith, nat_tests)

star_bytes : (b second : ℕ) → prefix_bytes b second ≡ SlashStar → (b ≡ 47) × (second ≡ 42)
star_bytes b second h = let p = pick_star (may_begin_ident b) _ _ _ (b == 35) (b == 47) (second == 47) (second == 42) _ _ h in (same b 47 p.0, same second 42 p.1)

pub comment_nothing : (dot inside closes : Bool) (seen : List ℕ) → prefix_of seen ≡ SlashStar → HasNoFront IsInlineComment seen → HasNoneAt dot inside closes seen
unfolding in_expression
comment_nothing dot inside closes seen l none opens place other text rest whole spelled = by text whole (in_expression dot inside closes opens place seen other text rest spelled)
  where
    by : (text : List ℕ) → text ++ rest ≡ seen → IsExpressionText opens dot other text rest → ⊥
    by [] e is = omega (arith, some opens dot other [] rest (ways opens dot other [] rest is))
    by (b ∷ []) e is =
        let bytes = star_bytes b (get_or (b ∷ rest) 1 0) (ap prefix_of e ∙ l) in
        let at : prefix_of (b ∷ []) ≡ OneSlash = ap (λ x. prefix_of (x ∷ [])) bytes.0 in
        let k = slash_kind other (sym (leads opens dot other (b ∷ []) rest (ways opens dot other (b ∷ []) rest is)) ∙ at) in
        let slash : IsExpressionText opens dot Slash (b ∷ []) rest = subst (λ (z : Kind). IsExpressionText opens dot z (b ∷ []) rest) k is in
        star_next rest bytes.1 slash.1
      where
        star_next : (rest : List ℕ) → get_or (b ∷ rest) 1 0 ≡ 42 → starts rest (42 ∷ []) ≡ false → ⊥
        star_next [] h n = cc
        star_next (c ∷ rest) h n = let yes : starts (c ∷ rest) (42 ∷ []) ≡ true = ap (λ x. starts (x ∷ rest) (42 ∷ [])) h in cc
    by (b ∷ c ∷ more) e is =
        let k = sym (leads opens dot other (b ∷ c ∷ more) rest (ways opens dot other (b ∷ c ∷ more) rest is)) ∙ ap prefix_of e ∙ l in
        none (b ∷ c ∷ more) rest e ((star_reading dot inside closes).out opens place other (b ∷ c ∷ more) rest k is)

pick_slash : (a d l s f g v w m i : Bool) → cond a Letter (cond d Digit (cond l LineEnd (cond s Space (cond f HashOrSlashes (cond g (cond v HashOrSlashes (cond w SlashStar OneSlash)) (cond m LessLess (cond i Closer Sign))))))) ≡ OneSlash →
    (g ≡ true) × (w ≡ false)
pick_slash true d l s f g v w m i h = absurd (cc)
pick_slash false true l s f g v w m i h = absurd (cc)
pick_slash false false true s f g v w m i h = absurd (cc)
pick_slash false false false true f g v w m i h = absurd (cc)
pick_slash false false false false true g v w m i h = absurd (cc)
pick_slash false false false false false true true w m i h = absurd (cc)
pick_slash false false false false false true false true m i h = absurd (cc)
pick_slash false false false false false true false false m i h = (refl, refl)
pick_slash false false false false false false v w true i h = absurd (cc)
pick_slash false false false false false false v w false true h = absurd (cc)
pick_slash false false false false false false v w false false h = absurd (cc)

slash_bytes : (b second : ℕ) → prefix_bytes b second ≡ OneSlash → (b ≡ 47) × ((second == 42) ≡ false)
slash_bytes b second h = let p = pick_slash (may_begin_ident b) _ _ _ (b == 35) (b == 47) (second == 47) (second == 42) _ _ h in (same b 47 p.0, p.1)

pub slash_found : (dot inside closes : Bool) (seen : List ℕ) → prefix_of seen ≡ OneSlash → FindsAt dot inside closes seen Slash 1
unfolding finds NoLonger
slash_found dot inside closes [] l = absurd (cc)
slash_found dot inside closes (b ∷ seen) l = λ opens place.
    let bytes = slash_bytes b (get_or (b ∷ seen) 1 0) l in
    finds dot inside closes opens place (b ∷ seen) OneSlash Slash 1 l (omega arith) (ap (λ x. x ∷ []) bytes.0, no_star seen bytes.1)
    (λ other longer left whole lt k is.
    let slash : IsExpressionText opens dot Slash longer left = subst (λ (z : Kind). IsExpressionText opens dot z longer left) (slash_kind other k) is in
    omega (arith, ap length slash.0, lt))
  where
    no_star : (rest : List ℕ) → (get_or (b ∷ rest) 1 0 == 42) ≡ false → starts rest (42 ∷ []) ≡ false
    no_star [] h = refl
    no_star (c ∷ rest) h = ap (λ v. v && true) h

pick_less : (a d l s f g m n i : Bool) (x : Prefix) → (x ≡ LessLess → ⊥) → cond a Letter (cond d Digit (cond l LineEnd (cond s Space (cond f HashOrSlashes (cond g x (cond (m && n) LessLess (cond i Closer Sign))))))) ≡ LessLess → m ≡ true
pick_less true d l s f g m n i x u h = absurd (cc)
pick_less false true l s f g m n i x u h = absurd (cc)
pick_less false false true s f g m n i x u h = absurd (cc)
pick_less false false false true f g m n i x u h = absurd (cc)
pick_less false false false false true g m n i x u h = absurd (cc)
pick_less false false false false false true m n i x u h = absurd (u h)
pick_less false false false false false false true n i x u h = refl
pick_less false false false false false false false n true x u h = absurd (cc)
pick_less false false false false false false false n false x u h = absurd (cc)

slash_no_less : (second : ℕ) → slash_prefix second ≡ LessLess → ⊥
slash_no_less second = by (second == 47) (second == 42)
  where
    by : (v w : Bool) → cond v HashOrSlashes (cond w SlashStar OneSlash) ≡ LessLess → ⊥
    by true w h = cc
    by false true h = cc
    by false false h = cc

pub less_byte : (b second : ℕ) → prefix_bytes b second ≡ LessLess → b ≡ 60
less_byte b second h = same b 60 (pick_less (may_begin_ident b) _ _ _ _ (b == 47) (b == 60) (second == 60) _ (slash_prefix second) (slash_no_less second) h)

less_mark : IsPunctuation punctuation (60 ∷ []) Less
unfolding punctuation
less_mark = inr (inr (inr (inr (inr (inr (inr (inr (inr (inr (inr (inr (inr (inr (inr (inr (inr (inr (inr (inr (inr (inr (inr (inl (refl, refl))))))))))))))))))))))))

pub less_found : (dot inside closes : Bool) (seen : List ℕ) → prefix_of seen ≡ LessLess → HasNoFront IsHeredocOpen seen → FindsAt dot inside closes seen Less 1
unfolding finds NoLonger
less_found dot inside closes [] l none = absurd (cc)
less_found dot inside closes (b ∷ seen) l none = λ opens place.
    finds dot inside closes opens place (b ∷ seen) LessLess Less 1 l (omega arith) (subst (λ x. IsPunctuation punctuation (x ∷ []) Less) (sym (less_byte b (get_or (b ∷ seen) 1 0) l)) less_mark)
    (λ other longer left whole lt k is. none longer left whole ((less_reading dot inside closes).out opens place other longer left k is))

-- at the end of a token the text may be cut
pub formed_cut : {form : List ℕ → Type 0} → (seen : List ℕ) (n : ℕ) → IsUtf8 seen → ((text : List ℕ) → form text → EndsLow text) → IsLongestFront form seen n → IsCharBoundary seen n
formed_cut seen n utf8 ends f = low_cut seen n utf8 f.within (ends (take n seen) f.formed)

-- a form's length, as a token
pub some_found : {prefix : Prefix} {kind : Kind} {form : List ℕ → Type 0} → (dot inside closes : Bool) (seen bytes : List ℕ) (r : Option FoundToken) (len : Option ℕ) → Reading dot inside closes prefix kind form → prefix_of seen ≡ prefix → bytes ≡ seen →
    IfSome r (λ f. (f.kind ≡ kind) × (len ≡ Some f.len)) → IfSome len (IsLongestFront form bytes) → IfSome r (λ f. FindsAt dot inside closes seen f.kind f.len)
some_found {form = form} dot inside closes seen bytes (Some f) len reading l e h g =
    let front : IsLongestFront form bytes f.len = subst (λ (o : Option ℕ). IfSome o (IsLongestFront form bytes)) h.1 g in
    subst (λ (k : Kind). FindsAt dot inside closes seen k f.len) (sym h.0) (found dot inside closes seen f.len reading l (subst (λ s. IsLongestFront form s f.len) e front))
some_found dot inside closes seen bytes None len reading l e h g = tt

pub none_found : {prefix : Prefix} {kind : Kind} {form : List ℕ → Type 0} → (dot inside closes : Bool) (seen bytes : List ℕ) (r : Option FoundToken) (len : Option ℕ) → Reading dot inside closes prefix kind form → prefix_of seen ≡ prefix → is_settled prefix ≡ true → bytes ≡ seen →
    IfNone r (len ≡ None) → IfNone len (HasNoFront form bytes) → IfNone r (HasNoneAt dot inside closes seen)
none_found dot inside closes seen bytes (Some f) len reading l s e h g = tt
none_found {form = form} dot inside closes seen bytes None len reading l s e h g =
    let none : HasNoFront form bytes = subst (λ (o : Option ℕ). IfNone o (HasNoFront form bytes)) h g in
    nothing dot inside closes seen reading l s (subst (λ b. HasNoFront form b) e none)

-- a form's length, if the found form gives its kind itself
pub kind_found : {prefix : Prefix} {kind : Kind} {form : List ℕ → Type 0} → (dot inside closes : Bool) (seen bytes : List ℕ) (r : Option FoundToken) → Reading dot inside closes prefix kind form → prefix_of seen ≡ prefix → bytes ≡ seen →
    IfSome r (λ f. (f.kind ≡ kind) × IsLongestFront form bytes f.len) → IfSome r (λ f. FindsAt dot inside closes seen f.kind f.len)
kind_found {form = form} dot inside closes seen bytes (Some f) reading l e h =
    subst (λ (k : Kind). FindsAt dot inside closes seen k f.len) (sym h.0) (found dot inside closes seen f.len reading l (subst (λ s. IsLongestFront form s f.len) e h.1))
kind_found dot inside closes seen bytes None reading l e h = tt

pub kind_none : {prefix : Prefix} {kind : Kind} {form : List ℕ → Type 0} → (dot inside closes : Bool) (seen bytes : List ℕ) (r : Option FoundToken) → Reading dot inside closes prefix kind form → prefix_of seen ≡ prefix → is_settled prefix ≡ true → bytes ≡ seen →
    IfNone r (HasNoFront form bytes) → IfNone r (HasNoneAt dot inside closes seen)
kind_none dot inside closes seen bytes (Some f) reading l s e h = tt
kind_none {form = form} dot inside closes seen bytes None reading l s e h = nothing dot inside closes seen reading l s (subst (λ b. HasNoFront form b) e h)

pub kind_cut : {form : List ℕ → Type 0} → (kind : Kind) (seen bytes : List ℕ) (r : Option FoundToken) → IsUtf8 seen → ((text : List ℕ) → form text → EndsLow text) → bytes ≡ seen →
    IfSome r (λ f. (f.kind ≡ kind) × IsLongestFront form bytes f.len) → IfSome r (λ f. IsCharBoundary seen f.len)
kind_cut {form} kind seen bytes (Some f) utf8 ends e h = formed_cut seen f.len utf8 ends (subst (λ s. IsLongestFront form s f.len) e h.1)
kind_cut kind seen bytes None utf8 ends e h = tt

pub some_cut : {form : List ℕ → Type 0} → (kind : Kind) (seen bytes : List ℕ) (r : Option FoundToken) (len : Option ℕ) → IsUtf8 seen → ((text : List ℕ) → form text → EndsLow text) → bytes ≡ seen →
    IfSome r (λ f. (f.kind ≡ kind) × (len ≡ Some f.len)) → IfSome len (IsLongestFront form bytes) → IfSome r (λ f. IsCharBoundary seen f.len)
some_cut {form} kind seen bytes (Some f) len utf8 ends e h g =
    let front : IsLongestFront form bytes f.len = subst (λ (o : Option ℕ). IfSome o (IsLongestFront form bytes)) h.1 g in
    formed_cut seen f.len utf8 ends (subst (λ s. IsLongestFront form s f.len) e front)
some_cut kind seen bytes None len utf8 ends e h g = tt

pub comment_none : (dot inside closes : Bool) (seen bytes : List ℕ) (r : Option FoundToken) (len : Option ℕ) → prefix_of seen ≡ SlashStar → bytes ≡ seen → IfNone r (len ≡ None) → IfNone len (HasNoFront IsInlineComment bytes) → IfNone r (HasNoneAt dot inside closes seen)
comment_none dot inside closes seen bytes (Some f) len l e h g = tt
comment_none dot inside closes seen bytes None len l e h g =
    comment_nothing dot inside closes seen l (subst (λ b. HasNoFront IsInlineComment b) e (subst (λ (o : Option ℕ). IfNone o (HasNoFront IsInlineComment bytes)) h g))

pub slash_cut : (seen : List ℕ) → IsUtf8 seen → prefix_of seen ≡ OneSlash → IsCharBoundary seen 1
slash_cut [] utf8 l = absurd (cc)
slash_cut (b ∷ seen) utf8 l = IsCharBoundary-after_ascii (b ∷ seen) 0 utf8 (omega arith) (omega (arith, (slash_bytes b (get_or (b ∷ seen) 1 0) l).0))
