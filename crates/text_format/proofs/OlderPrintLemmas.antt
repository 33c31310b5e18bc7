-- The print by the earlier tables is the print, if no token is a ColonColon and no colon follows another.
use Rattle.std.proofs.Common.{◌≡◌, ◌≢◌, ℕ, ◌&&◌, ◌||◌, ◌==◌, not, Bool, true, false, List, [], ◌∷◌, get_or, Option, Some, None, refl, sym, ap, ap₂, ◌∙◌, map}
use Rattle.std.specs.Prelude.{if◌then◌else◌}
use Rattle.std.specs.List.{flat_map}
use Rattle.std.proofs.lemmas.Bool.{false≢true}
use Rattle.hcl_tokens.specs.Lexemes.{Lexeme}
use Rattle.hcl_tokens.specs.Regapped.{is_template}
use Rattle.hcl_tokens.specs.SideBySide.{Beside, Besides, opens_template}
use Rattle.hcl_tokens.specs.declared.token.Kind.{Kind}
use Rattle.hcl_tokens.specs.declared.token.Kind.TheVariants as kind
use Rattle.hcl_tokens.proofs.ByteKindLemmas.{says}
use Rattle.hcl_layout.specs.Lines.{Line, ends_line, lines, onto_line}
use Rattle.hcl_layout.specs.Levels.{levels, net_of}
use Rattle.hcl_layout.specs.Cells.{assign_cell, running_comment, trailing_comment}
use Rattle.hcl_layout.specs.Gaps.{aligned_gaps, gaps_after, indent, line_gaps, plain_gaps, zip_with}
use Rattle.hcl_layout.specs.Print.{print, printed_text}
use Rattle.hcl_tokens.specs.Kinds.{is}
use Rattle.hcl_spacing.specs.Spacing.{begins_with_colon, closes_group, ends_operand, is_in, is_opening, opens_sequence, has_blank, would_join}
use Rattle.text_format.specs.Older.Prints.{were_gaps_after, were_line_gaps, were_plain_gaps, was_print, had_blank, would_have_joined}
use Rattle.hcl_spacing.proofs.SpacingLemmas.{row_one}
use Rattle.text_format.proofs.OlderScanLemmas.{Apart, Older, colon_colon_is, coloned_is, is_coloned}

-- ---- two neighbours
record Meets (u t : Lexeme) : Type 0 where
  left : is kind.ColonColon u.kind ≡ false
  right : is kind.ColonColon t.kind ≡ false
  disjoint : t.inside_heredoc ≡ false → (is kind.Colon u.kind && begins_with_colon t.text) ≡ false

abbrev rows_after : Option Lexeme → Lexeme → Lexeme → Bool
rows_after before subject after =
    if is kind.Comma after.kind || is kind.Ellipsis after.kind then false
    else if is kind.Comma subject.kind then true
    else if is kind.QuoteOpen subject.kind || is kind.Lit subject.kind || is kind.Lit after.kind || is kind.QuoteClose after.kind then false
    else if is_in before subject then true
    else if is kind.BracketOpen after.kind && ends_operand subject.kind then false
    else if is kind.Not subject.kind then false
    else if is kind.Minus subject.kind then not (is_opening before)
    else if is kind.BraceOpen subject.kind && is kind.BraceClose after.kind then false
    else if is kind.BraceOpen subject.kind || is kind.BraceClose after.kind then true
    else if (opens_sequence subject.kind && is kind.BraceOpen after.kind) || (is kind.BraceClose subject.kind && is kind.SeqClose after.kind) then true
    else if is kind.SeqClose subject.kind && opens_sequence after.kind then false
    else if is kind.ParenOpen subject.kind || is kind.BracketOpen subject.kind || opens_sequence subject.kind then false
    else not (closes_group after.kind)

table_same : (a r3 r4 x w v c : Bool) → w ≡ v → c ≡ false → (if a then false else if w then true else if r3 then false else if r4 then false else x) ≡ (if a then false else if v then true else if r3 then false else if r4 then false else if c then false else x)
table_same a r3 r4 x w v c e f = λ i. if a then false else if e i then true else if r3 then false else if r4 then false else if sym f i then false else x

or_false : (a : Bool) → (a || false) ≡ a
or_false true = refl
or_false false = refl

was_row_one : (before : Option Lexeme) (u t : Lexeme) → (is kind.Newline t.kind || t.inside_heredoc) ≡ true → had_blank before u t ≡ false
was_row_one before u t h = rw h refl

outside : (a b : Bool) → (a || b) ≡ false → b ≡ false
outside true b h = absurd (cc)
outside false b h = h

space_same : (before : Option Lexeme) (u t : Lexeme) → Meets u t → had_blank before u t ≡ has_blank before u t
space_same before u t m = by (is kind.Newline t.kind || t.inside_heredoc) refl
  where
    by : (v : Bool) → (is kind.Newline t.kind || t.inside_heredoc) ≡ v → had_blank before u t ≡ has_blank before u t
    by true h = was_row_one before u t h ∙ sym (row_one before u t h)
    by false h =
        let n = m.disjoint (outside (is kind.Newline t.kind) t.inside_heredoc h) in
        table_same (is kind.Newline t.kind || t.inside_heredoc) (is kind.Ident u.kind && is kind.ParenOpen t.kind) (is kind.Dot u.kind || is kind.Dot t.kind) (rows_after before u t) (would_have_joined before u t) (would_join before u t) (is kind.ColonColon u.kind || is kind.ColonColon t.kind)
        (sym ((λ i. would_have_joined before u t || n i) ∙ or_false (would_have_joined before u t))) (λ i. m.left i || m.right i)

-- ---- all neighbours
abbrev MeetsFirst : Lexeme → List Lexeme → Type 0
MeetsFirst u [] = Unit {0}
MeetsFirst u (t ∷ ts) = Meets u t

abbrev AllMeet : List Lexeme → Type 0
AllMeet [] = Unit {0}
AllMeet (t ∷ ts) = MeetsFirst t ts × AllMeet ts

older_kind : (k : Kind) → (k ≢ kind.ColonColon) → is kind.ColonColon k ≡ false
older_kind k h = by (is kind.ColonColon k) refl
  where
    by : (v : Bool) → is kind.ColonColon k ≡ v → is kind.ColonColon k ≡ false
    by true e = absurd (h (colon_colon_is k e))
    by false e = e

colon_byte : (text : List ℕ) → begins_with_colon text ≡ true → (get_or text 0 0 == 58) ≡ true
colon_byte [] h = absurd (cc)
colon_byte (b ∷ text) h = h

colon_opens_none : (k : Kind) → is kind.Colon k ≡ true → opens_template k ≡ true → ⊥
colon_opens_none kind.Colon h e = cc
colon_opens_none _ h e = false≢true h

meets : (u t : Lexeme) → Beside u.kind t → (u.kind ≢ kind.ColonColon) → (t.kind ≢ kind.ColonColon) → (is kind.Colon u.kind ≡ true → is kind.Colon t.kind ≡ false) → Meets u t
meets u t beside h k disjoint = record { left = older_kind u.kind h; right = older_kind t.kind k; disjoint = λ inside. by inside (is kind.Colon u.kind) refl (begins_with_colon t.text) refl }
  where
    clash : t.inside_heredoc ≡ false → is kind.Colon u.kind ≡ true → begins_with_colon t.text ≡ true → (v : Bool) → is_template t.kind ≡ v → ⊥
    clash inside e f true g = colon_opens_none u.kind e (beside.template inside g)
    clash inside e f false g =
        let c : is_coloned t.kind ≡ true = (says t.kind (get_or t.text 0 0) (beside.begins inside g)).colons (colon_byte t.text f) in
        let x : true ≡ false = sym (ap (is kind.Colon) (coloned_is t.kind c k)) ∙ disjoint e in
        cc

    by : t.inside_heredoc ≡ false → (a : Bool) → is kind.Colon u.kind ≡ a → (b : Bool) → begins_with_colon t.text ≡ b → (is kind.Colon u.kind && begins_with_colon t.text) ≡ false
    by inside true e true f = absurd (clash inside e f (is_template t.kind) refl)
    by inside true e false f = λ i. e i && f i
    by inside false e b f = λ i. e i && begins_with_colon t.text

all_meet : (k : Kind) (ts : List Lexeme) → Besides k ts → Older ts → Apart ts → AllMeet ts
all_meet k [] b o a = tt
all_meet k (t ∷ []) b o a = (tt, tt)
all_meet k (t ∷ u ∷ ts) b o a = (meets t u b.1.0 o.0 o.1.0 a.0, all_meet t.kind (u ∷ ts) b.1 o.1 a.1)

-- ---- lines
abbrev LinesMeet : List Line → Type 0
LinesMeet [] = Unit {0}
LinesMeet (l ∷ ls) = AllMeet l × LinesMeet ls

abbrev MeetsLine : Lexeme → List Line → Type 0
MeetsLine u [] = Unit {0}
MeetsLine u (l ∷ ls) = MeetsFirst u l

line_after : (u t : Lexeme) (v : Bool) (ls : List Line) → Meets u t → MeetsLine u (if v then (t ∷ []) ∷ ls else onto_line t ls)
line_after u t true ls m = m
line_after u t false [] m = m
line_after u t false (l ∷ ls) m = m

first_line : (u : Lexeme) (ts : List Lexeme) → MeetsFirst u ts → MeetsLine u (lines ts)
first_line u [] m = tt
first_line u (t ∷ ts) m = line_after u t (ends_line t) (lines ts) m

lines_on : (t : Lexeme) (v : Bool) (ls : List Line) → MeetsLine t ls → LinesMeet ls → LinesMeet (if v then (t ∷ []) ∷ ls else onto_line t ls)
lines_on t true ls m all = ((tt, tt), all)
lines_on t false [] m all = ((tt, tt), tt)
lines_on t false (l ∷ ls) m all = ((m, all.0), all.1)

lines_meet : (ts : List Lexeme) → AllMeet ts → LinesMeet (lines ts)
lines_meet [] all = tt
lines_meet (t ∷ ts) all = lines_on t (ends_line t) (lines ts) (first_line t ts all.0) (lines_meet ts all.1)

-- ---- gaps
after_same : (before : Option Lexeme) (u : Lexeme) (l : Line) → AllMeet (u ∷ l) → were_gaps_after before u l ≡ gaps_after before u l
after_same before u [] m = refl
after_same before u (t ∷ l) m = ap₂ (λ (v : Bool) (g : List ℕ). (if v then 1 else 0) ∷ g) (space_same before u t m.0) (after_same (Some u) t l m.1)

plain_same : (n : ℕ) (l : Line) → AllMeet l → were_plain_gaps n l ≡ plain_gaps n l
plain_same n [] m = refl
plain_same n (t ∷ l) m = ap (λ g. indent n t ∷ g) (after_same None t l m)

indented_same : (ns : List ℕ) (ls : List Line) → LinesMeet ls → zip_with were_plain_gaps ns ls ≡ zip_with plain_gaps ns ls
indented_same [] ls m = refl
indented_same (n ∷ ns) [] m = refl
indented_same (n ∷ ns) (l ∷ ls) m = ap₂ (λ (g : List ℕ) (gs : List (List ℕ)). g ∷ gs) (plain_same n l m.0) (indented_same ns ls m.1)

line_gaps_same : (ls : List Line) → LinesMeet ls → were_line_gaps ls ≡ line_gaps ls
line_gaps_same ls m = ap (λ gs. aligned_gaps trailing_comment running_comment (aligned_gaps assign_cell assign_cell gs ls) ls) (indented_same (levels (map net_of ls)) ls m)

pub print_same : (ts : List Lexeme) → Besides kind.Newline ts → Older ts → Apart ts → was_print ts ≡ print ts
print_same ts b o a = ap (λ gs. printed_text (flat_map (λ g. g) gs) ts) (line_gaps_same (lines ts) (lines_meet ts (all_meet kind.Newline ts b o a)))
