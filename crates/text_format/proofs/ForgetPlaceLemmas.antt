-- The gaps of a list depend on kinds, texts and heredocs alone: the places of its tokens make no difference.
use Rattle.std.proofs.Common.{◌≡◌, ◌∙◌, ℕ, zero, suc, ◌+◌, ◌||◌, Bool, true, false, List, [], ◌∷◌, ◌++◌, length, drop, Option, Some, None, refl, sym, ap, ap₂}
use Rattle.std.specs.Prelude.{if◌then◌else◌, map, option_map, slice_set, replicate}
use Rattle.std.specs.List.{flat_map}
use Rattle.hcl_tokens.specs.Lexemes.{Lexeme}
use Rattle.hcl_tokens.specs.Regapped.{without_gaps, placed_tokens}
use Rattle.hcl_grammar.specs.declared.class.Lookahead.{Lookahead}
use Rattle.hcl_grammar.specs.Classes.{class_of, lookaheads, lookaheads_from}
use Rattle.hcl_grammar.specs.Classes.{is_trivia}
use Rattle.hcl_layout.specs.Lines.{Line, lines, onto_line, ends_line}
use Rattle.hcl_tokens.specs.Balanced.{closer_count, opener_count}
use Rattle.hcl_layout.specs.Levels.{Net, levels, net_of, plus}
use Rattle.hcl_layout.specs.Cells.{is_assignment, is_trailing, is_multiline, is_level, has_multiline, before_comment, until, first_place, first_place_from, if_level, assign_cell, running_comment, trailing_comment}
use Rattle.hcl_layout.specs.Columns.{columns}
use Rattle.hcl_layout.specs.Gaps.{blanks, clusters, gaps_after, indent, plain_gaps, width, widths, gap_to, set_gap, aligned_gaps_by, aligned_gaps, indented_gaps, line_gaps, gaps, zip_with}
use Rattle.hcl_layout.specs.Print.{print, printed_text}
use Rattle.text_format.specs.Reprinted.{with_gaps, printed_tokens}
use Rattle.text_format.proofs.RescanLemmas.{tokens_are}

-- a token without its place
abbrev pub forget : Lexeme → Lexeme
forget t = record { kind = t.kind; text = t.text; start = 0; inside_heredoc = t.inside_heredoc }

abbrev pub forgot : List Lexeme → List Lexeme
forgot ts = map forget ts

-- ---- lines
onto_forgot : (t : Lexeme) (ls : List Line) → onto_line (forget t) (map forgot ls) ≡ map forgot (onto_line t ls)
onto_forgot t [] = refl
onto_forgot t (l ∷ ls) = refl

lines_forgot : (ts : List Lexeme) → lines (forgot ts) ≡ map forgot (lines ts)
lines_forgot [] = refl
lines_forgot (t ∷ ts) = ap (λ l. if ends_line t then (forget t ∷ []) ∷ l else onto_line (forget t) l) (lines_forgot ts) ∙ by (ends_line t)
  where
    by : (v : Bool) → (if v then (forget t ∷ []) ∷ map forgot (lines ts) else onto_line (forget t) (map forgot (lines ts))) ≡ map forgot (if v then (t ∷ []) ∷ lines ts else onto_line t (lines ts))
    by true = refl
    by false = onto_forgot t (lines ts)

-- ---- a line by itself
blanks_forgot : (before : Option Lexeme) (u t : Lexeme) → blanks (option_map forget before) (forget u) (forget t) ≡ blanks before u t
blanks_forgot None u t = refl
blanks_forgot (Some b) u t = refl

after_forgot : (before : Option Lexeme) (u : Lexeme) (l : Line) → gaps_after (option_map forget before) (forget u) (forgot l) ≡ gaps_after before u l
after_forgot before u [] = refl
after_forgot before u (t ∷ l) = ap₂ (λ (x : ℕ) (y : List ℕ). x ∷ y) (blanks_forgot before u t) (after_forgot (Some u) t l)

plain_forgot : (n : ℕ) (l : Line) → plain_gaps n (forgot l) ≡ plain_gaps n l
plain_forgot n [] = refl
plain_forgot n (t ∷ l) = ap (λ y. indent n t ∷ y) (after_forgot None t l)

net_forgot : (l : Line) → net_of (forgot l) ≡ net_of l
net_forgot [] = refl
net_forgot (t ∷ l) = ap (λ n. plus (record { opens = opener_count t.kind; closes = closer_count t.kind }) n) (net_forgot l)

-- ---- cells
place_forgot : (test : Lexeme → Bool) → ((t : Lexeme) → test (forget t) ≡ test t) → (k : ℕ) (l : Line) → first_place_from test k (forgot l) ≡ first_place_from test k l
place_forgot test same k [] = refl
place_forgot test same k (t ∷ l) = ap₂ (λ (v : Bool) (p : Option ℕ). if v then Some k else p) (same t) (place_forgot test same (k + 1) l)

until_forgot : (l : Line) → until is_trailing (forgot l) ≡ forgot (until is_trailing l)
until_forgot [] = refl
until_forgot (t ∷ l) = ap (λ y. if is_trailing t then [] else forget t ∷ y) (until_forgot l) ∙ by (is_trailing t)
  where
    by : (v : Bool) → (if v then [] else forget t ∷ forgot (until is_trailing l)) ≡ forgot (if v then [] else t ∷ until is_trailing l)
    by true = refl
    by false = refl

before_comment_forgot : (l : Line) → before_comment (forgot l) ≡ forgot (before_comment l)
before_comment_forgot [] = refl
before_comment_forgot (t ∷ l) = ap (λ y. forget t ∷ y) (until_forgot l)

multiline_forgot : (l : Line) → has_multiline (forgot l) ≡ has_multiline l
multiline_forgot [] = refl
multiline_forgot (t ∷ l) = ap (λ b. is_multiline t || b) (multiline_forgot l)

drop_forgot : (i : ℕ) (l : Line) → drop i (forgot l) ≡ forgot (drop i l)
drop_forgot zero l = refl
drop_forgot (suc i) [] = refl
drop_forgot (suc i) (t ∷ l) = drop_forgot i l

level_forgot : (l : Line) (p : Option ℕ) → if_level (forgot l) p ≡ if_level l p
level_forgot l None = refl
level_forgot l (Some i) = ap (λ n. if is_level n then Some i else None) (ap net_of (drop_forgot i l) ∙ net_forgot (drop i l))

place_line : (test : Lexeme → Bool) → ((t : Lexeme) → test (forget t) ≡ test t) → (l : Line) → first_place test (forgot l) ≡ first_place test l
place_line test same l = ap (first_place_from test 1) (drop_forgot 1 l) ∙ place_forgot test same 1 (drop 1 l)

assign_forgot : (l : Line) → assign_cell (forgot l) ≡ assign_cell l
assign_forgot l = ap₂ (λ (v : Bool) (p : Option ℕ). if v then None else p) (multiline_forgot l)
    (ap₂ (λ (b : Line) (p : Option ℕ). if_level b p) (before_comment_forgot l) (ap (first_place is_assignment) (before_comment_forgot l) ∙ place_line is_assignment (λ t. refl) (before_comment l)) ∙ level_forgot (before_comment l) (first_place is_assignment (before_comment l)))

trailing_forgot : (l : Line) → trailing_comment (forgot l) ≡ trailing_comment l
trailing_forgot l = place_line is_trailing (λ t. refl) l

running_forgot : (l : Line) → running_comment (forgot l) ≡ running_comment l
running_forgot l = ap₂ (λ (v : Bool) (p : Option ℕ). if v then None else p) (multiline_forgot l) (trailing_forgot l)

-- ---- columns
width_forgot : (i : ℕ) (gs : List ℕ) (l : Line) → width i gs (forgot l) ≡ width i gs l
width_forgot zero gs l = refl
width_forgot (suc i) [] l = refl
width_forgot (suc i) (g ∷ gs) [] = refl
width_forgot (suc i) (g ∷ gs) (t ∷ l) = ap (λ n. g + clusters t + n) (width_forgot i gs l)

width_at : (gs : List ℕ) (l : Line) (c : Option ℕ) → option_map (λ i. width i gs (forgot l)) c ≡ option_map (λ i. width i gs l) c
width_at gs l None = refl
width_at gs l (Some i) = ap (λ n. Some n) (width_forgot i gs l)

widths_forgot : (cell : Line → Option ℕ) → ((l : Line) → cell (forgot l) ≡ cell l) → (gs : List (List ℕ)) (ls : List Line) → widths cell gs (map forgot ls) ≡ widths cell gs ls
widths_forgot cell same [] ls = refl
widths_forgot cell same (g ∷ gs) [] = refl
widths_forgot cell same (g ∷ gs) (l ∷ ls) =
    ap₂ (λ (x : Option ℕ) (y : List (Option ℕ)). x ∷ y) (ap (option_map (λ i. width i g (forgot l))) (same l) ∙ width_at g l (cell l)) (widths_forgot cell same gs ls)

set_forgot : (c : Option ℕ) (gs : List ℕ) (l : Line) (column : Option ℕ) → set_gap c gs (forgot l) column ≡ set_gap c gs l column
set_forgot None gs l column = refl
set_forgot (Some i) gs l column = ap (λ n. slice_set gs i (gap_to column n)) (width_forgot i gs l)

aligned_by_forgot : (cell : Line → Option ℕ) → ((l : Line) → cell (forgot l) ≡ cell l) → (gs : List (List ℕ)) (ls : List Line) (cs : List (Option ℕ)) → aligned_gaps_by cell gs (map forgot ls) cs ≡ aligned_gaps_by cell gs ls cs
aligned_by_forgot cell same [] ls cs = refl
aligned_by_forgot cell same (g ∷ gs) [] cs = refl
aligned_by_forgot cell same (g ∷ gs) (l ∷ ls) [] = refl
aligned_by_forgot cell same (g ∷ gs) (l ∷ ls) (c ∷ cs) =
    ap₂ (λ (x : List ℕ) (y : List (List ℕ)). x ∷ y) (ap (λ k. set_gap k g (forgot l) c) (same l) ∙ set_forgot (cell l) g l c) (aligned_by_forgot cell same gs ls cs)

aligned_forgot : (cell running : Line → Option ℕ) → ((l : Line) → cell (forgot l) ≡ cell l) → ((l : Line) → running (forgot l) ≡ running l) → (gs : List (List ℕ)) (ls : List Line) → aligned_gaps cell running gs (map forgot ls) ≡ aligned_gaps cell running gs ls
aligned_forgot cell running same still gs ls = ap (λ w. aligned_gaps_by cell gs (map forgot ls) (columns w)) (widths_forgot running still gs ls) ∙ aligned_by_forgot cell same gs ls (columns (widths running gs ls))

-- ---- all lines
nets_forgot : (ls : List Line) → map net_of (map forgot ls) ≡ map net_of ls
nets_forgot [] = refl
nets_forgot (l ∷ ls) = ap₂ (λ (x : Net) (y : List Net). x ∷ y) (net_forgot l) (nets_forgot ls)

zip_forgot : (ns : List ℕ) (ls : List Line) → zip_with plain_gaps ns (map forgot ls) ≡ zip_with plain_gaps ns ls
zip_forgot [] ls = refl
zip_forgot (n ∷ ns) [] = refl
zip_forgot (n ∷ ns) (l ∷ ls) = ap₂ (λ (x : List ℕ) (y : List (List ℕ)). x ∷ y) (plain_forgot n l) (zip_forgot ns ls)

indented_forgot : (ls : List Line) → indented_gaps (map forgot ls) ≡ indented_gaps ls
indented_forgot ls = ap (λ ns. zip_with plain_gaps (levels ns) (map forgot ls)) (nets_forgot ls) ∙ zip_forgot (levels (map net_of ls)) ls

assigned_forgot : (ls : List Line) → aligned_gaps assign_cell assign_cell (indented_gaps (map forgot ls)) (map forgot ls) ≡ aligned_gaps assign_cell assign_cell (indented_gaps ls) ls
assigned_forgot ls = ap (λ gs. aligned_gaps assign_cell assign_cell gs (map forgot ls)) (indented_forgot ls) ∙ aligned_forgot assign_cell assign_cell assign_forgot assign_forgot (indented_gaps ls) ls

line_gaps_forgot : (ls : List Line) → line_gaps (map forgot ls) ≡ line_gaps ls
line_gaps_forgot ls =
    ap (λ gs. aligned_gaps trailing_comment running_comment gs (map forgot ls)) (assigned_forgot ls)
    ∙ aligned_forgot trailing_comment running_comment trailing_forgot running_forgot (aligned_gaps assign_cell assign_cell (indented_gaps ls) ls) ls

gaps_forgot : (ts : List Lexeme) → gaps (forgot ts) ≡ gaps ts
gaps_forgot ts = ap (λ ls. flat_map (λ g. g) (line_gaps ls)) (lines_forgot ts) ∙ ap (λ gs. flat_map (λ g. g) gs) (line_gaps_forgot (lines ts))

placed_forgot : (at : ℕ) (ps : List (ℕ × Lexeme)) → forgot (placed_tokens at ps) ≡ forgot (without_gaps ps)
placed_forgot at [] = refl
placed_forgot at (p ∷ ps) = ap (λ y. forget p.1 ∷ y) (placed_forgot (at + p.0 + length p.1.text) ps)

pub same_tokens : (ts : List Lexeme) → forgot (printed_tokens ts) ≡ forgot ts
same_tokens ts = placed_forgot 0 (with_gaps (gaps ts) ts) ∙ ap forgot (tokens_are ts)

printed_forgot : (gs : List ℕ) (ts : List Lexeme) → printed_text gs (forgot ts) ≡ printed_text gs ts
printed_forgot [] ts = refl
printed_forgot (g ∷ gs) [] = refl
printed_forgot (g ∷ gs) (t ∷ ts) = ap (λ y. (replicate g 32 ++ t.text) ++ y) (printed_forgot gs ts)

print_forgot : (ts : List Lexeme) → print (forgot ts) ≡ print ts
print_forgot ts = ap (λ gs. printed_text gs (forgot ts)) (gaps_forgot ts) ∙ printed_forgot (gaps ts) ts

-- THE PRINT OF A PRINT is the print
pub print_again : (ts : List Lexeme) → print (printed_tokens ts) ≡ print ts
print_again ts = sym (print_forgot (printed_tokens ts)) ∙ ap print (same_tokens ts) ∙ print_forgot ts

-- ---- the lookaheads of the grammar
seen_forgot : (n : ℕ) (ts : List Lexeme) → lookaheads_from n (forgot ts) ≡ lookaheads_from n ts
seen_forgot n [] = refl
seen_forgot n (t ∷ ts) = ap (λ (l : List Lookahead). if is_trivia (class_of t) then l else record { class = class_of t; number = n } ∷ l) (seen_forgot (n + 1) ts)

pub seen_again : (ts : List Lexeme) → lookaheads (printed_tokens ts) ≡ lookaheads ts
seen_again ts = sym (seen_forgot 0 (printed_tokens ts)) ∙ ap lookaheads (same_tokens ts) ∙ seen_forgot 0 ts
