-- The texts of scanned tokens are parts of the source, one after another, so they are no longer than it.
use Rattle.std.proofs.Common.{◌≡◌, ◌∙◌, ◌+◌, ◌≤◌, ℕ, suc, zero, List, [], ◌∷◌, length, ap, refl, subst, sym, arith, take, drop, length-append, length-drop, ⊎_elim}
use Rattle.hcl_tokens.specs.Lexemes.{Lexeme, marker_of}
use Rattle.hcl_tokens.specs.Scans.{Closes, Hidden, Next, Reads, Run, Scans, Leaves, State, ahead, begin, gap_len, closer_len}
use Rattle.hcl_tokens.specs.declared.token.Kind.{Kind}
use Rattle.hcl_tokens.specs.declared.token.Kind.TheVariants as kind
use Rattle.hcl_layout.specs.Inner.Bounds.{AreDisjoint}
use Rattle.hcl_layout.specs.Inner.LineGaps.{len_with_blanks}

cut_length : (n : ℕ) (xs : List ℕ) → length (take n xs) + length (drop n xs) ≡ length xs
cut_length zero xs = omega arith
cut_length (suc n) [] = refl
cut_length (suc n) (x ∷ xs) = omega (arith, cut_length n xs)

abbrev hidden_length : List Hidden → ℕ
hidden_length [] = 0
hidden_length (h ∷ hidden) = length h.closer + length h.after + hidden_length hidden

-- the rest of the text, visible and hidden
abbrev left_length : State → ℕ
left_length s = length s.seen + hidden_length s.hidden

stays_in_place : (rest : List ℕ) (hidden : List Hidden) (seen : List ℕ) (after : List Hidden) → (seen ≡ rest) × (after ≡ hidden) → length seen + hidden_length after ≡ length rest + hidden_length hidden
stays_in_place rest hidden seen after p = omega (arith, ap length p.0, ap hidden_length p.1)

shows_length : (k : Kind) (text rest : List ℕ) (hidden : List Hidden) (seen : List ℕ) (after : List Hidden) → Leaves k text rest hidden seen after
    → length seen + hidden_length after ≡ length rest + hidden_length hidden
shows_length kind.Newline text rest hidden seen after p = stays_in_place rest hidden seen after p
shows_length kind.LineComment text rest hidden seen after p = stays_in_place rest hidden seen after p
shows_length kind.InlineComment text rest hidden seen after p = stays_in_place rest hidden seen after p
shows_length kind.Blank text rest hidden seen after p = stays_in_place rest hidden seen after p
shows_length kind.Ident text rest hidden seen after p = stays_in_place rest hidden seen after p
shows_length kind.Number text rest hidden seen after p = stays_in_place rest hidden seen after p
shows_length kind.HeredocOpen text rest hidden seen after p =
    omega (arith, ap length p.2, ap hidden_length p.3, cut_length p.0 rest, cut_length (closer_len (marker_of text) (drop p.0 rest)) (drop p.0 rest))
shows_length kind.QuoteOpen text rest hidden seen after p = stays_in_place rest hidden seen after p
shows_length kind.ParenOpen text rest hidden seen after p = stays_in_place rest hidden seen after p
shows_length kind.BracketOpen text rest hidden seen after p = stays_in_place rest hidden seen after p
shows_length kind.BraceOpen text rest hidden seen after p = stays_in_place rest hidden seen after p
shows_length kind.ParenClose text rest hidden seen after p = stays_in_place rest hidden seen after p
shows_length kind.BracketClose text rest hidden seen after p = stays_in_place rest hidden seen after p
shows_length kind.SeqClose text rest hidden seen after p = stays_in_place rest hidden seen after p
shows_length kind.BraceClose text rest hidden seen after p = stays_in_place rest hidden seen after p
shows_length kind.Dot text rest hidden seen after p = stays_in_place rest hidden seen after p
shows_length kind.Comma text rest hidden seen after p = stays_in_place rest hidden seen after p
shows_length kind.Ellipsis text rest hidden seen after p = stays_in_place rest hidden seen after p
shows_length kind.Question text rest hidden seen after p = stays_in_place rest hidden seen after p
shows_length kind.Colon text rest hidden seen after p = stays_in_place rest hidden seen after p
shows_length kind.ColonColon text rest hidden seen after p = stays_in_place rest hidden seen after p
shows_length kind.Assign text rest hidden seen after p = stays_in_place rest hidden seen after p
shows_length kind.Arrow text rest hidden seen after p = stays_in_place rest hidden seen after p
shows_length kind.Not text rest hidden seen after p = stays_in_place rest hidden seen after p
shows_length kind.Minus text rest hidden seen after p = stays_in_place rest hidden seen after p
shows_length kind.Plus text rest hidden seen after p = stays_in_place rest hidden seen after p
shows_length kind.Star text rest hidden seen after p = stays_in_place rest hidden seen after p
shows_length kind.Slash text rest hidden seen after p = stays_in_place rest hidden seen after p
shows_length kind.Percent text rest hidden seen after p = stays_in_place rest hidden seen after p
shows_length kind.And text rest hidden seen after p = stays_in_place rest hidden seen after p
shows_length kind.Or text rest hidden seen after p = stays_in_place rest hidden seen after p
shows_length kind.Equal text rest hidden seen after p = stays_in_place rest hidden seen after p
shows_length kind.NotEqual text rest hidden seen after p = stays_in_place rest hidden seen after p
shows_length kind.Less text rest hidden seen after p = stays_in_place rest hidden seen after p
shows_length kind.Greater text rest hidden seen after p = stays_in_place rest hidden seen after p
shows_length kind.LessEqual text rest hidden seen after p = stays_in_place rest hidden seen after p
shows_length kind.GreaterEqual text rest hidden seen after p = stays_in_place rest hidden seen after p
shows_length kind.Lit text rest hidden seen after p = stays_in_place rest hidden seen after p
shows_length kind.InterpOpen text rest hidden seen after p = stays_in_place rest hidden seen after p
shows_length kind.ControlOpen text rest hidden seen after p = stays_in_place rest hidden seen after p
shows_length kind.QuoteClose text rest hidden seen after p = stays_in_place rest hidden seen after p
shows_length kind.HeredocClose text rest hidden seen after p = stays_in_place rest hidden seen after p

reads_length : (s : State) (t : Lexeme) (next : State) → Reads s t next → length t.text + left_length next ≤ left_length s
reads_length s t next p =
    let whole : length t.text + length p.rest ≡ length (ahead s) = sym (length-append t.text p.rest) ∙ ap length p.longest.whole in
    omega (arith, whole, length-drop (gap_len s) s.seen, shows_length t.kind t.text p.rest s.hidden next.seen next.hidden p.leaves)

closes_length : (s : State) (t : Lexeme) (next : State) → Closes s t next → length t.text + left_length next ≤ left_length s
closes_length s t next p = omega (arith, ap left_length p.next_is, ap hidden_length p.line)

next_length : (s : State) (t : Lexeme) (next : State) → Next s t next → length t.text + left_length next ≤ left_length s
next_length s t next p = ⊎_elim (reads_length s t next) (closes_length s t next) p

run_length : (ts : List Lexeme) (s end : State) → Run s ts end → len_with_blanks ts ≤ length ts + left_length s
run_length [] s end p = omega arith
run_length (t ∷ ts) s end p = omega (arith, next_length s t p.0 p.1, run_length ts p.0 end p.2)

pub scanned_len_with_blanks : (text : List ℕ) (ts : List Lexeme) → Scans text ts → len_with_blanks ts ≤ length ts + length text
scanned_len_with_blanks text ts p = omega (arith, run_length ts (begin text) p.0 p.1)

-- ---- no two share a byte

next_disjoint : (s : State) (t : Lexeme) (next : State) → Next s t next → (s.at ≤ t.start) × (next.at ≡ t.start + length t.text)
next_disjoint s t next p = ⊎_elim (λ q. (omega (arith, q.start), q.at)) (λ q. (omega (arith, q.start), omega (arith, ap (λ (x : State). x.at) q.next_is, q.start))) p

run_disjoint : (ts : List Lexeme) (s end : State) → Run s ts end → AreDisjoint s.at ts
run_disjoint [] s end p = tt
run_disjoint (t ∷ ts) s end p =
    let next = next_disjoint s t p.0 p.1 in
    (next.0, subst (λ k. AreDisjoint k ts) next.1 (run_disjoint ts p.0 end p.2))

pub scanned_disjoint : (text : List ℕ) (ts : List Lexeme) → Scans text ts → AreDisjoint 0 ts
scanned_disjoint text ts p = run_disjoint ts (begin text) p.0 p.1
