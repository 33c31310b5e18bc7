-- Accepted tokens of a scan are balanced.
use Rattle.std.proofs.Common.{◌≡◌, ℕ, ◌+◌, ◌≤◌, List, [], ◌∷◌, ◌++◌, length, arith, subst, sym, ap, ◌∙◌}
use Rattle.hcl_tokens.specs.Lexemes.{Lexeme, Opener, Quote, Heredoc, open_after, open_after_all}
use Rattle.hcl_tokens.specs.Scans.{Scans}
use Rattle.hcl_tokens.specs.declared.token.Kind.{Kind}
use Rattle.hcl_tokens.specs.declared.token.Kind.TheVariants.{ParenOpen, ParenClose, BracketClose, SeqClose, BraceClose, QuoteClose, HeredocClose}
use Rattle.hcl_tokens.proofs.OneReadingLemmas.{scan_bounded}
use Rattle.hcl_grammar.specs.Classes.{class_at}
use Rattle.hcl_grammar.specs.Verdict.{IsAccepted}
use Rattle.hcl_tokens.specs.Balanced.{max_open, opener_count, closer_count, openers, closers, IsWithin, IsBalanced}
use Rattle.hcl_grammar.proofs.UnclosedLemmas.{Shift}
use Rattle.hcl_grammar.proofs.MoveLemmas.{Shifts, accepted-shifts}

-- how many of the open openers are neither quotes nor heredocs
abbrev pub groups : List Opener → ℕ
groups [] = 0
groups (Quote ∷ os) = groups os
groups (Heredoc ∷ os) = groups os
groups (o ∷ os) = 1 + groups os

groups-few : (os : List Opener) → groups os ≤ length os
groups-few [] = omega arith
groups-few (Quote ∷ os) = omega (arith, groups-few os)
groups-few (Heredoc ∷ os) = omega (arith, groups-few os)
groups-few (o ∷ os) = omega (arith, groups-few os)

pub counted : (k : Kind) (text : List ℕ) (a b : List Opener) → Shift (class_at k text) a b → opener_count k + groups a ≡ closer_count k + groups b
counted ParenOpen text a b h = omega (arith, ap groups h)
counted k text a b h = omega (arith, ap groups h)

pub shifted : (k : Kind) (text : List ℕ) (a b : List Opener) → Shift (class_at k text) a b → open_after k a ≡ b
shifted ParenClose text a b h = ap (λ l. open_after ParenClose l) h
shifted BracketClose text a b h = ap (λ l. open_after BracketClose l) h
shifted BraceClose text a b h = ap (λ l. open_after BraceClose l) h
shifted SeqClose text a b h = ap (λ l. open_after SeqClose l) h
shifted QuoteClose text a b h = ap (λ l. open_after QuoteClose l) h
shifted HeredocClose text a b h = ap (λ l. open_after HeredocClose l) h
shifted k text a b h = sym h

all-counted : (ps : List Lexeme) (a b : List Opener) → Shifts ps a b → openers ps + groups a ≡ closers ps + groups b
all-counted [] a b h = omega (arith, ap groups h)
all-counted (t ∷ ps) a b h = omega (arith, counted t.kind t.text a h.0 h.1, all-counted ps h.0 b h.2)

all-shifted : (ps : List Lexeme) (a b : List Opener) → Shifts ps a b → open_after_all a ps ≡ b
all-shifted [] a b h = h
all-shifted (t ∷ ps) a b h = ap (λ l. open_after_all l ps) (shifted t.kind t.text a h.0 h.1) ∙ all-shifted ps h.0 b h.2

within : (text : List ℕ) (front back : List Lexeme) → Scans text (front ++ back) → IsAccepted (front ++ back) → IsWithin front
within text front back scans accepted =
    let w = accepted-shifts front back accepted in
    let room : length w.0 ≤ max_open = subst (λ l. length l ≤ max_open) (all-shifted front [] w.0 w.1) (scan_bounded text front back scans) in
    record {
      opened_first = omega (arith, all-counted front [] w.0 w.1);
      few_open = omega (arith, all-counted front [] w.0 w.1, groups-few w.0, room);
    }

pub balance : (text : List ℕ) (tokens : List Lexeme) → Scans text tokens → IsAccepted tokens → IsBalanced tokens
balance text tokens scans accepted front back e = within text front back (subst (λ l. Scans text l) (sym e) scans) (subst (λ l. IsAccepted l) (sym e) accepted)
