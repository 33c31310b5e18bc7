-- Only an empty token list prints nothing.
use Rattle.std.proofs.Common.{◌≡◌, ◌==◌, ◌++◌, ◌<◌, ◌∙◌, ℕ, false, sym, List, [], ◌∷◌, inl, inr, length, ap, arith, refl, replicate, length-append}
use Rattle.std.proofs.lemmas.Bool.Decides.{nat_tests}
use Rattle.hcl_tokens.specs.Lexemes.{Lexeme, Opener}
use Rattle.hcl_tokens.specs.Scans.{Next, Scans, State, begin}
use Rattle.hcl_tokens.proofs.OneReadingLemmas.{Nonempty}
use Rattle.hcl_tokens.proofs.NonemptyLemmas.{nonempty}
use Rattle.hcl_layout.specs.Gaps.{gaps}
use Rattle.hcl_layout.specs.Print.{print, printed_text}
use Rattle.hcl_layout.proofs.GapCountLemmas.{one_each}

-- no heredoc is closed by the first token
first_some : Nonempty → (text : List ℕ) (t : Lexeme) (next : State) → Next (begin text) t next → 0 < length t.text
unfolding Nonempty
first_some some text t next (inl p) = some [] false t.kind t.text p.rest p.longest.spelled
first_some some text t next (inr p) = let none = ap (λ (o : List Opener). length o) p.top in absurd (omega (arith, none))

printed_some : (gs : List ℕ) (t : Lexeme) (ts : List Lexeme) → 0 < length gs → 0 < length t.text → 0 < length (printed_text gs (t ∷ ts))
printed_some [] t ts a b = absurd (omega (arith, a))
printed_some (g ∷ gs) t ts a b = omega (arith, b, length-append (replicate g 32 ++ t.text) (printed_text gs ts), length-append (replicate g 32) t.text)

print_some : (text : List ℕ) (t : Lexeme) (ts : List Lexeme) → Scans text (t ∷ ts) → 0 < length (print (t ∷ ts))
print_some text t ts p = printed_some (gaps (t ∷ ts)) t ts (omega (arith, one_each (t ∷ ts))) (first_some nonempty text t p.1.0 p.1.1)

pub none_alike : (text : List ℕ) (ts : List Lexeme) → Scans text ts → (length ts == 0) ≡ (length (print ts) == 0)
none_alike text [] p = refl
none_alike text (t ∷ ts) p = no_zero (length (t ∷ ts)) (omega arith) ∙ sym (no_zero (length (print (t ∷ ts))) (print_some text t ts p))
  where
    no_zero : (n : ℕ) → 0 < n → (n == 0) ≡ false
    no_zero n lt = grind (arith, nat_tests)
