-- A print has the tokens of its text on the same lines: the texts before each token are the same, and so are their LFs.
use Rattle.std.proofs.Common.{◌≡◌, ◌∙◌, ℕ, zero, suc, ◌+◌, ◌≤◌, ◌<◌, ◌==◌, List, [], ◌∷◌, ◌++◌, length, take, ⊎_elim, refl, sym, ap, subst, arith}
use Rattle.std.specs.Prelude.{count_by}
use Rattle.std.specs.List.{flat_map}
use Rattle.std.proofs.lemmas.Bool.{cases_lt}
use Rattle.std.proofs.lemmas.List.{length-map}
use Rattle.hcl_tokens.specs.Lexemes.{Lexeme}
use Rattle.hcl_source.specs.Places.{line_of}
use Rattle.hcl_tokens.specs.Scans.{Scans}
use Rattle.hcl_scan.proofs.TokenLineLemmas.{line_is}
use Rattle.hcl_tokens.proofs.OneReadingLemmas.{one_scan}
use Rattle.hcl_scan.proofs.SpellingLemmas.{one_kind}
use Rattle.hcl_tokens.proofs.NonemptyLemmas.{nonempty}
use Rattle.hcl_grammar.specs.Numbered.{Numbered, number_tokens, numbered_from}
use Rattle.hcl_grammar.specs.Verdict.{start_of}
use Rattle.hcl_layout.specs.Print.{print}
use Rattle.text_format.specs.Reprinted.{printed_tokens}
use Rattle.text_format.proofs.ForgetPlaceLemmas.{forget, forgot, same_tokens}
use Rattle.text_format.proofs.RescanLemmas.{scans_again}

-- ---- tokens without their places
numbered_forgot : (n : ℕ) (ts : List Lexeme) → numbered_from n (forgot ts) ≡ numbered_from n ts
numbered_forgot n [] = refl
numbered_forgot n (t ∷ ts) = ap (λ (l : List Numbered). record { number = n; kind = t.kind; text = t.text } ∷ l) (numbered_forgot (n + 1) ts)

abbrev texts : List Lexeme → List ℕ
texts ts = flat_map (λ t. t.text) ts

front_forgot : (n : ℕ) (ts : List Lexeme) → texts (take n (forgot ts)) ≡ texts (take n ts)
front_forgot zero [] = refl
front_forgot (suc n) [] = refl
front_forgot zero (t ∷ ts) = refl
front_forgot (suc n) (t ∷ ts) = ap (λ l. t.text ++ l) (front_forgot n ts)

same_front : (n : ℕ) (ts : List Lexeme) → texts (take n (printed_tokens ts)) ≡ texts (take n ts)
same_front n ts = sym (front_forgot n (printed_tokens ts)) ∙ ap (λ l. texts (take n l)) (same_tokens ts) ∙ front_forgot n ts

same_length : (ts : List Lexeme) → length (printed_tokens ts) ≡ length ts
same_length ts = sym (length-map (printed_tokens ts) forget) ∙ ap length (same_tokens ts) ∙ length-map ts forget

-- ---- the line of the token of a number
record At (ts : List Lexeme) (n : ℕ) : Type 0 where
  t : Lexeme
  back : List Lexeme
  whole : ts ≡ take n ts ++ t ∷ back
  start : start_of ts n ≡ t.start

there : (ts : List Lexeme) (n : ℕ) → n < length ts → At ts n
there [] n h = absurd (omega (arith, h))
there (t ∷ ts) zero h = record { t = t; back = ts; whole = refl; start = refl }
there (t ∷ ts) (suc n) h = let rec = there ts n (omega (arith, h)) in record { t = rec.t; back = rec.back; whole = ap (λ l. t ∷ l) rec.whole; start = rec.start }

line_there : (text : List ℕ) (ts : List Lexeme) (n : ℕ) → Scans text ts → n < length ts → line_of text (start_of ts n) ≡ 1 + count_by (λ b. b == 10) (texts (take n ts))
line_there text ts n scans h =
    let a = there ts n h in
    ap (line_of text) a.start ∙ line_is text (take n ts) a.t a.back (subst (Scans text) a.whole scans)

none_there : (ts : List Lexeme) (n : ℕ) → length ts ≤ n → start_of ts n ≡ 0
none_there [] n h = refl
none_there (t ∷ ts) zero h = absurd (omega (arith, h))
none_there (t ∷ ts) (suc n) h = none_there ts n (omega (arith, h))

first_line : (text : List ℕ) → line_of text 0 ≡ 1
first_line [] = refl
first_line (b ∷ text) = refl

-- ---- THE LAWS
pub numbered_again : (text : List ℕ) (ts us : List Lexeme) → Scans text ts → Scans (print ts) us → number_tokens us ≡ number_tokens ts
numbered_again text ts us scans again =
    ap number_tokens (one_scan one_kind nonempty (print ts) us (printed_tokens ts) again (scans_again text ts scans))
    ∙ sym (numbered_forgot 0 (printed_tokens ts)) ∙ ap number_tokens (same_tokens ts) ∙ numbered_forgot 0 ts

printed_lines : (text : List ℕ) (ts : List Lexeme) → Scans text ts → (n : ℕ) → line_of (print ts) (start_of (printed_tokens ts) n) ≡ line_of text (start_of ts n)
printed_lines text ts scans n = ⊎_elim within beyond (cases_lt n (length ts))
  where
    within : n < length ts → line_of (print ts) (start_of (printed_tokens ts) n) ≡ line_of text (start_of ts n)
    within h =
        line_there (print ts) (printed_tokens ts) n (scans_again text ts scans) (omega (arith, h, same_length ts))
        ∙ ap (λ l. 1 + count_by (λ b. b == 10) l) (same_front n ts) ∙ sym (line_there text ts n scans h)

    beyond : length ts ≤ n → line_of (print ts) (start_of (printed_tokens ts) n) ≡ line_of text (start_of ts n)
    beyond h =
        ap (line_of (print ts)) (none_there (printed_tokens ts) n (omega (arith, h, same_length ts))) ∙ first_line (print ts)
        ∙ sym (ap (line_of text) (none_there ts n h) ∙ first_line text)

pub lines_again : (text : List ℕ) (ts us : List Lexeme) → Scans text ts → Scans (print ts) us → (n : ℕ) → line_of (print ts) (start_of us n) ≡ line_of text (start_of ts n)
lines_again text ts us scans again n =
    ap (λ l. line_of (print ts) (start_of l n)) (one_scan one_kind nonempty (print ts) us (printed_tokens ts) again (scans_again text ts scans))
    ∙ printed_lines text ts scans n
