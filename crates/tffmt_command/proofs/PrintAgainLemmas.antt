-- A print of a run is printed again unchanged, and found formatted by a check.
use Rattle.std.proofs.Common.{◌≡◌, ◌∙◌, ℕ, ◌≤◌, ◌&&◌, ◌==◌, Bool, true, false, List, [], ◌∷◌, Option, Some, None, refl, sym, ap, subst, inl, inr, length, arith}
use Rattle.std.specs.Prelude.{Result, Ok, nat_lt, if◌then◌else◌}
use Rattle.std.specs.Str.{bytes_eq}
use Rattle.std.proofs.lemmas.Bool.Decides.{nat_tests}
use Rattle.hcl_tokens.specs.Lexemes.{Lexeme}
use Rattle.hcl_source.specs.Load.{max_source, IsText, print_too_large}
use Rattle.hcl_tokens.specs.Scanned.{Scanned}
use Rattle.hcl_tokens.specs.Scans.{Scans}
use Rattle.hcl_source.specs.declared.fault.Fault.{Fault}
use Rattle.hcl_grammar.specs.Classes.{lookaheads}
use Rattle.hcl_grammar.specs.Predictor.{refusal_of}
use Rattle.hcl_grammar.specs.Verdict.{verdict, verdict_by}
use Rattle.hcl_grammar.specs.declared.refusal.Refusal.{Refusal}
use Rattle.hcl_layout.specs.Print.{print}
use Rattle.text_format.specs.Reprinted.{printed_tokens}
use Rattle.text_format.proofs.RescanLemmas.{scans_again}
use Rattle.text_format.proofs.ForgetPlaceLemmas.{print_again, seen_again}
use Rattle.text_format.proofs.PrintLoadLemmas.{loads_again}
use Rattle.command_line.specs.Rows.{Row}
use Rattle.tffmt_command.specs.Answer.{refusal_row, row_of_file, row_by, IsFileAnswer, IsAnswerBy, IsAnswer}
use Rattle.tffmt_command.specs.Line.{options_of}
use Rattle.tffmt_command.specs.PrintAgain.{AskForPrint, AskForCheck, row_of_check, row_of_print}
use Rattle.tffmt_command.specs.declared.options.FmtOptions.{FmtOptions}
use Rattle.tffmt_command.specs.declared.options.Usage.{Usage}

abbrev again : FmtOptions → List ℕ → Row
again later out = if later.check then row_of_check else row_of_print out

same_bytes : (l : List ℕ) → bytes_eq l l ≡ true
same_bytes [] = refl
same_bytes (b ∷ l) = (λ i. same b i && same_bytes l i)
  where
    same : (b : ℕ) → (b == b) ≡ true
    same b = grind (arith, nat_tests)

-- an accepted file that is its own print
own_row : (later : FmtOptions) (s : Scanned) → nat_lt max_source (length (print s.tokens)) ≡ false → print s.tokens ≡ s.text → row_of_file later s ≡ again later s.text
own_row later s small e =
    (λ i. if small i then refusal_row print_too_large else (if later.check then record { out = []; err = []; status = if bytes_eq (e i) s.text then 0 else 3 } else record { out = e i; err = []; status = 0 }))
    ∙ (λ i. if later.check then record { out = []; err = []; status = if same_bytes s.text i then 0 else 3 } else record { out = s.text; err = []; status = 0 })

within : (n m : ℕ) → nat_lt m n ≡ false → n ≤ m
within n m h = grind (arith, nat_tests)

refused_not : (fault : Fault) (row : Row) → row ≡ refusal_row fault → row.status ≡ 0 → ⊥
refused_not fault row e h = let two : 2 ≡ 0 = sym (ap (λ (r : Row). r.status) e) ∙ h in omega (arith, two)

module _ (options : FmtOptions) (plain : options.check ≡ false) (later : FmtOptions) (text : List ℕ) (is : IsText text) (ts : List Lexeme) (scans : Scans text ts) (row : Row) (good : row.status ≡ 0) where
  small_row : (v : Bool) → nat_lt max_source (length (print ts)) ≡ v → refusal_of (lookaheads ts) ≡ None → row ≡ (if v then refusal_row print_too_large else (if options.check then record { out = []; err = []; status = if bytes_eq (print ts) text then 0 else 3 } else record { out = print ts; err = []; status = 0 })) → IsFileAnswer later row.out (again later row.out)
  small_row true l accepted e = absurd (refused_not print_too_large row e good)
  small_row false l accepted e =
      let row_is : row ≡ record { out = print ts; err = []; status = 0 } = e ∙ ap (λ b. if b then record { out = []; err = []; status = if bytes_eq (print ts) text then 0 else 3 } else record { out = print ts; err = []; status = 0 }) plain in
      let out_is : print ts ≡ row.out = sym (ap (λ (r : Row). r.out) row_is) in
      let s : Scanned = record { text = print ts; tokens = printed_tokens ts } in
      let none : refusal_of (lookaheads (printed_tokens ts)) ≡ None = ap refusal_of (seen_again ts) ∙ accepted in
      let small : nat_lt max_source (length (print (printed_tokens ts))) ≡ false = ap (λ p. nat_lt max_source (length p)) (print_again ts) ∙ l in
      let own : again later (print ts) ≡ row_by later (verdict s) = sym (own_row later s small (print_again ts)) ∙ ap (λ r. row_by later (verdict_by s r)) (sym none) in
      subst (λ (o : List ℕ). IsFileAnswer later o (again later o)) out_is (inr (loads_again text ts is scans (within (length (print ts)) max_source l), (verdict s, inr (printed_tokens ts, scans_again text ts scans, refl), own)))

  by_verdict : (r : Option Refusal) → refusal_of (lookaheads ts) ≡ r → row ≡ row_by options (verdict_by (record { text = text; tokens = ts }) r) → IsFileAnswer later row.out (again later row.out)
  by_verdict None e h = small_row (nat_lt max_source (length (print ts))) refl e h
  by_verdict (Some r) e h = absurd (refused_not _ row h good)

-- the printed file, by the options of later words
twice : (options later : FmtOptions) (input : List ℕ) (row : Row) → options.check ≡ false → IsFileAnswer options input row → row.status ≡ 0 → IsFileAnswer later row.out (again later row.out)
twice options later input row plain (inl x) good = absurd (refused_not x.0 row x.2 good)
twice options later input row plain (inr (is, (v, inl x, e))) good = absurd (refused_not _ row (e ∙ ap (row_by options) x.3) good)
twice options later input row plain (inr (is, (v, inr x, e))) good =
    by_verdict options plain later input is x.0 x.1 row good (refusal_of (lookaheads x.0)) refl (e ∙ ap (row_by options) x.2)

-- the printed file, by the words
twice_by : (words later : List (List ℕ)) (input : List ℕ) (row : Row) (options : FmtOptions) → AskForPrint words → options_of later ≡ Ok options → IsAnswer words input row → row.status ≡ 0 → IsAnswer later row.out (again options row.out)
twice_by words later input row options asks asks' answer good =
    subst (λ (r : Result FmtOptions Usage). IsAnswerBy r row.out (again options row.out)) (sym asks') (twice (record { check = false }) options input row refl (subst (λ (r : Result FmtOptions Usage). IsAnswerBy r input row) asks answer) good)

-- THE LAW
pub printed_again : (words later : List (List ℕ)) (input : List ℕ) (row : Row) → AskForPrint words → AskForPrint later → IsAnswer words input row → row.status ≡ 0 → IsAnswer later row.out (row_of_print row.out)
printed_again words later input row = twice_by words later input row (record { check = false })

pub found_formatted : (words later : List (List ℕ)) (input : List ℕ) (row : Row) → AskForPrint words → AskForCheck later → IsAnswer words input row → row.status ≡ 0 → IsAnswer later row.out row_of_check
found_formatted words later input row = twice_by words later input row (record { check = true })
