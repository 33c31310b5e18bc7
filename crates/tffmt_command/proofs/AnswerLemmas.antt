-- An input has one answer at most, and a run in which nothing failed gives it.
use Rattle.std.proofs.Common.{cond, ◌≡◌, ◌∙◌, ℕ, ◌≤◌, ◌<◌, ◌++◌, Bool, true, false, List, [], Option, Some, None, refl, sym, ap, subst, inl, inr, ◌⊎◌, ⊎_elim, length, arith, append-nil}
use Rattle.std.specs.Io.KnownBytes.{Consumes, IsAtEnd}
use Rattle.std.specs.Prelude.{Result, Ok, Err, nat_lt, ◌||◌}
use Rattle.std.specs.Str.{bytes_eq}
use Rattle.std.proofs.lemmas.Bool.Decides.{nat_tests}
use Rattle.hcl_layout.specs.Print.{print}
use Rattle.hcl_tokens.specs.Scanned.{IsScanError, Scanned}
use Rattle.hcl_tokens.specs.declared.token.ScanError.{ScanError}
use Rattle.hcl_tokens.specs.declared.token.ScanError.TheVariants as scan_error
use Rattle.hcl_source.specs.Load.{max_source, IsText, IsLoadFault, Loads, is_failed_load, print_too_large}
use Rattle.hcl_source.specs.declared.fault.LoadError.{LoadError}
use Rattle.hcl_source.specs.declared.fault.LoadError.TheVariants as error
use Rattle.hcl_source.specs.declared.fault.Fault.{Fault}
use Rattle.hcl_source.proofs.LoadLemmas.{one_load_fault, text_or_fault, too_large_too}
use Rattle.hcl_scan.proofs.SpellingLemmas.{one_kind}
use Rattle.hcl_grammar.proofs.VerdictLemmas.{one_verdict}
use Rattle.command_line.specs.Rows.{Row, End, Shows, OrOutOfMemory}
use Rattle.tffmt_command.specs.Rows.{IsRow, OfInput, formatter}
use Rattle.tffmt_command.specs.Answer.{refusal_row, row_of_file, row_by, IsTextAnswer, IsFileAnswer, IsAnswerBy, IsAnswer}
use Rattle.tffmt_command.specs.Line.{options_of}
use Rattle.tffmt_command.specs.declared.options.FmtOptions.{FmtOptions}
use Rattle.tffmt_command.specs.declared.options.Usage.{Usage}
use Rattle.tffmt_command.specs.declared.options.Usage.TheVariants as usage

module _ (options : FmtOptions) where
  one_text_answer : (text : List ℕ) (row other : Row) → IsTextAnswer options text row → IsTextAnswer options text other → row ≡ other
  one_text_answer text row other x y = x.2 ∙ ap (row_by options) (one_verdict one_kind text x.0 y.0 x.1 y.1) ∙ sym y.2

  one_file_answer : (input : List ℕ) (row other : Row) → IsFileAnswer options input row → IsFileAnswer options input other → row ≡ other
  one_file_answer input row other (inl x) (inl y) = x.2 ∙ ap refusal_row (one_load_fault input x.0 y.0 x.1 y.1) ∙ sym y.2
  one_file_answer input row other (inl x) (inr y) = absurd (text_or_fault input x.0 y.0 x.1)
  one_file_answer input row other (inr x) (inl y) = absurd (text_or_fault input y.0 x.0 y.1)
  one_file_answer input row other (inr x) (inr y) = one_text_answer input row other x.1 y.1

one_answer_by : (r : Result FmtOptions Usage) (input : List ℕ) (row other : Row) → IsAnswerBy r input row → IsAnswerBy r input other → row ≡ other
one_answer_by (Ok options) input row other x y = one_file_answer options input row other x y
one_answer_by (Err usage.Help) input row other x y = x ∙ sym y
one_answer_by (Err usage.BadLine) input row other x y = x ∙ sym y
one_answer_by (Err usage.OutOfMemory) input row other x y = absurd x

pub one_answer : (words : List (List ℕ)) (input : List ℕ) (row other : Row) → IsAnswer words input row → IsAnswer words input other → row ≡ other
one_answer words = one_answer_by (options_of words)

-- ---- from the bytes taken to the input

-- the bytes taken up to the end are the input
pub whole_input : (left left' : Option (List ℕ)) (bytes : List ℕ) (P : List ℕ → Type 0) → Consumes left left' bytes → IsAtEnd left' → P bytes → OfInput left P
whole_input None left' bytes P taken done p = (bytes, p)
whole_input (Some xs) None bytes P taken done p = absurd taken
whole_input (Some xs) (Some ys) bytes P taken done p = subst P (sym (taken ∙ ap (λ l. bytes ++ l) done ∙ append-nil bytes)) p

-- a fault of the bytes taken is that of the input
pub fault_of_input : (options : FmtOptions) (left left' : Option (List ℕ)) (bytes : List ℕ) (fault : Fault) → Consumes left left' bytes → (length bytes ≤ max_source → IsAtEnd left') → IsLoadFault bytes fault
    → OfInput left (λ input. IsFileAnswer options input (refusal_row fault))
fault_of_input options None left' bytes fault taken done x = (bytes, inl (fault, x, refl))
fault_of_input options (Some xs) None bytes fault taken done x = absurd taken
fault_of_input options (Some xs) (Some ys) bytes fault taken done x =
    ⊎_elim (λ le. inl (fault, subst (λ l. IsLoadFault l fault) (sym (taken ∙ ap (λ l. bytes ++ l) (done le) ∙ append-nil bytes)) x, refl))
    (λ gt. inl (fault, subst (λ l. IsLoadFault l fault) (sym taken) (too_large_too bytes ys fault gt x), refl))
    (below (length bytes) max_source)
  where
    below : (a b : ℕ) → (a ≤ b) ⊎ (b < a)
    below a b = grind arith

-- ---- a run in which nothing failed and memory sufficed

module _ (answer : List ℕ → Row → Type 0) (end : End) where
  abbrev Answered : Option (List ℕ) → Type 0
  Answered left = OfInput left (λ input. (row : Row) × answer input row × Shows formatter row end)

  by_row : (left : Option (List ℕ)) (row : Row) → OfInput left (λ input. answer input row) → Shows formatter row end → Answered left
  by_row None row a s = (a.0, (row, a.1, s))
  by_row (Some input) row a s = (row, a, s)

  or_memory : (left : Option (List ℕ)) (row : Row) → OrOutOfMemory formatter (λ r. OfInput left (λ input. answer input r)) row → Shows formatter row end
      → (end.out.failed || end.err.failed) ≡ false → (end.status ≡ 4 → ⊥) → Answered left
  or_memory left row (inl e) s fine four = absurd (four (s.exit ∙ ap (λ b. cond b 4 row.status) fine ∙ ap (λ (r : Row). r.status) e))
  or_memory left row (inr a) s fine four = by_row left row a s

  pub answered : (left : Option (List ℕ)) (r : Bool) → (row : Row) × IsRow answer r left row × Shows formatter row end
      → r ≡ false → end.out.failed ≡ false → end.err.failed ≡ false → (end.status ≡ 4 → ⊥) → Answered left
  answered left r w p q s four = or_memory left w.0 (subst (λ b. IsRow answer b left w.0) p w.1) w.2 (ap (λ b. b || end.err.failed) q ∙ s) four

-- ---- the row of the bytes read

module _ (options : FmtOptions) where
  row_at : (failed : Bool) (left : Option (List ℕ)) (row : Row) → failed ≡ false → OrOutOfMemory formatter (λ r. OfInput left (λ input. IsFileAnswer options input r)) row → IsRow (IsFileAnswer options) failed left row
  row_at failed left row e h = subst (λ b. IsRow (IsFileAnswer options) b left row) (sym e) h

  pub row_of_text : (failed : Bool) (left left' : Option (List ℕ)) (source bytes : List ℕ) (row : Row) → failed ≡ false → Consumes left left' bytes → source ≡ bytes → IsText bytes → IsAtEnd left'
      → OrOutOfMemory formatter (IsTextAnswer options source) row → IsRow (IsFileAnswer options) failed left row
  row_of_text failed left left' source bytes row e taken is text done (inl m) = row_at failed left row e (inl m)
  row_of_text failed left left' source bytes row e taken is text done (inr a) =
      row_at failed left row e (inr (whole_input left left' bytes (λ input. IsFileAnswer options input row) taken done (inr (text, subst (λ l. IsTextAnswer options l row) is a))))

  pub row_of_fault : (failed : Bool) (left left' : Option (List ℕ)) (bytes : List ℕ) (fault : Fault) (row : Row) → failed ≡ false → Consumes left left' bytes → IsLoadFault bytes fault → (length bytes ≤ max_source → IsAtEnd left')
      → OrOutOfMemory formatter (λ r. r ≡ refusal_row fault) row → IsRow (IsFileAnswer options) failed left row
  row_of_fault failed left left' bytes fault row e taken x done (inl m) = row_at failed left row e (inl m)
  row_of_fault failed left left' bytes fault row e taken x done (inr is) =
      row_at failed left row e (inr (subst (λ (r : Row). OfInput left (λ input. IsFileAnswer options input r)) (sym is) (fault_of_input options left left' bytes fault taken done x)))

pub fault_loads : (bytes : List ℕ) (left : Option (List ℕ)) (e : LoadError) (fault : Fault) → e ≡ error.Fault fault → Loads bytes left (Err e) → IsLoadFault bytes fault × (length bytes ≤ max_source → IsAtEnd left)
fault_loads bytes left e fault is l = subst (λ (x : LoadError). Loads bytes left (Err x)) is l

pub no_read_fault : (e : LoadError) (fault : Fault) → e ≡ error.Fault fault → is_failed_load (Err e) ≡ false
no_read_fault e fault is = ap (λ (x : LoadError). is_failed_load (Err x)) is

-- ---- from the options to the words

pub row_of_options : (r : Result FmtOptions Usage) (options : FmtOptions) (failed : Bool) (left : Option (List ℕ)) (row : Row) → (Ok options ≡ Err usage.OutOfMemory) ⊎ (Ok options ≡ r)
    → IsRow (IsFileAnswer options) failed left row → IsRow (IsAnswerBy r) failed left row
row_of_options r options failed left row (inl e) w = absurd (cc)
row_of_options r options failed left row (inr e) w = subst (λ (x : Result FmtOptions Usage). IsRow (IsAnswerBy x) failed left row) e w

-- ---- a print that is too large

lt_true : (a b : ℕ) → a < b → nat_lt a b ≡ true
lt_true a b h = grind (arith, nat_tests)

pub row_too_large : (options : FmtOptions) (s : Scanned) (row : Row) → max_source < length (print s.tokens) → OrOutOfMemory formatter (λ r. r ≡ refusal_row print_too_large) row → OrOutOfMemory formatter (λ r. r ≡ row_of_file options s) row
row_too_large options s row more (inl m) = inl m
row_too_large options s row more (inr is) = inr (is ∙ sym (too_large_row (lt_true max_source (length (print s.tokens)) more)))
  where
    too_large_row : nat_lt max_source (length (print s.tokens)) ≡ true → row_of_file options s ≡ refusal_row print_too_large
    too_large_row e = ap (λ b. cond b (refusal_row print_too_large) (cond options.check (record { out = []; err = []; status = cond (bytes_eq (print s.tokens) s.text) 0 3 }) (record { out = print s.tokens; err = []; status = 0 }))) e

-- ---- a scan that failed

pub refused_text : (options : FmtOptions) (text : List ℕ) (e : ScanError) (fault : Fault) → e ≡ scan_error.Fault fault → IsScanError text e → (row : Row) → OrOutOfMemory formatter (λ r. r ≡ refusal_row fault) row
    → OrOutOfMemory formatter (IsTextAnswer options text) row
refused_text options text e fault is why row (inl m) = inl m
refused_text options text e fault is why row (inr r) =
    let found : IsScanError text (scan_error.Fault fault) = subst (IsScanError text) is why in
    inr (Err fault, inl (fault.kind, found.0, found.1, (λ i. Err (record { kind = fault.kind; at = found.2 i }))), r)
