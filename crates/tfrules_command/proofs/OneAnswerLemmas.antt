-- Words and the files that they name have one answer at most.
use Rattle.std.proofs.Common.{◌≡◌, ◌∙◌, ◌⊎◌, ◌≤◌, ◌+◌, ◌++◌, ℕ, List, [], ◌∷◌, ap, ap₂, arith, inl, inr, length, map, refl, subst, sym}
use Rattle.std.specs.Prelude.{Result, Ok, Err}
use Rattle.std.specs.List.{AllZip}
use Rattle.std.proofs.lemmas.List.Sums.{sum_by-append, sum_by-cons}
use Rattle.command_line.specs.Rows.{Row}
use Rattle.hcl_source.specs.Places.{place}
use Rattle.hcl_source.specs.declared.fault.Fault.{Fault}
use Rattle.hcl_source.proofs.LoadLemmas.{one_load_fault, text_or_fault}
use Rattle.hcl_tokens.specs.Lexemes.{Lexeme}
use Rattle.hcl_tokens.specs.Scanned.{Scanned}
use Rattle.hcl_tokens.proofs.OneReadingLemmas.{no_fault, one_fault, one_scan}
use Rattle.hcl_scan.proofs.SpellingLemmas.{one_kind}
use Rattle.hcl_tokens.proofs.NonemptyLemmas.{nonempty}
use Rattle.hcl_grammar.proofs.VerdictLemmas.{not_both, one_verdict}
use Rattle.tf_rules.specs.Answers.{shown_issue}
use Rattle.tf_rules.specs.Issues.{IsReport}
use Rattle.tf_rules.proofs.ReportLemmas.{one_report}
use Rattle.tfrules_command.specs.AnswerLaws.{IsAnswer}
use Rattle.tfrules_command.specs.Answer.{IsAnswerBy, IsRefused, IsRefusedFirst, IsReported, refusal_row}
use Rattle.tfrules_command.specs.Files.{NamedFile, AreAccepted, IsAcceptedAs, IsFault, IsTooMuch, max_module, numbered_files, size_of}
use Rattle.tfrules_command.specs.Line.{Request, options_of}
use Rattle.tfrules_command.specs.Report.{report_row}
use Rattle.tfrules_command.specs.declared.usage.Usage.{Usage}
use Rattle.tfrules_command.specs.declared.usage.Usage.TheVariants as usage

-- ---- one text

abbrev source_or : Scanned → Result Scanned Fault → Scanned
source_or other (Ok source) = source
source_or other (Err fault) = other

abbrev fault_or : Fault → Result Scanned Fault → Fault
fault_or other (Ok source) = other
fault_or other (Err fault) = fault

-- ---- accepted files

one_source : (file : NamedFile) (source other : Scanned) → IsAcceptedAs file source → IsAcceptedAs file other → source ≡ other
one_source file source other a b = ap (source_or source) (one_verdict one_kind file.bytes (Ok source) (Ok other) a.1 b.1)

same_sources : (files : List NamedFile) (sources others : List Scanned) → AllZip IsAcceptedAs files sources → AllZip IsAcceptedAs files others → sources ≡ others
same_sources [] [] [] a b = refl
same_sources [] [] (o ∷ os) a b = absurd b
same_sources [] (s ∷ ss) others a b = absurd a
same_sources (f ∷ fs) [] others a b = absurd a
same_sources (f ∷ fs) (s ∷ ss) [] a b = absurd b
same_sources (f ∷ fs) (s ∷ ss) (o ∷ os) a b = ap₂ (λ x xs. x ∷ xs) (one_source f s o a.0 b.0) (same_sources fs ss os a.1 b.1)

-- ---- one refusal

no_fault_too : (size : ℕ) (file : NamedFile) (source : Scanned) (fault : Fault) → IsAcceptedAs file source → IsFault size file.bytes fault → ⊥
no_fault_too size file source fault a (inl load) = text_or_fault file.bytes fault a.0 load
no_fault_too size file source fault a (inr f) = not_both source fault (one_verdict one_kind file.bytes (Ok source) (Err fault) a.1 f.2)

one_file_fault : (size : ℕ) (bytes : List ℕ) (fault other : Fault) → IsFault size bytes fault → IsFault size bytes other → fault ≡ other
one_file_fault size bytes fault other (inl x) (inl y) = one_load_fault bytes fault other x y
one_file_fault size bytes fault other (inl x) (inr y) = absurd (text_or_fault bytes fault y.0 x)
one_file_fault size bytes fault other (inr x) (inl y) = absurd (text_or_fault bytes other x.0 y)
one_file_fault size bytes fault other (inr x) (inr y) = ap (fault_or fault) (one_verdict one_kind bytes (Err fault) (Err other) x.2 y.2)

fault_or_much : (size : ℕ) (bytes : List ℕ) (fault : Fault) → IsFault size bytes fault → IsTooMuch size bytes → ⊥
fault_or_much size bytes fault (inl load) much = text_or_fault bytes fault much.0 load
fault_or_much size bytes fault (inr f) much = omega (arith, f.1, much.1)

one_refusal : (size : ℕ) (file : NamedFile) (row other : Row) → IsRefused size file row → IsRefused size file other → row ≡ other
one_refusal size file row other (inl x) (inl y) = x.2 ∙ ap (refusal_row file.name) (one_file_fault size file.bytes x.0 y.0 x.1 y.1) ∙ sym y.2
one_refusal size file row other (inl x) (inr y) = absurd (fault_or_much size file.bytes x.0 x.1 y.0)
one_refusal size file row other (inr x) (inl y) = absurd (fault_or_much size file.bytes y.0 y.1 x.0)
one_refusal size file row other (inr x) (inr y) = x.1 ∙ sym y.1

not_refused : (size : ℕ) (file : NamedFile) (source : Scanned) (row : Row) → IsAcceptedAs file source → size + length file.bytes ≤ max_module → IsRefused size file row → ⊥
not_refused size file source row a fit (inl x) = no_fault_too size file source x.0 a x.1
not_refused size file source row a fit (inr x) = omega (arith, x.0.1, fit)

accepted_within : (before : List NamedFile) (file : NamedFile) (after : List NamedFile) (sources : List Scanned) → AllZip IsAcceptedAs (before ++ file ∷ after) sources → (source : Scanned) × IsAcceptedAs file source
accepted_within [] file after [] a = absurd a
accepted_within [] file after (s ∷ ss) a = (s, a.0)
accepted_within (f ∷ fs) file after [] a = absurd a
accepted_within (f ∷ fs) file after (s ∷ ss) a = accepted_within fs file after ss a.1

-- no accepted file is refused
none_refused : (before : List NamedFile) (file : NamedFile) (after : List NamedFile) (sources : List Scanned) (row : Row) → AreAccepted (before ++ file ∷ after) sources → IsRefused (size_of before) file row → ⊥
none_refused before file after sources row are refusal =
    let found = accepted_within before file after sources are.each in
    let all : size_of (before ++ file ∷ after) ≡ size_of before + size_of (file ∷ after) = sum_by-append (λ (f : NamedFile). length f.bytes) before (file ∷ after) in
    let rest : size_of (file ∷ after) ≡ length file.bytes + size_of after = sum_by-cons (λ (f : NamedFile). length f.bytes) file after in
    let fit : size_of (before ++ file ∷ after) ≤ max_module = are.fit in
    not_refused (size_of before) file found.0 row found.1 (omega (arith, all, rest, fit)) refusal

-- ---- a list that is split twice
module _ {X : Type 0} where
  abbrev head_or : X → List X → X
  head_or other [] = other
  head_or other (x ∷ xs) = x

  abbrev after_head : List X → List X
  after_head [] = []
  after_head (x ∷ xs) = xs

  -- at the same place, or one split is within the part before the other
  abbrev Splits : List X → List X → X → X → Type 0
  Splits xs ys a b = ((xs ≡ ys) × (a ≡ b)) ⊎ (((rest : List X) × (ys ≡ xs ++ a ∷ rest)) ⊎ ((rest : List X) × (xs ≡ ys ++ b ∷ rest)))

  further : (x y : X) (xs ys : List X) (a b : X) → x ≡ y → Splits xs ys a b → Splits (x ∷ xs) (y ∷ ys) a b
  further x y xs ys a b e (inl s) = inl (ap₂ (λ v vs. v ∷ vs) e s.0, s.1)
  further x y xs ys a b e (inr (inl s)) = inr (inl (s.0, ap₂ (λ v vs. v ∷ vs) (sym e) s.1))
  further x y xs ys a b e (inr (inr s)) = inr (inr (s.0, ap₂ (λ v vs. v ∷ vs) e s.1))

  split_twice : (xs more ys bs : List X) (a b : X) → xs ++ a ∷ more ≡ ys ++ b ∷ bs → Splits xs ys a b
  split_twice [] more [] bs a b e = inl (refl, ap (head_or a) e)
  split_twice [] more (y ∷ ys) bs a b e = inr (inl (ys, ap (λ v. v ∷ ys) (sym (ap (head_or a) e))))
  split_twice (x ∷ xs) more [] bs a b e = inr (inr (xs, ap (λ v. v ∷ xs) (ap (head_or x) e)))
  split_twice (x ∷ xs) more (y ∷ ys) bs a b e = further x y xs ys a b (ap (head_or x) e) (split_twice xs more ys bs a b (ap after_head e))

-- ---- the row

one_refused_first : (files : List NamedFile) (row other : Row) → IsRefusedFirst files row → IsRefusedFirst files other → row ≡ other
one_refused_first files row other x y = by (split_twice x.before x.after y.before y.after x.file y.file (sym x.split ∙ y.split))
  where
    by : Splits x.before y.before x.file y.file → row ≡ other
    by (inl s) =
        one_refusal (size_of y.before) y.file row other
        (subst (λ f. IsRefused (size_of y.before) f row) s.1 (subst (λ fs. IsRefused (size_of fs) x.file row) s.0 x.refusal)) y.refusal
    by (inr (inl s)) = absurd (none_refused x.before x.file s.0 y.sources row (subst (λ fs. AreAccepted fs y.sources) s.1 y.accepted) x.refusal)
    by (inr (inr s)) = absurd (none_refused y.before y.file s.0 x.sources other (subst (λ fs. AreAccepted fs x.sources) s.1 x.accepted) y.refusal)

reported_or_refused : (asking : Request) (files : List NamedFile) (row other : Row) → IsReported asking files row → IsRefusedFirst files other → ⊥
reported_or_refused asking files row other x y = none_refused y.before y.file y.after x.sources other (subst (λ fs. AreAccepted fs x.sources) y.split x.accepted) y.refusal

one_reported : (asking : Request) (files : List NamedFile) (row other : Row) → IsReported asking files row → IsReported asking files other → row ≡ other
one_reported asking files row other x y =
    let same : x.sources ≡ y.sources = same_sources files x.sources y.sources x.accepted.each y.accepted.each in
    let moved : IsReport asking.asked (numbered_files 0 y.sources) x.found.report = subst (λ ss. IsReport asking.asked (numbered_files 0 ss) x.found.report) same x.found.is in
    let report : x.found.report ≡ y.found.report = one_report asking.asked (numbered_files 0 y.sources) x.found.report y.found.report moved y.found.is in
    let issues : x.issues ≡ y.issues = sym x.found.same ∙ ap (map shown_issue) report ∙ y.found.same in
    x.is ∙ ap (report_row asking) issues ∙ sym y.is

one_of_files : (asking : Request) (files : List NamedFile) (row other : Row) → IsReported asking files row ⊎ IsRefusedFirst files row → IsReported asking files other ⊎ IsRefusedFirst files other → row ≡ other
one_of_files asking files row other (inl x) (inl y) = one_reported asking files row other x y
one_of_files asking files row other (inl x) (inr y) = absurd (reported_or_refused asking files row other x y)
one_of_files asking files row other (inr x) (inl y) = absurd (reported_or_refused asking files other row y x)
one_of_files asking files row other (inr x) (inr y) = one_refused_first files row other x y

pub one_answer_by : (r : Result Request Usage) (files : List NamedFile) (row other : Row) → IsAnswerBy r files row → IsAnswerBy r files other → row ≡ other
one_answer_by (Ok asking) files row other x y = one_of_files asking files row other x.1 y.1
one_answer_by (Err usage.Help) files row other x y = x ∙ sym y
one_answer_by (Err usage.BadLine) files row other x y = x ∙ sym y
one_answer_by (Err usage.UnknownRule) files row other x y = x ∙ sym y
one_answer_by (Err usage.BadNaming) files row other x y = x ∙ sym y
one_answer_by (Err usage.BadSeverity) files row other x y = x ∙ sym y
one_answer_by (Err usage.TooManyFiles) files row other x y = x ∙ sym y
one_answer_by (Err usage.OutOfMemory) files row other x y = absurd x

-- ---- THE LAW
pub one_answer : (words : List (List ℕ)) (files : List NamedFile) (row other : Row) → IsAnswer words files row → IsAnswer words files other → row ≡ other
one_answer words = one_answer_by (options_of words)
