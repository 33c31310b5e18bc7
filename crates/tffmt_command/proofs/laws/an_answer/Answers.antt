use Rattle.std.proofs.Common.{◌≡◌, ◌⊎◌, inl, inr, refl, subst, ℕ, List, [], ◌∷◌, map}
use Rattle.std.specs.Prelude.{Result, Ok, Err}
use Rattle.clap.specs.Words.{fault_of, matches_of}
use Rattle.command_line.proofs.AskedLemmas.{line_has_memory}
use Rattle.command_line.proofs.OneFaultLemmas.{one_fault}
use Rattle.hcl_tokens.specs.Faults.{IsScanFault}
use Rattle.hcl_tokens.specs.Lexemes.{Lexeme}
use Rattle.hcl_source.specs.Load.{IsText}
use Rattle.hcl_source.specs.Places.{place}
use Rattle.hcl_tokens.specs.Scanned.{Scanned}
use Rattle.hcl_tokens.specs.Scans.{Scans}
use Rattle.hcl_source.specs.declared.fault.Fault.{Fault}
use Rattle.hcl_source.specs.declared.fault.FaultKind.{FaultKind}
use Rattle.hcl_grammar.specs.Verdict.{verdict}
use Rattle.command_line.specs.Rows.{Row}
use Rattle.tffmt_command.specs.Line.{options_in, options_of, tffmt}
use Rattle.tffmt_command.specs.Answer.{IsAnswerBy, IsFileAnswer, IsTextAnswer, refusal_row, row_by, usage_line}
use Rattle.tffmt_command.specs.declared.options.FmtOptions.{FmtOptions}
use Rattle.tffmt_command.specs.declared.options.Usage.{Usage}
use Rattle.tffmt_command.specs.declared.options.Usage.TheVariants as usage
use Rattle.tffmt_command.proofs.laws.an_answer.Goals as goal

-- ---- running out of memory is the usage of no line

has_memory : (words : List (List ℕ)) → options_of words ≡ Err usage.OutOfMemory → ⊥
has_memory words =
    line_has_memory usage.OutOfMemory usage.Help usage.BadLine (fault_of tffmt words) (options_in (matches_of tffmt words)) (λ e. absurd (cc)) (λ e. absurd (cc)) (one_fault tffmt words refl refl)
    (λ e. absurd (cc))

-- ---- an answer to each input

abbrev Outcome : List ℕ → Type 0
Outcome text = ((ts : List Lexeme) × Scans text ts) ⊎ ((kind : FaultKind) × (at : ℕ) × IsScanFault text kind at)

text_answer : (options : FmtOptions) (text : List ℕ) → Outcome text → (row : Row) × IsTextAnswer options text row
text_answer options text (inl s) =
    let v : Result Scanned Fault = verdict (record { text = text; tokens = s.0 }) in
    (row_by options v, (v, inr (s.0, s.1, refl), refl))
text_answer options text (inr f) =
    let fault : Fault = record { kind = f.0; at = place text f.1 } in
    (refusal_row fault, (Err fault, inl (f.0, f.1, f.2, refl), refl))

answer_by : (r : Result FmtOptions Usage) (input : List ℕ) → (r ≡ Err usage.OutOfMemory → ⊥) → ((options : FmtOptions) → (row : Row) × IsFileAnswer options input row) → (row : Row) × IsAnswerBy r input row
answer_by (Ok options) input p f = f options
answer_by (Err usage.Help) input p f = (record { out = usage_line; err = []; status = 0 }, refl)
answer_by (Err usage.BadLine) input p f = (record { out = []; err = usage_line; status = 2 }, refl)
answer_by (Err usage.OutOfMemory) input p f = absurd (p refl)

text_there : (text input : List ℕ) (options : FmtOptions) → text ≡ input → IsText input → Outcome text → (row : Row) × IsFileAnswer options input row
text_there text input options same is found =
    let answer = text_answer options input (subst Outcome same found) in
    (answer.0, inr (is, answer.1))

pub returns-in-Some : goal.returns-in-Some
returns-in-Some c =
    let text = c.in-Some.ensures.text in
    let words = map (λ word. word.now) c.args.words.now in
    answer_by (options_of words) c.args.input.now (has_memory words)
    (λ options. text_there c.in-Some.text.now c.args.input.now options text.0 text.1 c.list_or_fault.ensures)

pub returns-in-None : goal.returns-in-None
returns-in-None c =
    let fault = c.in-None.ensures.fault in
    let words = map (λ word. word.now) c.args.words.now in
    answer_by (options_of words) c.args.input.now (has_memory words) (λ options. (refusal_row fault.0, inl (fault.0, fault.1, refl)))
