-- Formatted files have the tokens of the files on the same lines, so they have the same issues, apart from columns.
use Rattle.std.proofs.Common.{◌≡◌, ◌∙◌, ◌+◌, ◌≤◌, ap, refl, sym, subst, ℕ, List, [], ◌∷◌, Option, Some, None, inl, inr, map, length}
use Rattle.std.specs.Prelude.{Result, Ok, Err}
use Rattle.std.proofs.lemmas.List.Elements.{All-head, All-tail}
use Rattle.std.specs.List.{All, AllZip}
use Rattle.hcl_source.specs.Load.{IsText, max_source}
use Rattle.hcl_source.specs.Places.{line_of, place}
use Rattle.hcl_source.specs.declared.fault.Fault.{Fault}
use Rattle.hcl_tokens.specs.Lexemes.{Lexeme}
use Rattle.hcl_tokens.specs.Scanned.{Scanned}
use Rattle.hcl_tokens.specs.Scans.{Scans}
use Rattle.hcl_tokens.proofs.OneReadingLemmas.{one_scan}
use Rattle.hcl_scan.proofs.SpellingLemmas.{one_kind}
use Rattle.hcl_tokens.proofs.NonemptyLemmas.{nonempty}
use Rattle.hcl_grammar.specs.declared.refusal.Refusal.{Refusal}
use Rattle.hcl_grammar.specs.Predictor.{refusal_of}
use Rattle.hcl_grammar.specs.Classes.{lookaheads}
use Rattle.hcl_grammar.specs.Verdict.{IsAccepted, fault_at, start_of, verdict_by}
use Rattle.hcl_layout.specs.Print.{print}
use Rattle.text_format.specs.Reprinted.{printed_tokens}
use Rattle.text_format.proofs.ForgetPlaceLemmas.{seen_again}
use Rattle.text_format.proofs.PrintLoadLemmas.{loads_again}
use Rattle.text_format.proofs.RescanLemmas.{scans_again}
use Rattle.text_format.proofs.SameLineLemmas.{lines_again, numbered_again}
use Rattle.tf_rules.specs.Agreement.{SameTokens}
use Rattle.tf_rules.specs.Agreement as rules
use Rattle.tf_rules.specs.Issues.{File}
use Rattle.tf_rules.specs.Issues as issues
use Rattle.tf_rules.proofs.ReportLemmas.{reports_agree}
use Rattle.tf_rules.specs.declared.issue.Issue.{Issue}
use Rattle.tf_rules.specs.Answers.{shown_issue}
use Rattle.tfrules_command.specs.Answer.{IsReported}
use Rattle.tfrules_command.specs.Line.{Request}
use Rattle.tfrules_command.proofs.StatusLemmas.{same_status as status_again}
use Rattle.command_line.specs.Rows.{Row}
use Rattle.tfrules_command.specs.Files.{NamedFile, AreAccepted, IsAcceptedAs, max_module, numbered_files, size_of}
use Rattle.agreement.specs.Formatted.{IsFormatted, WithoutColumn, without_column, without_columns}

-- ---- one file
record Accepted (file : NamedFile) (source : Scanned) : Type 0 where
  text : source.text ≡ file.bytes
  scanned : Scans file.bytes source.tokens
  accepted : IsAccepted source.tokens

abbrev source_or : Scanned → Result Scanned Fault → Scanned
source_or s (Ok t) = t
source_or s (Err f) = s

is_accepted : (file : NamedFile) (source : Scanned) → IsAcceptedAs file source → Accepted file source
is_accepted file source is = elim is.1 [ inl f ↦ absurd (not_ok (record { kind = f.0; at = place file.bytes f.1 }) f.3) | inr t ↦ by t.0 t.1 (refusal_of (lookaheads t.0)) refl t.2 ]
  where
    not_ok : (f : Fault) → (Ok source ≡ Err f) → ⊥
    not_ok f e = cc

    by : (ts : List Lexeme) → Scans file.bytes ts → (r : Option Refusal) → refusal_of (lookaheads ts) ≡ r → Ok source ≡ verdict_by (record { text = file.bytes; tokens = ts }) r → Accepted file source
    by ts scans None accepted e =
        let same : source ≡ record { text = file.bytes; tokens = ts } = ap (source_or source) e in
        record { text = ap (λ (s : Scanned). s.text) same; scanned = subst (Scans file.bytes) (sym (ap (λ (s : Scanned). s.tokens) same)) scans; accepted = ap (λ (s : Scanned). refusal_of (lookaheads s.tokens)) same ∙ accepted }
    by ts scans (Some r) refused e = absurd (not_ok (fault_at (record { text = file.bytes; tokens = ts }) r) e)

same_tokens : (n : ℕ) (file formatted : NamedFile) (source other : Scanned) → IsFormatted file formatted → IsAcceptedAs file source → IsAcceptedAs formatted other
    → SameTokens (record { number = n; source = source }) (record { number = n; source = other })
same_tokens n file formatted source other is a b =
    let first = is_accepted file source a in
    let second = is_accepted formatted other b in
    let same : is.tokens ≡ source.tokens = one_scan one_kind nonempty file.bytes is.tokens source.tokens is.scanned first.scanned in
    let printed : formatted.bytes ≡ print source.tokens = is.printed ∙ ap print same in
    let again : Scans (print source.tokens) other.tokens = subst (λ l. Scans l other.tokens) printed second.scanned in
    record {
      number = refl;
      tokens = sym (numbered_again file.bytes source.tokens other.tokens first.scanned again);
      lines = λ k. ap (λ l. line_of l (start_of source.tokens k)) first.text ∙ sym (lines_again file.bytes source.tokens other.tokens first.scanned again k)
          ∙ ap (λ l. line_of l (start_of other.tokens k)) (sym (second.text ∙ printed));
    }

-- the print of an accepted file is accepted
accepted_print : (file formatted : NamedFile) (source : Scanned) → IsFormatted file formatted → IsAcceptedAs file source → length formatted.bytes ≤ max_source
    → IsAcceptedAs formatted (record { text = formatted.bytes; tokens = printed_tokens source.tokens })
accepted_print file formatted source is a small =
    let first = is_accepted file source a in
    let same : is.tokens ≡ source.tokens = one_scan one_kind nonempty file.bytes is.tokens source.tokens is.scanned first.scanned in
    let printed : formatted.bytes ≡ print source.tokens = is.printed ∙ ap print same in
    let again : Scanned = record { text = formatted.bytes; tokens = printed_tokens source.tokens } in (
      subst IsText (sym printed) (loads_again file.bytes source.tokens a.0 first.scanned (subst (λ l. length l ≤ max_source) printed small)),
      inr (
        printed_tokens source.tokens,
        subst (λ l. Scans l (printed_tokens source.tokens)) (sym printed) (scans_again file.bytes source.tokens first.scanned),
        sym (ap (verdict_by again) (ap refusal_of (seen_again source.tokens) ∙ first.accepted)),
      ),
    )

-- ---- all files
abbrev Small : NamedFile → Type 0
Small f = length f.bytes ≤ max_source

pub prints_accepted : (files formatted : List NamedFile) (sources : List Scanned) → AllZip IsAcceptedAs files sources → AllZip IsFormatted files formatted → All (λ f. length f.bytes ≤ max_source) formatted
    → (others : List Scanned) × AllZip IsAcceptedAs formatted others
prints_accepted [] [] sources a z small = ([], z)
prints_accepted [] (g ∷ gs) sources a z small = absurd z
prints_accepted (f ∷ fs) [] sources a z small = absurd z
prints_accepted (f ∷ fs) (g ∷ gs) [] a z small = absurd a
prints_accepted (f ∷ fs) (g ∷ gs) (s ∷ ss) a z small =
    let rec = prints_accepted fs gs ss a.1 z.1 (All-tail Small g gs small) in
    (record { text = g.bytes; tokens = printed_tokens s.tokens } ∷ rec.0, (accepted_print f g s z.0 a.0 (All-head Small g gs small), rec.1))

all_same : (n : ℕ) (files formatted : List NamedFile) (sources others : List Scanned) → AllZip IsFormatted files formatted → AllZip IsAcceptedAs files sources → AllZip IsAcceptedAs formatted others
    → AllZip SameTokens (numbered_files n sources) (numbered_files n others)
all_same n [] [] [] [] z a b = z
all_same n [] [] [] (o ∷ os) z a b = absurd b
all_same n [] [] (s ∷ ss) others z a b = absurd a
all_same n [] (g ∷ gs) sources others z a b = absurd z
all_same n (f ∷ fs) [] sources others z a b = absurd z
all_same n (f ∷ fs) (g ∷ gs) [] others z a b = absurd a
all_same n (f ∷ fs) (g ∷ gs) (s ∷ ss) [] z a b = absurd b
all_same n (f ∷ fs) (g ∷ gs) (s ∷ ss) (o ∷ os) z a b = (same_tokens n f g s o z.0 a.0 b.0, all_same (n + 1) fs gs ss os z.1 a.1 b.1)

-- ---- the report
abbrev without_token : rules.Told → WithoutColumn
without_token t = record { file = t.file; line = t.line; rule = t.rule; message = t.message }

without_tokens : (report : List issues.Issue) → without_columns (map shown_issue report) ≡ map without_token (rules.told_all report)
without_tokens [] = refl
without_tokens (i ∷ is) = ap (λ l. without_column (shown_issue i) ∷ l) (without_tokens is)

-- ---- THE LAWS
pub reports_again : (asked : issues.Asked) (files formatted : List NamedFile) (sources others : List Scanned) (report other : List issues.Issue) → AllZip IsFormatted files formatted
    → AllZip IsAcceptedAs files sources → AllZip IsAcceptedAs formatted others → issues.IsReport asked (numbered_files 0 sources) report → issues.IsReport asked (numbered_files 0 others) other
    → rules.told_all report ≡ rules.told_all other
reports_again asked files formatted sources others report other z a b first again =
    reports_agree asked (numbered_files 0 sources) (numbered_files 0 others) report other (all_same 0 files formatted sources others z a b) first again

pub accepted_again : (files formatted : List NamedFile) (sources : List Scanned) → AreAccepted files sources → AllZip IsFormatted files formatted → All (λ f. length f.bytes ≤ max_source) formatted → size_of formatted ≤ max_module
    → (others : List Scanned) × AreAccepted formatted others
accepted_again files formatted sources are z small fit =
    let p = prints_accepted files formatted sources are.each z small in
    (p.0, record { each = p.1; fit = fit })

pub agree : (request : Request) (files formatted : List NamedFile) (row other : Row) → AllZip IsFormatted files formatted → (first : IsReported request files row) → (again : IsReported request formatted other)
    → without_columns first.issues ≡ without_columns again.issues
agree request files formatted row other z first again =
    let e : rules.told_all first.found.report ≡ rules.told_all again.found.report =
    reports_again request.asked files formatted first.sources again.sources first.found.report again.found.report z first.accepted.each again.accepted.each first.found.is again.found.is in
    ap without_columns (sym first.found.same) ∙ without_tokens first.found.report ∙ ap (map without_token) e ∙ sym (without_tokens again.found.report) ∙ ap without_columns again.found.same

-- the status depends on the rules of the issues
rules_of : (issues : List Issue) → map (λ i. i.rule) issues ≡ map (λ w. w.rule) (without_columns issues)
rules_of [] = refl
rules_of (i ∷ is) = ap (λ l. i.rule ∷ l) (rules_of is)

pub same_status : (request : Request) (files formatted : List NamedFile) (row other : Row) → AllZip IsFormatted files formatted → IsReported request files row → IsReported request formatted other → row.status ≡ other.status
same_status request files formatted row other z first again =
    let same = ap (map (λ (w : WithoutColumn). w.rule)) (agree request files formatted row other z first again) in
    ap (λ (r : Row). r.status) first.is ∙ status_again request first.issues again.issues (rules_of first.issues ∙ same ∙ sym (rules_of again.issues)) ∙ sym (ap (λ (r : Row). r.status) again.is)
