-- Words and the files that they name have an answer.
use Rattle.std.proofs.Common.{cond, ◌≡◌, ◌∙◌, ◌⊎◌, ◌≤◌, ◌<◌, ◌+◌, ◌++◌, ℕ, Bool, true, false, List, [], ◌∷◌, Option, Some, None, ap, append-nil, append_assoc, arith, codes, filter, get_or, inl, inr, length, map, refl, subst, sym, take}
use Rattle.std.specs.Prelude.{◌==◌, All, Result, Ok, Err, nat_lt}
use Rattle.std.specs.List.{list_all, list_any, slice_split}
use Rattle.std.specs.Str.{bytes_eq}
use Rattle.std.proofs.lemmas.List.{take_all}
use Rattle.std.proofs.lemmas.List.Elements.{All-cons, All-head, All-more, All-nil, All-tail}
use Rattle.std.proofs.lemmas.List.Sums.{sum_by-append, sum_by-cons}
use Rattle.hcl_grammar.specs.Verdict.{IsTextVerdict}
use Rattle.clap.specs.Words.{Kinds, all_of, fault_of, matches_of}
use Rattle.clap.specs.Words as clap
use Rattle.command_line.specs.Arguments.{unless_fault, usage_by}
use Rattle.command_line.proofs.AskedLemmas.{line_has_memory}
use Rattle.command_line.proofs.OneFaultLemmas.{one_fault}
use Rattle.command_line.specs.Rows.{Row, fails_with}
use Rattle.hcl_source.specs.Load.{IsText}
use Rattle.hcl_source.specs.declared.fault.Fault.{Fault}
use Rattle.hcl_tokens.specs.Scanned.{Scanned}
use Rattle.tf_rules.specs.Answers.{shown_issue}
use Rattle.tf_rules.specs.Issues.{Issue, IsReport}
use Rattle.rule_set.specs.Rules.{all_rules, is_recommended}
use Rattle.tf_rules.specs.declared.naming.Naming.{Naming}
use Rattle.rule_set.specs.declared.rule.Rule.{Rule}
use Rattle.rule_set.specs.declared.rule.Severity.{Severity}
use Rattle.tfrules_command.specs.AnswerLaws.{AreNamed, IsAnswer, named_file}
use Rattle.tfrules_command.specs.Answer.{IsAnswerBy, IsRefused, IsRefusedFirst, IsReported, linter, refusal_row, too_large, usage_line}
use Rattle.tfrules_command.specs.Files.{NamedFile, AreAccepted, IsAcceptedAs, max_module, numbered_files, size_of}
use Rattle.tfrules_command.specs.Line.{Request, asking_for, request_of_rows, request_with, each_once, has_name, max_files, options_of, rules_asked, rules_named, tfrules, value_or}
use Rattle.tfrules_command.specs.Report.{report_row}
use Rattle.tfrules_command.specs.Inner.Outcomes.{HasOutcome}
use Rattle.tfrules_command.specs.declared.usage.Usage.{Usage}
use Rattle.tfrules_command.specs.declared.usage.Usage.TheVariants as usage
use Rattle.tfrules_command.proofs.EndRowLemmas.{rising}
use Rattle.tfrules_command.proofs.GatherLemmas.{all_zip_push}
use Rattle.tfrules_command.proofs.SomeReportLemmas.{some_report}

-- ---- running out of memory is the usage of no line

-- the request of a line whose texts are all known
abbrev counted : Bool → List (List ℕ) → List Rule → Naming → Severity → Bool → Result Request Usage
counted force files rules naming minimum many = cond many (Err usage.TooManyFiles) (Ok (record { asked = record { rules = rules; naming = naming }; minimum = minimum; force = force; files = each_once files }))

asking_has_memory : (force : Bool) (files : List (List ℕ)) (rules : Option (List Rule)) (naming : Option Naming) (minimum : Option Severity) → asking_for force files rules naming minimum ≡ Err usage.OutOfMemory → ⊥
asking_has_memory force files None naming minimum e = absurd (cc)
asking_has_memory force files (Some rules) None minimum e = absurd (cc)
asking_has_memory force files (Some rules) (Some naming) None e = absurd (cc)
asking_has_memory force files (Some rules) (Some naming) (Some minimum) e = by (nat_lt max_files (length files)) e
  where
    by : (many : Bool) → counted force files rules naming minimum many ≡ Err usage.OutOfMemory → ⊥
    by true e = absurd (cc)
    by false e = absurd (cc)

rows_have_memory : (rows : List clap.Row) (files : Option (List (List ℕ))) → request_with rows files ≡ Err usage.OutOfMemory → ⊥
rows_have_memory rows None e = absurd (cc)
rows_have_memory rows (Some []) e = absurd (cc)
rows_have_memory rows (Some (f ∷ fs)) e = asking_has_memory _ (f ∷ fs) _ _ _ e

has_memory : (words : List (List ℕ)) → options_of words ≡ Err usage.OutOfMemory → ⊥
has_memory words =
    let rows = matches_of tfrules words in
    line_has_memory usage.OutOfMemory usage.Help usage.BadLine (fault_of tfrules words) (request_of_rows rows) (λ e. absurd (cc)) (λ e. absurd (cc)) (one_fault tfrules words refl refl)
    (rows_have_memory rows (all_of (codes "file") rows))

-- ---- the rules that a line requests are some of all, in their order

abbrev AreSome : List Rule → Type 0
AreSome rules = (p : Rule → Bool) × (filter p all_rules ≡ rules)

abbrev rules_or : List Rule → Option (List Rule) → List Rule
rules_or other None = other
rules_or other (Some rules) = rules

named_are_some : (names : List (List ℕ)) (rules : List Rule) → rules_named names ≡ Some rules → AreSome rules
named_are_some names rules e = by (list_all (λ name. list_any (has_name name) all_rules) names) e
  where
    by : (known : Bool) → cond known (Some (filter (λ rule. list_any (λ name. has_name name rule) names) all_rules)) None ≡ Some rules → AreSome rules
    by true e = (λ rule. list_any (λ name. has_name name rule) names, ap (rules_or rules) e)
    by false e = absurd (cc)

asked_are_some : (text : List ℕ) (rules : List Rule) → rules_asked text ≡ Some rules → AreSome rules
asked_are_some text rules e = by (bytes_eq text (codes "default")) (bytes_eq text (codes "all")) e
  where
    by : (default all : Bool) → cond default (Some (filter is_recommended all_rules)) (cond all (Some all_rules) (rules_named (slice_split (λ b. b == 44) text))) ≡ Some rules → AreSome rules
    by true all e = (is_recommended, ap (rules_or rules) e)
    by false true e = (λ rule. true, ap (rules_or rules) e)
    by false false e = named_are_some (slice_split (λ b. b == 44) text) rules e

abbrev rules_in : List Rule → Result Request Usage → List Rule
rules_in other (Ok asking) = asking.asked.rules
rules_in other (Err usage) = other

asking_for_some : (text : List ℕ) (force : Bool) (files : List (List ℕ)) (rules : Option (List Rule)) (naming : Option Naming) (minimum : Option Severity) (asking : Request) → rules_asked text ≡ rules
    → asking_for force files rules naming minimum ≡ Ok asking → AreSome asking.asked.rules
asking_for_some text force files None naming minimum asking is e = absurd (cc)
asking_for_some text force files (Some rules) None minimum asking is e = absurd (cc)
asking_for_some text force files (Some rules) (Some naming) None asking is e = absurd (cc)
asking_for_some text force files (Some rules) (Some naming) (Some minimum) asking is e = by (nat_lt max_files (length files)) e
  where
    by : (many : Bool) → counted force files rules naming minimum many ≡ Ok asking → AreSome asking.asked.rules
    by true e = absurd (cc)
    by false e = let some = asked_are_some text rules is in (some.0, some.1 ∙ ap (rules_in rules) e)

rows_ask_some : (rows : List clap.Row) (files : Option (List (List ℕ))) (asking : Request) → request_with rows files ≡ Ok asking → AreSome asking.asked.rules
rows_ask_some rows None asking e = absurd (cc)
rows_ask_some rows (Some []) asking e = absurd (cc)
rows_ask_some rows (Some (f ∷ fs)) asking e = asking_for_some (value_or (codes "default") (codes "rules") rows) _ (f ∷ fs) _ _ _ asking refl e

line_asks_some : (faults : Kinds) (rows : List clap.Row) (asking : Request) → unless_fault (usage_by usage.OutOfMemory usage.Help usage.BadLine) faults (request_of_rows rows) ≡ Ok asking → AreSome asking.asked.rules
line_asks_some [] rows asking e = rows_ask_some rows (all_of (codes "file") rows) asking e
line_asks_some (k ∷ ks) rows asking e = absurd (cc)

words_ask_some : (words : List (List ℕ)) (asking : Request) → options_of words ≡ Ok asking → AreSome asking.asked.rules
words_ask_some words = line_asks_some (fault_of tfrules words) (matches_of tfrules words)

-- ---- the files in turn

abbrev Outcome : NamedFile → Type 0
Outcome file = HasOutcome file.bytes

above_or_not : (a b : ℕ) → (a ≤ b) ⊎ (b < a)
above_or_not a b = grind arith

module _ (asking : Request) (reports : (sources : List Scanned) → (report : List Issue) × IsReport asking.asked (numbered_files 0 sources) report) where
  abbrev Ends : List NamedFile → Type 0
  Ends files = (row : Row) × (IsReported asking files row ⊎ IsRefusedFirst files row)

  all_reported : (files : List NamedFile) (sources : List Scanned) → AreAccepted files sources → Ends files
  all_reported files sources are =
      let found = reports sources in
      (report_row asking (map shown_issue found.0), inl (record { sources = sources; accepted = are; issues = map shown_issue found.0; found = record { report = found.0; is = found.1; same = refl }; is = refl }))

  refused_at : (before : List NamedFile) (file : NamedFile) (after : List NamedFile) (sources : List Scanned) → AreAccepted before sources → (row : Row) → IsRefused (size_of before) file row → Ends (before ++ file ∷ after)
  refused_at before file after sources are row refusal = (row, inr (record { before = before; file = file; after = after; split = refl; sources = sources; accepted = are; refusal = refusal }))

  one_more : (before : List NamedFile) (file : NamedFile) (sources : List Scanned) (source : Scanned) → AreAccepted before sources → IsAcceptedAs file source → size_of before + length file.bytes ≤ max_module
      → AreAccepted (before ++ file ∷ []) (sources ++ source ∷ [])
  one_more before file sources source are a fit =
      let sum : size_of (before ++ file ∷ []) ≡ size_of before + size_of (file ∷ []) = sum_by-append (λ (f : NamedFile). length f.bytes) before (file ∷ []) in
      let last : size_of (file ∷ []) ≡ length file.bytes + size_of [] = sum_by-cons (λ (f : NamedFile). length f.bytes) file [] in
      let none : size_of [] ≡ 0 = refl in
      record { each = all_zip_push before sources file source are.each a; fit = omega (arith, sum, last, none, fit) }

  module _ (before : List NamedFile) (file : NamedFile) (after : List NamedFile) (sources : List Scanned) (are : AreAccepted before sources)
      (next : (source : Scanned) → AreAccepted (before ++ file ∷ []) (sources ++ source ∷ []) → Ends ((before ++ file ∷ []) ++ after)) where
    text_ends : IsText file.bytes → (outcome : Result Scanned Fault) → IsTextVerdict file.bytes outcome → (size_of before + length file.bytes ≤ max_module) ⊎ (max_module < size_of before + length file.bytes)
        → Ends (before ++ file ∷ after)
    text_ends is outcome has (inr more) = refused_at before file after sources are (too_large file.name) (inr ((is, more), refl))
    text_ends is (Err fault) has (inl fit) = refused_at before file after sources are (refusal_row file.name fault) (inl (fault, inr (is, fit, has), refl))
    text_ends is (Ok source) has (inl fit) = subst Ends (append_assoc before (file ∷ []) after) (next source (one_more before file sources source are (is, has) fit))

    file_ends : Outcome file → Ends (before ++ file ∷ after)
    file_ends (inl fault) = refused_at before file after sources are (refusal_row file.name fault.0) (inl (fault.0, inl fault.1, refl))
    file_ends (inr text) = text_ends text.0 text.1.0 text.1.1 (above_or_not (size_of before + length file.bytes) max_module)

  files_end : (before rest : List NamedFile) (sources : List Scanned) → AreAccepted before sources → All Outcome rest → Ends (before ++ rest)
  files_end before [] sources are h = subst Ends (sym (append-nil before)) (all_reported before sources are)
  files_end before (f ∷ fs) sources are h =
      file_ends before f fs sources are (λ source more. files_end (before ++ f ∷ []) fs (sources ++ source ∷ []) more (All-tail Outcome f fs h)) (All-head Outcome f fs h)

-- ---- files as pairs of a name and bytes
module _ {X : Type 0} (name bytes : X → List ℕ) where
  abbrev Given : X → Type 0
  Given x = HasOutcome (bytes x)

  pub one_more_given : (xs : List X) (i : ℕ) (x : X) → i < length xs → All Given (take i xs) → Given (get_or xs i x) → All Given (take (i + 1) xs)
  one_more_given xs i x lt all here = All-more Given xs i x lt all here

  all_named : (xs : List X) → All Given xs → All Outcome (map (λ x. named_file (name x) (bytes x)) xs)
  all_named [] h = All-nil Outcome
  all_named (x ∷ xs) h = All-cons Outcome (named_file (name x) (bytes x)) (map (λ y. named_file (name y) (bytes y)) xs) (All-head Given x xs h) (all_named xs (All-tail Given x xs h))

  pub all_given : (xs : List X) (i : ℕ) → length xs ≤ i → All Given (take i xs) → All Outcome (map (λ x. named_file (name x) (bytes x)) xs)
  all_given xs i long h = all_named xs (subst (All Given) (take_all i xs long) h)

-- ---- THE LAW

answer_by : (r : Result Request Usage) (files : List NamedFile) → (r ≡ Err usage.OutOfMemory → ⊥) → AreNamed r files
    → ((asking : Request) → r ≡ Ok asking → (row : Row) × (IsReported asking files row ⊎ IsRefusedFirst files row)) → (row : Row) × IsAnswerBy r files row
answer_by (Ok asking) files p are f = let found = f asking refl in (found.0, (are, found.1))
answer_by (Err usage.Help) files p are f = (record { out = usage_line; err = []; status = 0 }, refl)
answer_by (Err usage.BadLine) files p are f = (record { out = []; err = usage_line; status = 1 }, refl)
answer_by (Err usage.UnknownRule) files p are f = (fails_with linter (codes "unknown rule"), refl)
answer_by (Err usage.BadNaming) files p are f = (fails_with linter (codes "unknown naming"), refl)
answer_by (Err usage.BadSeverity) files p are f = (fails_with linter (codes "unknown severity"), refl)
answer_by (Err usage.TooManyFiles) files p are f = (fails_with linter (codes "more than 256 files"), refl)
answer_by (Err usage.OutOfMemory) files p are f = absurd (p refl)

none_fit : size_of [] ≤ max_module
none_fit = let none : size_of [] ≡ 0 = refl in omega (arith, none)

pub some_answer : (words : List (List ℕ)) (files : List NamedFile) → All Outcome files → AreNamed (options_of words) files → (row : Row) × IsAnswer words files row
some_answer words files outcomes are =
    answer_by (options_of words) files (has_memory words) are
    (λ asking e. let some = words_ask_some words asking e in
    files_end asking (λ sources. some_report some.0 asking.asked (numbered_files 0 sources) some.1 (rising 0 sources)) [] files [] (record { each = tt; fit = none_fit }) outcomes)
