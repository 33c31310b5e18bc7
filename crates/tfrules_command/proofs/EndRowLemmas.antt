-- How a run ends.
use Rattle.std.proofs.Common.{◌≡◌, ◌∙◌, ◌⊎◌, ◌<◌, ◌+◌, ◌++◌, ℕ, Bool, false, List, [], ◌∷◌, Option, Some, None, ap, arith, inl, inr, refl, subst, sym}
use Rattle.std.specs.Prelude.{Result, Ok, Err}
use Rattle.std.proofs.lemmas.List.{map-append}
use Rattle.std.proofs.lemmas.List.Elements.{All-append, All-cons, All-nil}
use Rattle.command_line.specs.Rows.{Program, Row, End, Shows, ShowsOne, OrOutOfMemory, out_of_memory}
use Rattle.command_line.proofs.EndLemmas.{shows_as}
use Rattle.hcl_tokens.specs.Scanned.{Scanned}
use Rattle.tf_rules.specs.Answers as rules
use Rattle.tf_rules.specs.Stored.{Stored}
use Rattle.tf_rules.specs.Ordered.{BeforeAll}
use Rattle.tf_rules.specs.declared.issue.Issue.{Issue}
use Rattle.tfrules_command.specs.Answer.{IsAnswerBy, IsRefused, linter, names_of, usage_line}
use Rattle.tfrules_command.specs.Files.{NamedFile, numbered_files}
use Rattle.tfrules_command.specs.Line.{Request}
use Rattle.tfrules_command.specs.Report.{report_row}
use Rattle.tfrules_command.specs.Rows.{AreFiles, IsRowBy}
use Rattle.hcl_source.specs.Devices.{Tells}
use Rattle.tfrules_command.specs.Inner.Steps.{AreFine, StopsAt, stop_row, usage_row}
use Rattle.tfrules_command.specs.Keeping.{Reached}
use Rattle.tfrules_command.specs.declared.stop.Stop.{Stop}
use Rattle.tfrules_command.specs.declared.stop.Stop.TheVariants as stop
use Rattle.tfrules_command.specs.declared.usage.Usage.{Usage}
use Rattle.tfrules_command.specs.declared.usage.Usage.TheVariants as usage

pub help_shown : (p : Program) (u : Usage) (end : End) → u ≡ usage.Help → p ≡ linter → Shows p (record { out = usage_line; err = []; status = 0 }) end → Shows linter (usage_row u) end
help_shown p u end is e s = subst (λ (v : Usage). Shows linter (usage_row v) end) (sym is) (shows_as p linter (usage_row usage.Help) end e s)

pub memory_shown : (p : Program) (P : Row → Type 0) (end : End) → p ≡ linter → Shows p (out_of_memory p) end → ShowsOne linter (OrOutOfMemory linter P) end
memory_shown p P end e s = (out_of_memory linter, inl refl, subst (λ (q : Program). Shows q (out_of_memory q) end) e s)

-- ---- the files after the one at which a run stopped

abbrev told_or : Option (List ℕ) → List ℕ
told_or None = []
told_or (Some bytes) = bytes

tells_or : (t : Option (List ℕ)) → Tells t (told_or t)
tells_or None = tt
tells_or (Some bytes) = refl

module _ (told : List ℕ → Option (List ℕ)) where
  abbrev unread : List (List ℕ) → List NamedFile
  unread [] = []
  unread (n ∷ ns) = record { name = n; bytes = told_or (told n) } ∷ unread ns

  unread_names : (ns : List (List ℕ)) → names_of (unread ns) ≡ ns
  unread_names [] = refl
  unread_names (n ∷ ns) = ap (λ l. n ∷ l) (unread_names ns)

  unread_files : (ns : List (List ℕ)) → AreFiles told (unread ns)
  unread_files [] = All-nil (λ (file : NamedFile). Tells (told file.name) file.bytes)
  unread_files (n ∷ ns) = All-cons (λ (file : NamedFile). Tells (told file.name) file.bytes) (record { name = n; bytes = told_or (told n) }) (unread ns) (tells_or (told n)) (unread_files ns)

  -- a run that stopped at a refused file shows the answer
  refused_first : (asking : Request) (front after : List (List ℕ)) (name bytes : List ℕ) (size : ℕ) (kept : Stored) (row : Row) → asking.files ≡ front ++ name ∷ after → Reached told front size kept → Tells (told name) bytes
      → IsRefused size (record { name = name; bytes = bytes }) row → IsRowBy told (Ok asking) false false row
  refused_first asking front after name bytes size kept row split p tells refusal =
      let file : NamedFile = record { name = name; bytes = bytes } in (
        p.files ++ file ∷ unread after,
        All-append (λ (f : NamedFile). Tells (told f.name) f.bytes) p.files (file ∷ unread after) p.are (All-cons (λ (f : NamedFile). Tells (told f.name) f.bytes) file (unread after) tells (unread_files after)),
        (
          map-append (λ (f : NamedFile). f.name) p.files (file ∷ unread after) ∙ ap (λ l. l ++ name ∷ names_of (unread after)) p.named ∙ ap (λ l. front ++ name ∷ l) (unread_names after) ∙ sym split,
          inr (record { before = p.files; file = file; after = unread after; split = refl; sources = p.sources; accepted = p.accepted; refusal = subst (λ n. IsRefused n file row) p.size_is refusal }),
        ),
      )

  stop_rows : (asking : Request) (o r : Bool) (name : List ℕ) (why : Stop) (row : Row) → StopsAt told asking.files o r name why → row ≡ stop_row name why → OrOutOfMemory linter (IsRowBy told (Ok asking) o r) row
  stop_rows asking o r name (stop.Refused fault) row s is =
      inr (subst (λ b. IsRowBy told (Ok asking) b r row) (sym s.by.0.0) (subst (λ b. IsRowBy told (Ok asking) false b row) (sym s.by.0.1)
      (refused_first asking s.front s.after name s.by.1.0 s.size s.kept row s.split s.reached s.by.1.1 (inl (fault, s.by.1.2, is)))))
  stop_rows asking o r name stop.TooLarge row s is =
      inr (subst (λ b. IsRowBy told (Ok asking) b r row) (sym s.by.0.0) (subst (λ b. IsRowBy told (Ok asking) false b row) (sym s.by.0.1)
      (refused_first asking s.front s.after name s.by.1.0 s.size s.kept row s.split s.reached s.by.1.1 (inr (s.by.1.2, is)))))
  stop_rows asking o r name stop.NotOpened row s is =
      inr (subst (λ b. IsRowBy told (Ok asking) b r row) (sym s.by) (record {
        before = s.reached.files;
        name = name;
        after = s.after;
        split = s.split ∙ ap (λ l. l ++ name ∷ s.after) (sym s.reached.named);
        files = s.reached.are;
        sources = s.reached.sources;
        accepted = s.reached.accepted;
        is = is;
      }))
  stop_rows asking o r name stop.NotRead row s is =
      inr (subst (λ b. IsRowBy told (Ok asking) b r row) (sym s.by.0) (subst (λ b. IsRowBy told (Ok asking) false b row) (sym s.by.1) (record {
        before = s.reached.files;
        name = name;
        after = s.after;
        split = s.split ∙ ap (λ l. l ++ name ∷ s.after) (sym s.reached.named);
        files = s.reached.are;
        sources = s.reached.sources;
        accepted = s.reached.accepted;
        is = is;
      })))
  stop_rows asking o r name stop.OutOfMemory row s is = inl is

  pub stopped_row : (asking : Request) (o r : Bool) (name : List ℕ) (why : Stop) (row : Row) → StopsAt told asking.files o r name why → OrOutOfMemory linter (λ x. x ≡ stop_row name why) row → OrOutOfMemory linter (IsRowBy told (Ok asking) o r) row
  stopped_row asking o r name why row s (inl e) = inl e
  stopped_row asking o r name why row s (inr is) = stop_rows asking o r name why row s is

  pub reported_row : (asking : Request) (o r : Bool) (size : ℕ) (kept : Stored) (issues : List Issue) → AreFine o r → (p : Reached told asking.files size kept) → rules.AreIssues asking.asked (numbered_files 0 p.sources) issues
      → IsRowBy told (Ok asking) o r (report_row asking issues)
  reported_row asking o r size kept issues fine p found =
      subst (λ b. IsRowBy told (Ok asking) b r (report_row asking issues)) (sym fine.0) (subst (λ b. IsRowBy told (Ok asking) false b (report_row asking issues)) (sym fine.1)
      (p.files, p.are, (p.named, inl (record { sources = p.sources; accepted = p.accepted; issues = issues; found = found; is = refl }))))

  -- ---- lines without options

  usage_rows : (u : Usage) → OrOutOfMemory linter (λ row. (files : List NamedFile) × AreFiles told files × IsAnswerBy (Err u) files row) (usage_row u)
  usage_rows usage.Help = inr ([], All-nil (λ (file : NamedFile). Tells (told file.name) file.bytes), refl)
  usage_rows usage.BadLine = inr ([], All-nil (λ (file : NamedFile). Tells (told file.name) file.bytes), refl)
  usage_rows usage.UnknownRule = inr ([], All-nil (λ (file : NamedFile). Tells (told file.name) file.bytes), refl)
  usage_rows usage.BadNaming = inr ([], All-nil (λ (file : NamedFile). Tells (told file.name) file.bytes), refl)
  usage_rows usage.BadSeverity = inr ([], All-nil (λ (file : NamedFile). Tells (told file.name) file.bytes), refl)
  usage_rows usage.TooManyFiles = inr ([], All-nil (λ (file : NamedFile). Tells (told file.name) file.bytes), refl)
  usage_rows usage.OutOfMemory = inl refl

  pub usage_shown : (options : Result Request Usage) (u : Usage) (o r : Bool) → o ≡ false → r ≡ false → (u ≡ usage.OutOfMemory) ⊎ (Err u ≡ options) → OrOutOfMemory linter (IsRowBy told options o r) (usage_row u)
  usage_shown options u o r fo fr (inl e) = inl (ap usage_row e)
  usage_shown options u o r fo fr (inr e) =
      subst (λ b. OrOutOfMemory linter (IsRowBy told options b r) (usage_row u)) (sym fo) (subst (λ b. OrOutOfMemory linter (IsRowBy told options false b) (usage_row u)) (sym fr)
      (subst (λ (x : Result Request Usage). OrOutOfMemory linter (IsRowBy told x false false) (usage_row u)) e (usage_rows u)))

-- ---- rising numbers

below_all : (m n : ℕ) (s : Scanned) (sources : List Scanned) → m < n → BeforeAll rules.IsBelow (record { number = m; source = s }) (numbered_files n sources)
below_all m n s [] h = tt
below_all m n s (x ∷ xs) h = let more : m < n + 1 = omega arith in (h, below_all m (n + 1) s xs more)

pub rising : (n : ℕ) (sources : List Scanned) → rules.Rising (numbered_files n sources)
rising n [] = tt
rising n (x ∷ xs) = let next : n < n + 1 = omega arith in (below_all n (n + 1) x xs next, rising (n + 1) xs)
