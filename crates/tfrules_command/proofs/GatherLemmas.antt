-- The files of a run in turn.
use Rattle.std.proofs.Common.{◌≡◌, ◌∙◌, ◌⊎◌, ◌≤◌, ◌<◌, ◌+◌, ◌++◌, ℕ, suc, Bool, false, List, [], ◌∷◌, Option, Some, None, refl, sym, ap, ap₂, subst, inl, inr, length, take, drop, get_or, arith, append-nil, ⊎_elim}
use Rattle.std.specs.Prelude.{Result, Ok, Err, ◌||◌}
use Rattle.std.specs.List.{AllZip}
use Rattle.std.specs.Io.KnownBytes.{Consumes, IsAtEnd}
use Rattle.std.proofs.lemmas.List.{get_or_default, length-map, length-take-le, map-append, take_more, take-append-drop}
use Rattle.std.proofs.lemmas.List.Elements.{All-append, All-cons, All-nil}
use Rattle.std.proofs.lemmas.List.Sums.{sum_by-append}
use Rattle.hcl_grammar.specs.Verdict.{IsTextVerdict, verdict}
use Rattle.hcl_source.specs.Load.{IsLoadFault, IsText, Loads, is_failed_load, max_source}
use Rattle.hcl_tokens.specs.Scanned.{IsScanError, Scanned}
use Rattle.hcl_tokens.specs.Scans.{Scans}
use Rattle.hcl_tokens.specs.declared.token.ScanError.{ScanError}
use Rattle.hcl_tokens.specs.declared.token.ScanError.TheVariants as scan_error
use Rattle.hcl_source.specs.declared.fault.Fault.{Fault}
use Rattle.hcl_source.specs.declared.fault.Position.{Position}
use Rattle.hcl_source.specs.declared.fault.LoadError.{LoadError}
use Rattle.hcl_source.specs.declared.fault.LoadError.TheVariants as error
use Rattle.hcl_source.proofs.LoadLemmas.{too_large_too}
use Rattle.tf_rules.specs.Stored.{Stored, stored_of, with_file}
use Rattle.tf_rules.proofs.StoredLemmas.{stored_of_more}
use Rattle.tfrules_command.specs.Files.{NamedFile, IsAcceptedAs, max_module, numbered_files, size_of}
use Rattle.hcl_source.specs.Devices.{Tells}
use Rattle.tfrules_command.specs.Inner.Steps.{AreFine, Adds, ReadsFile, StopsAt, StopsBy, stop_by, stop_of_scan}
use Rattle.tfrules_command.specs.Keeping.{Added, KeepsTokens, Reached, ScansFile}
use Rattle.tfrules_command.specs.Inner.Keeping.{Keeps}
use Rattle.tfrules_command.specs.declared.gather.ScannedFile.{ScannedFile}
use Rattle.tfrules_command.specs.declared.stop.Stop.{Stop}
use Rattle.tfrules_command.specs.declared.stop.Stop.TheVariants as stop
use Rattle.command_line.proofs.ListCutLemmas.{from_here}

-- ---- a file that was read

pub tells_all : (left left' : Option (List ℕ)) (bytes : List ℕ) → Consumes left left' bytes → IsAtEnd left' → Tells left bytes
tells_all None left' bytes taken done = tt
tells_all (Some xs) None bytes taken done = absurd taken
tells_all (Some xs) (Some ys) bytes taken done = taken ∙ ap (λ l. bytes ++ l) done ∙ append-nil bytes

-- a fault of the bytes taken is that of the whole
pub fault_of_whole : (left left' : Option (List ℕ)) (bytes : List ℕ) (fault : Fault) → Consumes left left' bytes → (length bytes ≤ max_source → IsAtEnd left') → IsLoadFault bytes fault
    → (whole : List ℕ) × Tells left whole × IsLoadFault whole fault
fault_of_whole None left' bytes fault taken done x = (bytes, tt, x)
fault_of_whole (Some xs) None bytes fault taken done x = absurd taken
fault_of_whole (Some xs) (Some ys) bytes fault taken done x =
    ⊎_elim (λ le. (xs, refl, subst (λ l. IsLoadFault l fault) (sym (taken ∙ ap (λ l. bytes ++ l) (done le) ∙ append-nil bytes)) x))
    (λ gt. (xs, refl, subst (λ l. IsLoadFault l fault) (sym taken) (too_large_too bytes ys fault gt x)))
    (below (length bytes) max_source)
  where
    below : (a b : ℕ) → (a ≤ b) ⊎ (b < a)
    below a b = grind arith

reads_left : (left left' : Option (List ℕ)) (bytes : List ℕ) (o r : Bool) (loaded : Result (List ℕ) LoadError) → o ≡ false → r ≡ is_failed_load loaded → Consumes left left' bytes → Loads bytes left' loaded
    → ReadsFile left o r (stop_by loaded)
reads_left left left' bytes o r (Ok text) fine failed taken l =
    ((fine, failed), subst (Tells left) (sym l.0) (tells_all left left' bytes taken l.2), subst IsText (sym l.0) l.1)
reads_left left left' bytes o r (Err (error.Fault fault)) fine failed taken l = ((fine, failed), fault_of_whole left left' bytes fault taken l.1 l.0)
reads_left left left' bytes o r (Err error.ReadFailed) fine failed taken l = (fine, failed)
reads_left left left' bytes o r (Err error.OutOfMemory) fine failed taken l = (fine, failed)

pub reads_told : (told left left' : Option (List ℕ)) (bytes : List ℕ) (o o' r r' f : Bool) (loaded : Result (List ℕ) LoadError) (answer : Result (List ℕ) Stop)
    → answer ≡ stop_by loaded → left ≡ told → o ≡ false → o' ≡ o → r ≡ false → r' ≡ (r || f) → f ≡ is_failed_load loaded → Consumes left left' bytes → Loads bytes left' loaded → ReadsFile told o' r' answer
reads_told told left left' bytes o o' r r' f loaded answer is same fine fine' unread unread' failed taken l =
    subst (λ a. ReadsFile told o' r' a) (sym is)
    (subst (λ t. ReadsFile t o' r' (stop_by loaded)) same
    (reads_left left left' bytes o' r' loaded (fine' ∙ fine) (unread' ∙ ap (λ b. b || f) unread ∙ failed) taken l))

-- ---- a file that was kept, or wasn't scanned

pub stops_unscanned : (text : List ℕ) (size : ℕ) (error : ScanError) (why : Stop) → why ≡ stop_of_scan error → size + length text ≤ max_module → IsScanError text error → ScansFile text size (Err why)
stops_unscanned text size (scan_error.Fault fault) why is fits e =
    subst (λ w. ScansFile text size (Err w)) (sym is) (fits, inl (fault.kind, e.0, e.1, ap (λ (p : Position). Err (record { kind = fault.kind; at = p })) e.2))
stops_unscanned text size scan_error.OutOfMemory why is fits e = subst (λ w. ScansFile text size (Err w)) (sym is) tt

pub keeps_none : (text : List ℕ) (size number : ℕ) (kept : Stored) (why : Stop) → ScansFile text size (Err why) → Keeps text size number kept kept (Err why)
keeps_none text size number kept (stop.Refused fault) s = s
keeps_none text size number kept stop.TooLarge s = s
keeps_none text size number kept stop.NotOpened s = absurd s
keeps_none text size number kept stop.NotRead s = absurd s
keeps_none text size number kept stop.OutOfMemory s = tt

pub outcome_of : (text : List ℕ) (scanned : Scanned) (o : Result Scanned Fault) → scanned.text ≡ text → Scans text scanned.tokens → o ≡ verdict scanned → IsTextVerdict text o
outcome_of text scanned o same scans e = inr (scanned.tokens, scans, e ∙ ap (λ t. verdict (record { text = t; tokens = scanned.tokens })) same)

pub keeps_scanned : (text : List ℕ) (size number : ℕ) (old new : Stored) (file : ScannedFile) (answer : Result ℕ Stop) → ScansFile text size (Ok file) → KeepsTokens file.tokens number file.all old new answer → Keeps text size number old new answer
keeps_scanned text size number old new file answer s = by answer
  where
    outcome : (o : Result Scanned Fault) → o ≡ verdict file.tokens → IsTextVerdict text o
    outcome o e = outcome_of text file.tokens o s.0 s.1 e

    by : (a : Result ℕ Stop) → KeepsTokens file.tokens number file.all old new a → Keeps text size number old new a
    by (Ok more) k = (k.0, outcome (Ok k.0) k.1, k.2 ∙ s.2, subst (λ n. n ≤ max_module) (sym k.2) s.3, k.3)
    by (Err (stop.Refused fault)) k = (subst (λ n. n ≤ max_module) s.2 s.3, outcome (Err fault) k)
    by (Err stop.TooLarge) k = absurd k
    by (Err stop.NotOpened) k = absurd k
    by (Err stop.NotRead) k = absurd k
    by (Err stop.OutOfMemory) k = tt

pub adds_kept : (told : Option (List ℕ)) (o r : Bool) (text : List ℕ) (size number : ℕ) (old new : Stored) (answer : Result ℕ Stop)
    → AreFine o r → Tells told text → IsText text → Keeps text size number old new answer → Adds told size number o r old new answer
adds_kept told o r text size number old new (Ok more) fine tells is k =
    (fine, record { bytes = text; is = tells; text = is; source = k.0; outcome = k.1; size_is = k.2; fits = k.3; kept = k.4 })
adds_kept told o r text size number old new (Err (stop.Refused fault)) fine tells is k = (fine, (text, tells, inr (is, k.0, k.1)))
adds_kept told o r text size number old new (Err stop.TooLarge) fine tells is k = (fine, (text, tells, (is, k)))
adds_kept told o r text size number old new (Err stop.NotOpened) fine tells is k = absurd k
adds_kept told o r text size number old new (Err stop.NotRead) fine tells is k = absurd k
adds_kept told o r text size number old new (Err stop.OutOfMemory) fine tells is k = fine

pub stops_unread : (told : Option (List ℕ)) (o r : Bool) (size : ℕ) (why : Stop) → ReadsFile told o r (Err why) → StopsBy told size o r why
stops_unread told o r size (stop.Refused fault) h = (h.0, (h.1.0, h.1.1, inl h.1.2))
stops_unread told o r size stop.TooLarge h = absurd h
stops_unread told o r size stop.NotOpened h = h
stops_unread told o r size stop.NotRead h = h
stops_unread told o r size stop.OutOfMemory h = h

-- ---- another file

pub all_zip_push : (files : List NamedFile) (sources : List Scanned) (f : NamedFile) (s : Scanned) → AllZip IsAcceptedAs files sources → IsAcceptedAs f s → AllZip IsAcceptedAs (files ++ f ∷ []) (sources ++ s ∷ [])
all_zip_push [] [] f s h r = (r, tt)
all_zip_push [] (b ∷ ys) f s h r = absurd h
all_zip_push (a ∷ xs) [] f s h r = absurd h
all_zip_push (a ∷ xs) (b ∷ ys) f s h r = (h.0, all_zip_push xs ys f s h.1 r)

pub zip_length : (files : List NamedFile) (sources : List Scanned) → AllZip IsAcceptedAs files sources → length files ≡ length sources
zip_length [] [] h = refl
zip_length [] (y ∷ ys) h = absurd h
zip_length (x ∷ xs) [] h = absurd h
zip_length (x ∷ xs) (y ∷ ys) h = ap suc (zip_length xs ys h.1)

pub numbered_more : (n : ℕ) (sources : List Scanned) (s : Scanned) → numbered_files n (sources ++ s ∷ []) ≡ numbered_files n sources ++ record { number = n + length sources; source = s } ∷ []
numbered_more n [] s = let same : n ≡ n + 0 = omega arith in ap (λ (k : ℕ). record { number = k; source = s } ∷ []) same
numbered_more n (x ∷ xs) s =
    let same : n + 1 + length xs ≡ n + length (x ∷ xs) = omega arith in
    ap (λ l. record { number = n; source = x } ∷ l) (numbered_more (n + 1) xs s ∙ ap (λ (k : ℕ). numbered_files (n + 1) xs ++ record { number = k; source = s } ∷ []) same)

unfoldable pub reached_none : (told : List ℕ → Option (List ℕ)) (kept : Stored) → kept ≡ stored_of [] → Reached told [] 0 kept
reached_none told kept e = record {
  files = [];
  named = refl;
  are = All-nil (λ (file : NamedFile). Tells (told file.name) file.bytes);
  sources = [];
  accepted = record { each = tt; fit = omega arith };
  size_is = refl;
  kept_is = e;
}

unfoldable pub reached_more : (told : List ℕ → Option (List ℕ)) (names : List (List ℕ)) (i size more : ℕ) (name : List ℕ) (here : Option (List ℕ)) (old new : Stored) → i < length names → name ≡ get_or names i [] → here ≡ told name
    → Reached told (take i names) size old → Added here size i old new more → Reached told (take (i + 1) names) more new
reached_more told names i size more name here old new lt named same p a =
    let file : NamedFile = record { name = name; bytes = a.bytes } in
    let count : length p.files ≡ i = sym (length-map p.files (λ (f : NamedFile). f.name)) ∙ ap length p.named ∙ length-take-le i names (omega arith) in
    let sum : size_of (p.files ++ file ∷ []) ≡ more = sum_by-append (λ (f : NamedFile). length f.bytes) p.files (file ∷ []) ∙ omega (arith, p.size_is, a.size_is) in
    record {
      files = p.files ++ file ∷ [];
      named = map-append (λ (f : NamedFile). f.name) p.files (file ∷ []) ∙ ap₂ (λ (l : List (List ℕ)) (x : List ℕ). l ++ x ∷ []) p.named named ∙ sym (take_more names i [] lt);
      are = All-append (λ (f : NamedFile). Tells (told f.name) f.bytes) p.files (file ∷ []) p.are
          (All-cons (λ (f : NamedFile). Tells (told f.name) f.bytes) file [] (subst (λ t. Tells t a.bytes) same a.is) (All-nil (λ (f : NamedFile). Tells (told f.name) f.bytes)));
      sources = p.sources ++ a.source ∷ [];
      accepted = record { each = all_zip_push p.files p.sources file a.source p.accepted.each (a.text, a.outcome); fit = subst (λ n. n ≤ max_module) (sym sum) a.fits };
      size_is = sym sum;
      kept_is = a.kept ∙ ap (λ k. with_file k (record { number = i; source = a.source })) p.kept_is ∙ sym (stored_of_more (numbered_files 0 p.sources) (record { number = i; source = a.source }))
          ∙ ap stored_of (ap (λ (k : ℕ). numbered_files 0 p.sources ++ record { number = k; source = a.source } ∷ []) (sym count ∙ zip_length p.files p.sources p.accepted.each ∙ zero_more (length p.sources)) ∙ sym (numbered_more 0 p.sources a.source));
    }
  where
    zero_more : (n : ℕ) → n ≡ 0 + n
    zero_more n = omega arith

-- the number of the next file
pub next_number : (told : List ℕ → Option (List ℕ)) (names : List (List ℕ)) (i size : ℕ) (kept : Stored) → i < length names → (p : Reached told (take i names) size kept) → 0 + length p.sources ≡ i
next_number told names i size kept lt p =
    let count : length p.files ≡ i = sym (length-map p.files (λ (f : NamedFile). f.name)) ∙ ap length p.named ∙ length-take-le i names (omega arith) in
    omega (arith, zip_length p.files p.sources p.accepted.each, count)

-- ---- the stop of a run

stops_as : (here there : Option (List ℕ)) (size : ℕ) (o r : Bool) (why : Stop) → here ≡ there → StopsBy here size o r why → StopsBy there size o r why
stops_as here there size o r why e h = subst (λ t. StopsBy t size o r why) e h

pub stops_at : (told : List ℕ → Option (List ℕ)) (names : List (List ℕ)) (i size : ℕ) (name : List ℕ) (here : Option (List ℕ)) (kept : Stored) (o r : Bool) (why : Stop) → i < length names → name ≡ get_or names i []
    → here ≡ told name → Reached told (take i names) size kept → StopsBy here size o r why → StopsAt told names o r name why
stops_at told names i size name here kept o r why lt named same p h = record {
  front = take i names;
  after = drop (i + 1) names;
  split = sym (take-append-drop i names) ∙ ap (λ l. take i names ++ l) (from_here names i name lt (named ∙ get_or_default names i [] name lt));
  size = size;
  kept = kept;
  reached = p;
  by = stops_as here (told name) size o r why same h;
}
