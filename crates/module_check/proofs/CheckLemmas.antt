-- The files of a module, judged in turn.
use Rattle.std.proofs.Common.{◌≡◌, ◌∙◌, ◌<◌, ◌≤◌, ◌+◌, ◌++◌, ℕ, Bool, true, false, Global, List, String, [], ◌∷◌, Option, ap, arith, cond, get_or, length, map, refl, subst, suc, sym, take, zero}
use Rattle.std.specs.Prelude.{◌&&◌, ◌||◌, Result, Ok, Err, IfOk, filter, fold, not, string_bytes}
use Rattle.std.specs.List.{list_all}
use Rattle.std.specs.declared.alloc.AllocError.{AllocError}
use Rattle.std.specs.Io.KnownBytes.{Consumes}
use Rattle.std.proofs.lemmas.List.{length-take-le, take_more}
use Rattle.std.proofs.lemmas.List.Folds.{list_all_more}
use Rattle.std.proofs.lemmas.List.Sums.{fold-append}
use Rattle.file_tree.specs.Files.{Name}
use Rattle.hcl_grammar.specs.Verdict.{IsTextVerdict, verdict}
use Rattle.hcl_source.specs.Devices.{Tells}
use Rattle.hcl_source.specs.Load.{IsLoadFault, IsText, Loads}
use Rattle.hcl_source.specs.declared.fault.Fault.{Fault}
use Rattle.hcl_source.specs.declared.fault.LoadError.{LoadError}
use Rattle.hcl_source.specs.declared.fault.LoadError.TheVariants as error
use Rattle.hcl_tokens.specs.Scanned.{Scanned}
use Rattle.rule_set.specs.Rules.{all_rules, is_rule}
use Rattle.rule_set.specs.RuleSets.{holds, rules_of}
use Rattle.rule_set.specs.declared.rule.Rule.{Rule}
use Rattle.rule_set.specs.declared.rule.Rule.TheVariants.{UnusedDeclarations}
use Rattle.rule_set.specs.declared.rule_set.RuleSet.{RuleSet}
use Rattle.tf_rules.specs.Answers.{AreIssues, IsBelow, Rising}
use Rattle.tf_rules.specs.Issues.{Asked, File, asked_of}
use Rattle.tf_rules.specs.Ordered.{BeforeAll}
use Rattle.tf_rules.specs.Stored.{Stored, no_facts, with_file}
use Rattle.tf_rules.specs.declared.issue.Issue.{Issue}
use Rattle.tf_rules.specs.declared.settings.Settings.{Settings}
use Rattle.tfrules_command.proofs.GatherLemmas.{fault_of_whole, outcome_of, tells_all}
use Rattle.tfrules_command.specs.Files.{max_module}
use Rattle.tfrules_command.specs.Keeping.{ScansFile}
use Rattle.tfrules_command.specs.declared.gather.ScannedFile.{ScannedFile}
use Rattle.module_check.specs.Checks.{AcceptedIn, AreStates, IsChecked, IsState, is_good_file, settings_told, size_with, without_unused}
use Rattle.module_check.specs.Inner.Judging.{AddsState, HaveStates, Judges, JudgesTokens, TellsLoaded}
use Rattle.module_check.specs.declared.check.Checked.{Checked}
use Rattle.module_check.specs.declared.judge.Judgement.{Judgement}
use Rattle.module_check.specs.declared.judge.Judgement.TheVariants as judgement
use Rattle.module_check.specs.declared.state.FileState.{FileState}
use Rattle.module_check.specs.declared.state.FileState.TheVariants.{Good, Refused, NoText, TooMuch, Unread}

-- ---- one file

pub tells_loaded : (told read left' : Option (List ℕ)) (left : Option (List ℕ)) (bytes : List ℕ) (loaded : Result (List ℕ) LoadError) → left ≡ read → read ≡ told → Consumes left left' bytes → Loads bytes left' loaded → TellsLoaded told loaded
tells_loaded told read left' left bytes (Ok text) here same taken l = (subst (λ t. Tells t text) (here ∙ same) (subst (Tells left) (sym l.0) (tells_all left left' bytes taken l.2)), subst IsText (sym l.0) l.1)
tells_loaded told read left' left bytes (Err (error.Fault fault)) here same taken l =
    subst (λ t. (all : List ℕ) × Tells t all × IsLoadFault all fault) (here ∙ same) (fault_of_whole left left' bytes fault taken l.1 l.0)
tells_loaded told read left' left bytes (Err error.ReadFailed) here same taken l = tt
tells_loaded told read left' left bytes (Err error.OutOfMemory) here same taken l = tt

pub judges_scanned : (text : List ℕ) (size number : ℕ) (old new : Stored) (file : ScannedFile) (answer : Result Judgement AllocError) → ScansFile text size (Ok file) → IfOk answer (JudgesTokens file.tokens number old new) → IfOk answer (Judges text size number old new)
judges_scanned text size number old new file answer s = by answer
  where
    fits : size + length text ≤ max_module
    fits = subst (λ n. n ≤ max_module) s.2 s.3

    outcome : (o : Result Scanned Fault) → o ≡ verdict file.tokens → IsTextVerdict text o
    outcome o e = outcome_of text file.tokens o s.0 s.1 e

    by : (a : Result Judgement AllocError) → IfOk a (JudgesTokens file.tokens number old new) → IfOk a (Judges text size number old new)
    by (Ok judgement.Accepted) j = (fits, (j.0, outcome (Ok j.0) j.1, j.2))
    by (Ok (judgement.Refused fault)) j = (fits, outcome (Err fault) j.0, j.1)
    by (Ok judgement.TooMuch) j = absurd j
    by (Err e) j = tt

pub fits_with : (told : Option (List ℕ)) (size : ℕ) (state : FileState) → size ≤ max_module → IsState told size state → size_with size state ≤ max_module
fits_with told size (Good source) fits s = s.2
fits_with told size (Refused source fault) fits s = fits
fits_with told size (NoText fault) fits s = fits
fits_with told size TooMuch fits s = fits
fits_with told size (Unread fault) fits s = fits

-- ---- another file

states_more : (told : Name → Option (List ℕ)) (size : ℕ) (names : List Name) (states : List FileState) (name : Name) (state : FileState) → AreStates told size names states → IsState (told name) (fold size_with size states) state
    → AreStates told size (names ++ name ∷ []) (states ++ state ∷ [])
states_more told size [] [] name state h s = (s, tt)
states_more told size [] (x ∷ xs) name state h s = absurd h
states_more told size (n ∷ ns) [] name state h s = absurd h
states_more told size (n ∷ ns) (x ∷ xs) name state h s = (h.0, states_more told (size_with size x) ns xs name state h.1 s)

as_many : (told : Name → Option (List ℕ)) (size : ℕ) (names : List Name) (states : List FileState) → AreStates told size names states → length names ≡ length states
as_many told size [] [] h = refl
as_many told size [] (x ∷ xs) h = absurd h
as_many told size (n ∷ ns) [] h = absurd h
as_many told size (n ∷ ns) (x ∷ xs) h = omega (arith, as_many told (size_with size x) ns xs h.1)

accepted_more : (n : ℕ) (states : List FileState) (state : FileState) (files more : List File) → AcceptedIn n states files → AcceptedIn (n + length states) (state ∷ []) more → AcceptedIn n (states ++ state ∷ []) (files ++ more)
accepted_more n [] state files more a b =
    let same : n + 0 ≡ n = omega arith in
    subst (λ fs. AcceptedIn n (state ∷ []) (fs ++ more)) (sym a) (subst (λ m. AcceptedIn m (state ∷ []) more) same b)
accepted_more n (x ∷ xs) state files more a b =
    let same : n + length (x ∷ xs) ≡ n + 1 + length xs = omega arith in
    by x (λ fs r. accepted_more (n + 1) xs state fs more r (subst (λ m. AcceptedIn m (state ∷ []) more) same b)) a
  where
    by : (y : FileState) → ((fs : List File) → AcceptedIn (n + 1) xs fs → AcceptedIn (n + 1) (xs ++ state ∷ []) (fs ++ more)) → AcceptedIn n (y ∷ xs) files → AcceptedIn n (y ∷ (xs ++ state ∷ [])) (files ++ more)
    by (Good source) rest r = (r.0, r.1 ++ more, ap (λ l. l ++ more) r.2, r.3, r.4, rest r.1 r.5)
    by (Refused source fault) rest r = rest files r
    by (NoText fault) rest r = rest files r
    by TooMuch rest r = rest files r
    by (Unread fault) rest r = rest files r

-- the accepted file of a state
record One (number : ℕ) (state : FileState) (old new : Stored) : Type 0 where
  pub more : List File
  pub accepted : AcceptedIn number (state ∷ []) more
  pub kept_is : new ≡ fold with_file old more

one_of : (number : ℕ) (state : FileState) (old new : Stored) → AddsState number state old new → One number state old new
one_of number (Good source) old new a =
    let file : File = record { number = number; source = a.0 } in
    record { more = file ∷ []; accepted = (file, [], refl, refl, a.1, refl); kept_is = a.2 }
one_of number (Refused source fault) old new a = record { more = []; accepted = refl; kept_is = a }
one_of number (NoText fault) old new a = record { more = []; accepted = refl; kept_is = a }
one_of number TooMuch old new a = record { more = []; accepted = refl; kept_is = a }
one_of number (Unread fault) old new a = record { more = []; accepted = refl; kept_is = a }

pub judged_none : (told : Name → Option (List ℕ)) (states : List FileState) (kept : Stored) → states ≡ [] → kept ≡ no_facts → HaveStates told [] states kept
judged_none told states kept none e = subst (λ (all : List FileState). HaveStates told [] all kept) (sym none) (record { are = tt; files = []; accepted = refl; kept_is = e })

pub judged_more : (told : Name → Option (List ℕ)) (names : List Name) (i size : ℕ) (name : Name) (here : Option (List ℕ)) (states after : List FileState) (state : FileState) (old new : Stored) → i < length names → name ≡ get_or names i [] → here ≡ told name → size ≡ fold size_with 0 states
    → after ≡ states ++ state ∷ [] → HaveStates told (take i names) states old → IsState here size state → AddsState i state old new → HaveStates told (take (i + 1) names) after new
judged_more told names i size name here states after state old new lt named same sum grown p s a =
    let one = one_of i state old new a in
    let count : i ≡ 0 + length states = omega (arith, as_many told 0 (take i names) states p.are, length-take-le i names (omega (arith, lt))) in
    let front : take i names ++ name ∷ [] ≡ take (i + 1) names = ap (λ (n : Name). take i names ++ n ∷ []) named ∙ sym (take_more names i [] lt) in
    let is : IsState (told name) (fold size_with 0 states) state = subst (λ n. IsState (told name) n state) sum (subst (λ t. IsState t size state) same s) in
    subst (λ (all : List FileState). HaveStates told (take (i + 1) names) all new) (sym grown) (record {
      are = subst (λ ns. AreStates told 0 ns (states ++ state ∷ [])) front (states_more told 0 (take i names) states name state p.are is);
      files = p.files ++ one.more;
      accepted = accepted_more 0 states state p.files one.more p.accepted (subst (λ n. AcceptedIn n (state ∷ []) one.more) count one.accepted);
      kept_is = one.kept_is ∙ ap (λ k. fold with_file k one.more) p.kept_is ∙ sym (fold-append with_file no_facts p.files one.more);
    })

pub sum_more : (size more : ℕ) (states after : List FileState) (state : FileState) → size ≡ fold size_with 0 states → more ≡ size_with size state → after ≡ states ++ state ∷ [] → more ≡ fold size_with 0 after
sum_more size more states after state sum e grown = e ∙ ap (λ n. size_with n state) sum ∙ sym (fold-append size_with 0 states (state ∷ [])) ∙ ap (fold size_with 0) (sym grown)

pub name_here : (names : List (String Global)) (i : ℕ) (item : String Global) (name : Name) → i < length names → item ≡ get_or names i item → name ≡ string_bytes item → name ≡ get_or (map string_bytes names) i []
name_here [] i item name lt is e = absurd (omega (arith, lt))
name_here (x ∷ names) zero item name lt is e = e ∙ ap string_bytes is
name_here (x ∷ names) (suc i) item name lt is e = name_here names i item name (omega (arith, lt)) is e

-- ---- rising numbers

below_all : (n : ℕ) (states : List FileState) (file : File) (files : List File) → file.number < n → AcceptedIn n states files → BeforeAll IsBelow file files
below_all n [] file files lt a = subst (BeforeAll IsBelow file) (sym a) tt
below_all n (x ∷ xs) file files lt a =
    let next : file.number < n + 1 = omega (arith, lt) in
    by x (λ fs r. below_all (n + 1) xs file fs next r) a
  where
    by : (y : FileState) → ((fs : List File) → AcceptedIn (n + 1) xs fs → BeforeAll IsBelow file fs) → AcceptedIn n (y ∷ xs) files → BeforeAll IsBelow file files
    by (Good source) rest r = subst (BeforeAll IsBelow file) (sym r.2) (subst (λ m. file.number < m) (sym r.3) lt, rest r.1 r.5)
    by (Refused source fault) rest r = rest files r
    by (NoText fault) rest r = rest files r
    by TooMuch rest r = rest files r
    by (Unread fault) rest r = rest files r

pub rising : (n : ℕ) (states : List FileState) (files : List File) → AcceptedIn n states files → Rising files
rising n [] files a = subst Rising (sym a) tt
rising n (x ∷ xs) files a = by x (λ fs r. rising (n + 1) xs fs r) a
  where
    by : (y : FileState) → ((fs : List File) → AcceptedIn (n + 1) xs fs → Rising fs) → AcceptedIn n (y ∷ xs) files → Rising files
    by (Good source) rest r =
        let lt : r.0.number < n + 1 = omega (arith, r.3) in
        subst Rising (sym r.2) (below_all (n + 1) xs r.0 r.1 lt r.5, rest r.1 r.5)
    by (Refused source fault) rest r = rest files r
    by (NoText fault) rest r = rest files r
    by TooMuch rest r = rest files r
    by (Unread fault) rest r = rest files r

-- ---- the rules that are told

pub filter_both : {A : Type 0} (p q r : A → Bool) → ((a : A) → r a ≡ (p a && q a)) → (xs : List A) → filter r xs ≡ filter q (filter p xs)
filter_both p q r h [] = refl
filter_both p q r h (x ∷ xs) = ap (λ v. cond v (x ∷ filter r xs) (filter r xs)) (h x) ∙ by (filter_both p q r h xs) (p x)
  where
    by : filter r xs ≡ filter q (filter p xs) → (v : Bool) → cond (v && q x) (x ∷ filter r xs) (filter r xs) ≡ filter q (cond v (x ∷ filter p xs) (filter p xs))
    by rest true = ap (λ l. cond (q x) (x ∷ l) l) rest
    by rest false = rest

rules_left : (rules none unused left : RuleSet) → ((rule : Rule) → holds none rule ≡ false) → ((rule : Rule) → holds unused rule ≡ (holds none rule || is_rule rule UnusedDeclarations)) → ((rule : Rule) → holds left rule ≡ (holds rules rule && not (holds unused rule)))
    → rules_of left ≡ filter (λ rule. not (is_rule rule UnusedDeclarations)) (rules_of rules)
rules_left rules none unused left n u l =
    filter_both (holds rules) (λ rule. not (is_rule rule UnusedDeclarations)) (holds left)
    (λ rule. l rule ∙ ap (λ v. holds rules rule && not v) (u rule ∙ ap (λ v. v || is_rule rule UnusedDeclarations) (n rule))) all_rules

pub told_all : (settings : Settings) (states : List FileState) (good : Bool) → good ≡ list_all is_good_file states → good ≡ true → asked_of settings ≡ settings_told settings states
told_all settings states good e t = ap (λ v. cond v (asked_of settings) (without_unused (asked_of settings))) (sym t ∙ e)

pub told_less : (settings : Settings) (states : List FileState) (good : Bool) (none unused left : RuleSet) → good ≡ list_all is_good_file states → good ≡ false → ((rule : Rule) → holds none rule ≡ false) → ((rule : Rule) → holds unused rule ≡ (holds none rule || is_rule rule UnusedDeclarations))
    → ((rule : Rule) → holds left rule ≡ (holds settings.rules rule && not (holds unused rule))) → asked_of (record settings { rules = left }) ≡ settings_told settings states
told_less settings states good none unused left e f n u l =
    ap (λ (rules : List Rule). record (asked_of settings) { rules = rules }) (rules_left settings.rules none unused left n u l)
    ∙ ap (λ v. cond v (asked_of settings) (without_unused (asked_of settings))) (sym f ∙ e)

pub not_all : {A : Type 0} (p : A → Bool) (xs : List A) (i : ℕ) (a : A) → i < length xs → a ≡ get_or xs i a → p a ≡ false → list_all p xs ≡ false
not_all p [] i a lt is e = absurd (omega (arith, lt))
not_all p (x ∷ xs) zero a lt is e = ap (λ v. v && list_all p xs) (ap p (sym is) ∙ e)
not_all p (x ∷ xs) (suc i) a lt is e = ap (λ v. p x && v) (not_all p xs i a (omega (arith, lt)) is e) ∙ none (p x)
  where
    none : (v : Bool) → (v && false) ≡ false
    none true = refl
    none false = refl

pub all_more : {A : Type 0} (p : A → Bool) (xs : List A) (i : ℕ) (a : A) → i < length xs → a ≡ get_or xs i a → p a ≡ true → list_all p (take i xs) ≡ true → list_all p (take (i + 1) xs) ≡ true
all_more p xs i a lt is e front = list_all_more p xs i a lt ∙ ap (λ v. v && p (get_or xs i a)) front ∙ ap p (sym is) ∙ e

-- ---- the answer

pub is_checked : (told : Name → Option (List ℕ)) (names : List Name) (settings by : Settings) (shown : List FileState) (kept : Stored) (list : List Issue) (checked : Checked) → (h : HaveStates told names checked.files.items kept) → shown ≡ checked.files.items
    → asked_of by ≡ settings_told settings shown → AreIssues (asked_of by) h.files list → checked.issues.items ≡ list → IsChecked told names settings checked
is_checked told names settings by shown kept list checked h same e are is = record {
  states = h.are;
  files = h.files;
  accepted = h.accepted;
  issues = subst (AreIssues (settings_told settings checked.files.items) h.files) (sym is) (subst (λ (a : Asked). AreIssues a h.files list) (e ∙ ap (settings_told settings) same) are);
}
