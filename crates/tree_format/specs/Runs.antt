-- Runs over files, and what becomes of each file.
use Rattle.std.specs.Prelude.{◌≡◌, ◌⊎◌, ◌||◌, ◌-◌, ℕ, Bool, true, false, List, [], ◌∷◌, ◌++◌, Option, Some, None, length, map, take, if◌then◌else◌}
use Rattle.std.specs.List.{concat}
use Rattle.command_line.specs.Rows.{Row, End, Took, TookBy, Writer}
use Rattle.file_tree.specs.Files.{Name}
use Rattle.file_tree.specs.declared.fault.TreeFault.{TreeFault}
use Rattle.file_tree.specs.declared.walk.Found.{Found}
use Rattle.tree_format.specs.Looks.{Asks, Notes, Visits}
use Rattle.tree_format.specs.Reports.{report_of, worst_status}
use Rattle.tree_format.specs.States.{State}
use Rattle.hcl_source.specs.declared.fault.Fault.{Fault}
use Rattle.text_format.specs.Format.{IsFormat, IsFault}
use Rattle.tree_format.specs.declared.mode.Mode.{Mode}
use Rattle.tree_format.specs.declared.mode.Mode.TheVariants.{Write}
use Rattle.tree_format.specs.declared.outcome.Outcome.{Outcome}
use Rattle.tree_format.specs.declared.outcome.Outcome.TheVariants as outcome

-- a file is unchanged, or has the format of the bytes that it had
abbrev pub IsSafe : Option (List ℕ) → Option (List ℕ) → Type 0
IsSafe None after = after ≡ None
IsSafe (Some bytes) after =
    (after ≡ Some bytes)
    ⊎ ((formatted : List ℕ) × IsFormat bytes formatted × (after ≡ Some formatted))

-- what may become of a file in a run: it may get its format only if files are to be written
abbrev pub MayBecome : Mode → Option (List ℕ) → Option (List ℕ) → Type 0
MayBecome (Write writing) before after = IsSafe before after
MayBecome mode before after = after ≡ before

-- a look failed
abbrev pub is_failed : Outcome → Bool
is_failed (outcome.Failed fault) = true
is_failed _ = false

-- if files are to be written, a file is settled: it has its format, or it has a fault because of which it has none, and
-- is unchanged
abbrev pub Settled : Mode → Option (List ℕ) → Option (List ℕ) → Type 0
Settled (Write writing) None after = Unit {0}
Settled (Write writing) (Some bytes) after =
    ((formatted : List ℕ) × IsFormat bytes formatted × (after ≡ Some formatted))
    ⊎ ((fault : Fault) × IsFault bytes fault × (after ≡ Some bytes))
Settled mode before after = Unit {0}

-- ---- the run

-- a look at a found name: at the file to which the name leads, unless a fault of the name prevents it
abbrev pub SeesBy : Bool → Mode → Name → Option TreeFault → Outcome → State → State → Type 0
SeesBy shows mode name (Some fault) answer before after =
    (answer ≡ outcome.Failed fault) × (after ≡ before)
SeesBy shows mode name None answer before after =
    Visits shows mode before.files after.files name (before.files.real name) answer
    × Notes before.faults after.faults answer
    × Asks mode name (before.files.told (before.files.real name)) before.asked after.asked answer

abbrev pub Sees : Bool → Mode → Found → Outcome → State → State → Type 0
Sees shows mode found = SeesBy shows mode found.name.items found.fault

-- looks at names, one after another, and the answer of each
abbrev pub LooksAtAll : Bool → Mode → List Found → List Outcome → State → State → Type 0
LooksAtAll shows mode [] [] before after = after ≡ before
LooksAtAll shows mode (found ∷ more) (answer ∷ answers) before after =
    (between : State) × Sees shows mode found answer before between
    × LooksAtAll shows mode more answers between after
LooksAtAll _ _ _ _ before after = ⊥

abbrev pub reports_of : Mode → List Found → List Outcome → List Row
reports_of mode (found ∷ more) (answer ∷ answers) =
    report_of mode found.name.items answer ∷ reports_of mode more answers
reports_of _ _ _ = []

-- all elements but the last
abbrev pub but_last : {X : Type 0} → List X → List X
but_last xs = take (length xs - 1) xs

-- a writer took all of this text; what it took afterwards is a text or, if it failed, a front of one
pub record HasWhole (w : Writer) (text : List ℕ) : Type 0 where
  pub more : List ℕ
  pub between : Option (List ℕ)
  pub whole : TookBy false w.before between text
  pub later : TookBy w.failed between w.after more

-- all reports but the last one were written whole: so after a report that wasn't, no name was looked at
pub record AreWhole (out err : Writer) (reports : List Row) : Type 0 where
  pub output : HasWhole out (concat (map (λ r. r.out) (but_last reports)))
  pub message : HasWhole err (concat (map (λ r. r.err) (but_last reports)))

-- THE RUN over found names: each is looked at and reported, up to one whose report can't be written, and then the last
-- message is shown, which may depend on the answers. Each writer took its reports, or a front of them if it failed; the
-- status is the worst one, or 4 if a writer failed.
pub record IsRun (shows : Bool) (mode : Mode) (found : List Found) (last : List Outcome
    → List ℕ) (before after : State) (end : End) : Type 0 where
  pub seen : List Found
  pub rest : List Found
  pub all : found ≡ seen ++ rest
  pub whole : (end.out.failed || end.err.failed) ≡ false → rest ≡ []
  pub answers : List Outcome
  pub looks : LooksAtAll shows mode seen answers before after
  pub output : Took end.out (concat (map (λ r. r.out) (reports_of mode seen answers)))
  pub message : Took end.err (concat (map (λ r. r.err) (reports_of mode seen answers))
      ++ last answers)
  pub stops : AreWhole end.out end.err (reports_of mode seen answers)
  pub exit : end.status
      ≡ (if end.out.failed || end.err.failed then 4
      else worst_status (map (λ r. r.status) (reports_of mode seen answers)))
