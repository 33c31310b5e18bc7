-- One look at a file: its answer, and the files afterwards.
use Rattle.std.specs.Prelude.{◌≡◌, ◌≢◌, ◌⊎◌, ◌++◌, ℕ, Bool, List, Option, Some, None, Result, Ok, Err, codes}
use Rattle.file_tree.specs.Asked.{Asked, with_asked}
use Rattle.file_tree.specs.Files.{Faults, Files, Name, with_fault, with_bytes}
use Rattle.hcl_source.specs.Devices.{Tells}
use Rattle.file_tree.specs.declared.fault.TreeFault.{TreeFault}
use Rattle.file_tree.specs.declared.fault.TreeFault.TheVariants.{OutOfMemory}
use Rattle.file_tree.specs.declared.tree.Replaced.{Replaced}
use Rattle.file_tree.specs.declared.tree.Writing.{Writing}
use Rattle.file_tree.specs.Quotes.{shown_head}
use Rattle.line_diff.specs.Diffs.{diff_of}
use Rattle.text_format.specs.Format.{IsFormat, IsFault}
use Rattle.tree_format.specs.Refusals.{shown_line}
use Rattle.tree_format.specs.Reports.{snippet_text}
use Rattle.tree_format.specs.declared.mode.Mode.{Mode}
use Rattle.tree_format.specs.declared.mode.Mode.TheVariants.{Write, Diff}
use Rattle.tree_format.specs.declared.outcome.Outcome.{Outcome}
use Rattle.tree_format.specs.declared.outcome.Outcome.TheVariants as outcome

-- the files after a look at a file with this real name that isn't formatted
abbrev pub Left : Mode → Files → Files → Name → List ℕ → Type 0
Left (Write writing) old new name formatted = new ≡ with_bytes old name formatted
Left mode old new name formatted = new ≡ old

-- the bytes of a file aren't its format
pub record Changes (mode : Mode) (old new : Files) (name : Name) (bytes : List ℕ) : Type 0 where
  pub formatted : List ℕ
  pub is : IsFormat bytes formatted
  pub changed : formatted ≢ bytes
  pub left : Left mode old new name formatted

-- THE CHANGES to a file of this name, as they are shown: the heads have its name below `old/` and `new/`
abbrev pub shown_diff : Name → List ℕ → List ℕ → List ℕ
shown_diff given bytes formatted =
    diff_of (shown_head (codes "old/" ++ given)) (shown_head (codes "new/"
    ++ given)) bytes formatted

-- The answer of a look at a file with this real name, this given name and these bytes, and the files afterwards. If the
-- changes are to be shown, the answer has them; if messages are read on a terminal, it has the line of a fault.
abbrev pub Looks : Bool → Mode → Files → Files → Name → Name → List ℕ → Outcome → Type 0
Looks shows mode old new given name bytes outcome.Formatted = IsFormat bytes bytes × (new ≡ old)
Looks shows mode old new given name bytes (outcome.Changed how) =
    (mode ≢ Diff) × Changes mode old new name bytes
Looks shows mode old new given name bytes (outcome.Differs text) =
    (mode ≡ Diff) × (changes : Changes Diff old new name bytes)
    × (text.items ≡ shown_diff given bytes changes.formatted)
Looks shows mode old new given name bytes (outcome.Refused fault snippet) =
    IsFault bytes fault × (new ≡ old) × (snippet_text snippet ≡ shown_line shows bytes fault)
Looks shows mode old new given name bytes (outcome.Failed fault) = new ≡ old

-- the answer of a look that reads a file: it is one for some bytes, which are those that the device tells
abbrev pub Visits : Bool → Mode → Files → Files → Name → Name → Outcome → Type 0
Visits shows mode old new given name (outcome.Failed fault) = new ≡ old
Visits shows mode old new given name answer =
    (bytes : List ℕ) × Tells (old.told name) bytes
    × Looks shows mode old new given name bytes answer

-- the fault of a failed look
abbrev pub failure_of : Outcome → Option TreeFault
failure_of (outcome.Failed fault) = Some fault
failure_of _ = None

-- A FAILURE IS REAL: its fault is that of the only call of the device that failed, or memory ran out. If a look doesn't
-- fail, no call failed.
pub record Notes (before after : Faults) (answer : Outcome) : Type 0 where
  pub is : (after ≡ with_fault before (failure_of answer))
      ⊎ ((failure_of answer ≡ Some OutOfMemory) × (after ≡ before))

-- one replacement was asked for: that of the file with this given name and these bytes by their format, in this way of
-- writing; and this was the answer
pub record AsksFor (writing : Writing) (given : Name) (told : Option (List ℕ))
    (before after : Asked) (answer : Result Replaced TreeFault) : Type 0 where
  pub bytes : List ℕ
  pub tells : Tells told bytes
  pub formatted : List ℕ
  pub is : IsFormat bytes formatted
  pub changed : formatted ≢ bytes
  pub asked : after
      ≡ with_asked before (record {
        name = given;
        old = bytes;
        new = formatted;
        writing = writing;
        answer = answer;
      })

-- if files are to be written, that replacement was asked for, and otherwise none
abbrev pub AsksIn : Mode → Name → Option (List ℕ) → Asked → Asked → Result Replaced TreeFault
    → Type 0
AsksIn (Write writing) given told before after answer =
    AsksFor writing given told before after answer
AsksIn mode given told before after answer = after ≡ before

-- THE REPLACEMENT THAT A LOOK ASKS FOR, at a file whose bytes the device tells: if the file is to be written and isn't
-- formatted, it is to get its format, in the run's way of writing. The look reports the rights to the file as the
-- device answered. A failed look may have asked for the replacement too, and then has the fault that was the answer.
abbrev pub Asks : Mode → Name → Option (List ℕ) → Asked → Asked → Outcome → Type 0
Asks mode given told before after (outcome.Changed how) =
    AsksIn mode given told before after (Ok how)
Asks mode given told before after (outcome.Failed fault) =
    (after ≡ before) ⊎ AsksIn mode given told before after (Err fault)
Asks mode given told before after _ = after ≡ before
