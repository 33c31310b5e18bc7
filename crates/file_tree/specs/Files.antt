-- What a device tells of its folders and files. Names are bytes. Our own choice.
use Rattle.std.specs.Prelude.{ℕ, Bool, true, false, List, [], ◌∷◌, ◌++◌, Option, Some, None, Result, Ok, Err, option_map, if◌then◌else◌}
use Rattle.std.specs.Str.{bytes_eq}
pub use Rattle.hcl_source.specs.Devices.{Tells}
use Rattle.file_tree.specs.declared.kind.Identity.{Identity}
use Rattle.file_tree.specs.declared.kind.Kind.{Kind}
use Rattle.file_tree.specs.declared.kind.Kind.TheVariants.{File, Folder, Link, Other}
use Rattle.file_tree.specs.declared.fault.TreeFault.{TreeFault}
use Rattle.file_tree.specs.declared.fault.TreeFault.TheVariants.{ReadFailed}

abbrev pub Name : Type 0
Name = List ℕ

-- the identity of a file
abbrev pub identity_of : Kind → Option Identity
identity_of (File identity) = Some identity
identity_of _ = None

abbrev pub is_link : Kind → Bool
is_link Link = true
is_link _ = false

-- for each name, as far as the device tells it:
pub record Files : Type 0 where
  pub kind : Name → Option Kind  -- what it stands for, links followed
  pub entry : Name → Option Kind  -- what it stands for, a link being one
  pub listing : Name → Option (List ℕ)  -- the names in a folder, each ended by NUL
  pub real : Name → Name  -- the name of the file that it leads to, links followed
  pub told : Name → Option (List ℕ)  -- the bytes of the file of a real name
  pub path : Name → Option Name  -- the full path of a folder, links followed, with a `/` at its end

-- a device that tells nothing, as the system's does
abbrev pub silent_files : Files
silent_files =
    record {
      kind = λ name. None;
      entry = λ name. None;
      listing = λ name. None;
      real = λ name. name;
      told = λ name. None;
      path = λ name. None;
    }

-- the files with these bytes for the one of this real name, if the device tells its bytes
abbrev pub with_bytes : Files → Name → List ℕ → Files
with_bytes files name bytes =
    record files {
      told = λ other. if bytes_eq other name
          then option_map (λ _. bytes) (files.told other) else files.told other;
    }

-- the faults of the device's calls so far, if it tells them
abbrev pub Faults : Type 0
Faults = Option (List TreeFault)

-- these faults, and then those of more calls
abbrev pub with_faults : Faults → List TreeFault → Faults
with_faults faults more = option_map (λ all. all ++ more) faults

-- these faults, and then that of one more call, if it failed
abbrev pub with_fault : Faults → Option TreeFault → Faults
with_fault faults None = faults
with_fault faults (Some fault) = with_faults faults (fault ∷ [])

-- why a call failed, if it did
abbrev pub fault_of : {X : Type 0} → Result X TreeFault → Option TreeFault
fault_of (Ok x) = None
fault_of (Err fault) = Some fault

-- the fault of a reader that is returned, if it failed
abbrev pub fault_of_reader : Bool → Option TreeFault
fault_of_reader false = None
fault_of_reader true = Some ReadFailed
