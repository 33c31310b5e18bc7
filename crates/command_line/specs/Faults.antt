-- The number and the kinds of faults that a line of words has, as clap lists them.
use Rattle.std.specs.Prelude.{[], ◌∷◌}
use Rattle.clap.specs.Kinds.{Kinds}
use Rattle.clap.specs.declared.error.kind.ErrorKind.{ErrorKind}
use Rattle.clap.specs.declared.error.kind.ErrorKind.TheVariants.{OutOfMemory}

-- a fault of the words themselves: not running out of memory
abbrev pub IsOfWords : ErrorKind → Type 0
IsOfWords OutOfMemory = ⊥
IsOfWords _ = Unit {0}

-- one fault at most, which is a fault of the words themselves
abbrev pub One : Kinds → Type 0
One [] = Unit {0}
One (k ∷ []) = IsOfWords k
One (k ∷ l ∷ ks) = ⊥
