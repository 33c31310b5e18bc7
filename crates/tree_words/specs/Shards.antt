-- The part of the files that a machine takes if several machines share them. A name's part depends on its bytes alone,
-- so that no file changes its part if others are added or removed. Our own choice.
use Rattle.std.specs.Prelude.{ℕ, ◌==◌, ◌+◌, ◌*◌, ◌%◌, ◌&&◌, ◌||◌, Bool, not, true, false, List, Option, Some, None, filter, fold, nat_lt, if◌then◌else◌}
use Rattle.std.specs.Option.{option_map_or}
use Rattle.file_tree.specs.declared.fault.TreeFault.{TreeFault}
use Rattle.file_tree.specs.declared.fault.TreeFault.TheVariants as fault
use Rattle.file_tree.specs.declared.walk.Found.{Found}
use Rattle.tree_words.specs.declared.shard.Shard.{Shard}

-- a newline counts as 1
abbrev pub worth : ℕ → ℕ
worth byte = if byte == 10 then 1 else byte

-- THE SUM of a name's bytes, which decides its part
abbrev pub sum_of : List ℕ → ℕ
sum_of name = fold (λ sum byte. (sum * 31 + worth byte) % 4294967291) 0 name

-- whether the name is in this part; if there are 0 parts, no name is in any
abbrev pub has_name : Shard → List ℕ → Bool
has_name shard name = nat_lt 0 shard.count && sum_of name % shard.count + 1 == shard.number

-- nothing can be below a name with this fault
abbrev pub hides_nothing : TreeFault → Bool
hides_nothing fault.Missing = true
hides_nothing fault.NoInput = true
hides_nothing fault.OtherKind = true
hides_nothing fault.DeadLink = true
hides_nothing _ = false

-- THE FILES OF A PART: the names whose sum is the part's. A name that can't be looked at, and may have files of any
-- part below it, is in each part.
abbrev pub is_of : Shard → Found → Bool
is_of shard found =
    option_map_or (λ fault. not (hides_nothing fault)) found.fault false
    || has_name shard found.name.items

abbrev pub picked_of : Option Shard → List Found → List Found
picked_of None found = found
picked_of (Some shard) found = filter (is_of shard) found
