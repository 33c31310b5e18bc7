-- The mode of a new file in place of an old one.
use Rattle.std.specs.Prelude.{◌≡◌, ℕ, ◌==◌, ◌||◌, ◌&&◌, ◌+◌, ◌*◌, ◌/◌, ◌%◌, Bool, true, false, if◌then◌else◌}

-- a right of a digit of a mode: 1 to run, 2 to write, 4 to read
abbrev pub is_right : ℕ → Bool
is_right right = right == 1 || (right == 2 || right == 4)

abbrev pub allows : ℕ → ℕ → Bool
allows digit right = digit / right % 2 == 1

-- the rights that both digits allow
abbrev pub both : ℕ → ℕ → ℕ
both a b = (a / 4 % 2) * (b / 4 % 2) * 4 + ((a / 2 % 2) * (b / 2 % 2) * 2 + (a % 2) * (b % 2))

-- the last three digits of a mode: the owner's, the group's, the others'
pub record Rights : Type 0 where
  pub own : ℕ
  pub group : ℕ
  pub other : ℕ

abbrev pub rights_of : ℕ → Rights
rights_of mode = record { own = mode / 64 % 8; group = mode / 8 % 8; other = mode % 8 }

-- the rights of a mode for someone other than the owner, who may be in the file's group
abbrev pub of_digit : Rights → Bool → ℕ
of_digit rights true = rights.group
of_digit rights false = rights.other

-- THE RIGHTS KEPT: all if the group is kept; otherwise a member of the old group is now one of the others, and the
-- other way round, so each gets the rights that both had
abbrev pub kept_rights : Bool → Rights → Rights
kept_rights true old = old
kept_rights false old =
    record { own = old.own; group = both old.group old.other; other = both old.group old.other }

-- the bits of a mode for those who run the file, and for its removal: setuid, setgid and sticky
abbrev pub special_bits : ℕ → ℕ
special_bits mode = mode / 512 % 8

-- THE MODE OF A NEW FILE, given whether owner and group are kept: nobody runs it with the rights of someone else than
-- before
abbrev pub new_mode : ℕ → Bool → Bool → ℕ
new_mode old has_owner has_group =
    let rights : Rights = kept_rights has_group (rights_of old) in
    (if has_owner && has_group then special_bits old
    else 0) * 512 + (rights.own * 64 + (rights.group * 8 + rights.other))

-- NO RIGHT MORE: nobody but the owner has a right by the new mode that he hadn't by the old one, whichever groups he is
-- in. If the group is kept, he is in it both before and after, or never
abbrev pub GivesNoMore : Bool → ℕ → ℕ → Type 0
GivesNoMore has_group old new =
    (was_in is_in : Bool) (right : ℕ) → is_right right ≡ true → (has_group ≡ true → was_in ≡ is_in)
    → allows (of_digit (rights_of new) is_in) right ≡ true
    → allows (of_digit (rights_of old) was_in) right ≡ true
