-- The sort of a module's source, by its text. Our own choice, after Terraform's documentation of module sources: a text
-- that begins with `./` or `../` is a local path, and never an address in a registry.
use Rattle.std.specs.Prelude.{ℕ, ◌||◌, ◌&&◌, ◌==◌, Bool, false, not, List, [], ◌∷◌, Option, codes, length, drop, if◌then◌else◌, find}
use Rattle.std.specs.List.{list_any, list_all, slice_split}
use Rattle.std.specs.Char.{is_ascii_digit, is_ascii_lowercase, is_ascii_uppercase}
use Rattle.std.specs.Str.{bytes_eq}
use Rattle.std.specs.Option.{option_map_or}
use Rattle.tf_facts.specs.Texts.{begins}

pub data Source : Type 0 where
  Other : Source
  NotPinned : Source
  DefaultBranch : List ℕ → Source
  Registry : Source

-- ---- git and Mercurial

abbrev pub is_git : List ℕ → Bool
is_git text =
    begins (codes "git::") text || begins (codes "git@") text || begins (codes "github.com/") text
    || begins (codes "bitbucket.org/") text

abbrev pub is_mercurial : List ℕ → Bool
is_mercurial text = begins (codes "hg::") text

-- the text after the first `?`, or nothing
abbrev pub after_question : List ℕ → List ℕ
after_question [] = []
after_question (b ∷ bs) = if b == 63 then bs else after_question bs

-- the parts between `&` of the text after the first `?`
abbrev pub parameters : List ℕ → List (List ℕ)
parameters text = slice_split (λ b. b == 38) (after_question text)

abbrev pub value_after : List ℕ → Option (List ℕ) → List ℕ
value_after front part = option_map_or (drop (length front)) part []

-- the text after this front in the first parameter that begins with it, or nothing
abbrev pub revision : List ℕ → List ℕ → List ℕ
revision front text = value_after front (find (begins front) (parameters text))

abbrev pub is_default_branch : List ℕ → Bool
is_default_branch r =
    list_any (bytes_eq r) (codes "master" ∷ codes "main" ∷ codes "default" ∷ codes "develop" ∷ [])

abbrev pub pinned_to : List ℕ → Source
pinned_to r =
    if length r == 0 then NotPinned else if is_default_branch r then DefaultBranch r else Other

-- ---- addresses in a registry

abbrev pub is_local : List ℕ → Bool
is_local text = begins (codes "./") text || begins (codes "../") text

abbrev pub is_alphanumeric : ℕ → Bool
is_alphanumeric b = is_ascii_lowercase b || is_ascii_uppercase b || is_ascii_digit b

abbrev pub is_part_byte : ℕ → Bool
is_part_byte b = is_alphanumeric b || (b == 45) || (b == 95)

abbrev pub is_part : List ℕ → Bool
is_part part = not (length part == 0) && list_all is_part_byte part

abbrev pub is_host_byte : ℕ → Bool
is_host_byte b = is_alphanumeric b || (b == 45) || (b == 46) || (b == 58)

abbrev pub is_host : List ℕ → Bool
is_host h = list_all is_host_byte h && list_any (λ b. b == 46) h

-- the text before the first `//`, or all of it
abbrev pub before_slashes : List ℕ → List ℕ
before_slashes [] = []
before_slashes (b ∷ bs) = if begins (codes "//") (b ∷ bs) then [] else b ∷ before_slashes bs

-- three parts, or a host and three parts
abbrev pub is_address : List (List ℕ) → Bool
is_address (n ∷ m ∷ p ∷ []) = is_part n && is_part m && is_part p
is_address (h ∷ n ∷ m ∷ p ∷ []) = is_host h && is_part n && is_part m && is_part p
is_address _ = false

abbrev pub is_registry : List ℕ → Bool
is_registry text =
    not (is_local text) && is_address (slice_split (λ b. b == 47) (before_slashes text))

-- THE SORT OF A SOURCE
abbrev pub source_of : List ℕ → Source
source_of text =
    if is_git text then pinned_to (revision (codes "ref=") text)
    else if is_mercurial text then pinned_to (revision (codes "rev=") text)
    else if is_registry text then Registry else Other
