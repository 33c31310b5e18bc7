-- The names of files as URIs, by RFC 3986: every character is escaped that isn't one of its unreserved characters, or a
-- slash.
use Rattle.std.specs.Prelude.{ℕ, ◌+◌, ◌/◌, ◌%◌, ◌==◌, ◌++◌, ◌||◌, Bool, List, [], ◌∷◌, codes, flat_map, nat_lt, if◌then◌else◌}
use Rattle.std.specs.Char.{is_ascii_alphanumeric}

abbrev pub is_kept : ℕ → Bool
is_kept b = is_ascii_alphanumeric b || b == 45 || b == 46 || b == 47 || b == 95 || b == 126

abbrev pub hex : ℕ → ℕ
hex digit = if nat_lt digit 10 then 48 + digit else 55 + digit

abbrev pub escape_byte : ℕ → List ℕ
escape_byte b = 37 ∷ hex (b / 16) ∷ hex (b % 16) ∷ []

abbrev pub uri_byte : ℕ → List ℕ
uri_byte b = if is_kept b then b ∷ [] else escape_byte b

abbrev pub scheme : List ℕ → List ℕ
scheme [] = []
scheme (b ∷ bs) = if b == 47 then codes "file://" else []

-- THE URI of a name: a path from the root is one of a file, and any other is a relative reference
abbrev pub uri : List ℕ → List ℕ
uri name = scheme name ++ flat_map uri_byte name
