-- URIS OF FILES (RFC 8089): `file://`, no name of a host, and the path, with bytes escaped as `%` and two hexadecimal digits
-- (RFC 3986, section 2.1). A URI that is made for a path escapes all but the unreserved characters and slashes.
use Rattle.std.specs.Prelude.{◌==◌, ◌&&◌, ◌||◌, not, ℕ, Bool, List, [], ◌∷◌, ◌++◌, Option, Some, None, codes, drop, flat_map, if◌then◌else◌}
use Rattle.std.specs.Char.{is_ascii_alphanumeric}
use Rattle.std.specs.List.{list_any, starts_with}
use Rattle.percent_encoding.specs.Percent.{percent_decode, percent_encode_byte}

abbrev pub has_byte : ℕ → List ℕ → Bool
has_byte byte bytes = list_any (λ b. b == byte) bytes

abbrev pub begins_with : List ℕ → List ℕ → Bool
begins_with front bytes = starts_with (λ a b. a == b) bytes front

-- ---- from a URI to its path

-- the URI of a file on this machine: without a host, a query (`?`) and a fragment (`#`)
abbrev pub is_file_uri : List ℕ → Bool
is_file_uri uri =
    begins_with (codes "file:///") uri && not (has_byte 63 uri) && not (has_byte 35 uri)

-- the bytes after `file://`, with each escape replaced by its byte
abbrev pub decoded_path : List ℕ → List ℕ
decoded_path uri = percent_decode (drop 7 uri)

-- THE PATH of a URI: that of a file on this machine has one, unless the path has a NUL
abbrev pub path_of : List ℕ → Option (List ℕ)
path_of uri =
    if is_file_uri uri && not (has_byte 0 (decoded_path uri)) then Some (decoded_path uri)
    else None

-- ---- from a path to its URI

-- a byte that isn't escaped
abbrev pub is_unreserved : ℕ → Bool
is_unreserved b = is_ascii_alphanumeric b || has_byte b (codes "-._~/")

abbrev pub encoded_byte : ℕ → List ℕ
encoded_byte b = if is_unreserved b then b ∷ [] else percent_encode_byte b

-- THE URI of a path
abbrev pub uri_of : List ℕ → List ℕ
uri_of path = codes "file://" ++ flat_map encoded_byte path
