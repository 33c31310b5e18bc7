-- How a message stands on a stream (Language Server Protocol 3.17, "Base Protocol"): a head of fields, an empty line, and
-- a body of as many bytes as one of the fields tells.
use Rattle.std.specs.Prelude.{ℕ, suc, ◌&&◌, ◌||◌, ◌==◌, Bool, List, [], ◌∷◌, ◌++◌, Option, Some, None, codes, decimal, drop, length, nat_eq, nat_le, nat_lt, take, if◌then◌else◌}
use Rattle.std.specs.Char.{is_ascii_digit}
use Rattle.std.specs.List.{after_first, before_first, list_all, onto_first, prefix_len, starts_with, take_while}
use Rattle.std.specs.Option.{option_map}
use Rattle.std.specs.Str.{str_eq_ignore_ascii_case}
use Rattle.std.specs.Str.Parse.{digits_value}

-- the most bytes of a body: our own choice
abbrev pub max_body : ℕ
max_body = 67_108_864

-- the most bytes of a head and its empty line: our own choice
abbrev pub max_head : ℕ
max_head = 4096

-- CR LF, which ends a field
abbrev pub line_end : List ℕ
line_end = 13 ∷ 10 ∷ []

-- the end of the last field, and an empty line
abbrev pub head_end : List ℕ
head_end = 13 ∷ 10 ∷ 13 ∷ 10 ∷ []

-- how many bytes are before the first place where the mark begins
abbrev pub bytes_before : List ℕ → List ℕ → Option ℕ
bytes_before mark [] = None
bytes_before mark (b ∷ bs) =
    if starts_with nat_eq (b ∷ bs) mark then Some 0 else option_map suc (bytes_before mark bs)

-- how long the head is that a stream begins with
abbrev pub head_length : List ℕ → Option ℕ
head_length stream = bytes_before head_end (take max_head stream)

-- the fields of a head are the texts between its CR LFs
abbrev pub fields : List ℕ → List (List ℕ)
fields [] = [] ∷ []
fields (b ∷ []) = (b ∷ []) ∷ []
fields (b ∷ c ∷ bs) =
    if starts_with nat_eq (b ∷ c ∷ bs) line_end then [] ∷ fields bs
    else onto_first b (fields (c ∷ bs))

-- a field's name is before its first colon, and its value after that
abbrev pub field_name : List ℕ → List ℕ
field_name field = before_first (λ b. b == 58) field

abbrev pub field_value : List ℕ → List ℕ
field_value field = after_first (λ b. b == 58) field

-- the field tells the length of the body, or should: its name counts in any case
abbrev pub is_length_field : List ℕ → Bool
is_length_field field = str_eq_ignore_ascii_case (field_name field) (codes "Content-Length")

abbrev pub is_blank : ℕ → Bool
is_blank b = (b == 32) || (b == 9)

-- the number of one digit or more, if a body may have that many bytes
abbrev pub body_length : List ℕ → Option ℕ
body_length digits =
    if nat_lt 0 (length digits) && nat_le (digits_value 10 digits) max_body
    then Some (digits_value 10 digits) else None

-- the same of digits and then blanks alone
abbrev pub padded_length : List ℕ → Option ℕ
padded_length text =
    if list_all is_blank (drop (prefix_len is_ascii_digit text) text)
    then body_length (take_while is_ascii_digit text) else None

-- the length in a field's value: blanks, digits and blanks
abbrev pub value_length : List ℕ → Option ℕ
value_length value = padded_length (drop (prefix_len is_blank value) value)

-- the length that the first of these fields tells which is named so
abbrev pub first_length : List (List ℕ) → Option ℕ
first_length [] = None
first_length (field ∷ rest) =
    if is_length_field field then value_length (field_value field) else first_length rest

-- the length that a head tells
abbrev pub told_length : List ℕ → Option ℕ
told_length head = first_length (fields head)

-- the frame in which a body goes out
abbrev pub frame : List ℕ → List ℕ
frame body = codes "Content-Length: " ++ (decimal (length body) ++ (head_end ++ body))
