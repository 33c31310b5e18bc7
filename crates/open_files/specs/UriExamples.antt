-- URIs at work, by computation.
use Rattle.std.specs.Prelude.{◌≡◌, refl, Some, None, codes}
use Rattle.open_files.specs.Uris.{path_of, uri_of}
use Rattle.percent_encoding.specs.Percent.{percent_decode, percent_encode_byte}

-- ---- paths

plain : path_of (codes "file:///a/main.tf") ≡ Some (codes "/a/main.tf")
unfolding percent_decode
plain = refl

escaped : path_of (codes "file:///a%20b%2fc%3F.tf") ≡ Some (codes "/a b/c?.tf")
unfolding percent_decode
escaped = refl

-- a `%` that begins no escape stays
no_escape : path_of (codes "file:///100%") ≡ Some (codes "/100%")
unfolding percent_decode
no_escape = refl

of_a_host : path_of (codes "file://host/main.tf") ≡ None
of_a_host = refl

with_a_query : path_of (codes "file:///main.tf?x") ≡ None
with_a_query = refl

with_a_fragment : path_of (codes "file:///main.tf#x") ≡ None
with_a_fragment = refl

with_nul : path_of (codes "file:///a%00b") ≡ None
unfolding percent_decode
with_nul = refl

of_no_file : path_of (codes "untitled:Untitled-1") ≡ None
of_no_file = refl

-- ---- URIs

made : uri_of (codes "/a b/c:d/~e_f-g.tf") ≡ codes "file:///a%20b/c%3Ad/~e_f-g.tf"
unfolding percent_encode_byte
made = refl
