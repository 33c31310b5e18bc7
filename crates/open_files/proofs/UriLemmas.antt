-- The URI of a path leads back to it.
use Rattle.std.proofs.Common.{◌≡◌, ◌∙◌, ◌∷◌, [], ℕ, All, List, Bool, true, false, not, ◌&&◌, ◌==◌, None, Some, ap, arith, codes, cond, refl, subst, sym}
use Rattle.std.specs.List.{flat_map}
use Rattle.std.proofs.lemmas.Bool.{both_ways, false_from_ne_true, false≢true}
use Rattle.std.proofs.lemmas.Bool.Decides.{nat_tests}
use Rattle.std.proofs.lemmas.List.Folds.{list_any_none}
use Rattle.percent_encoding.proofs.PercentLemmas.{All-percent_encode, IsByte, IsEscapeByte, round_trip}
use Rattle.percent_encoding.specs.AsciiSet.{should_percent_encode}
use Rattle.percent_encoding.specs.Percent.{percent_decode, percent_encode}
use Rattle.open_files.proofs.EncodeLemmas.{encoded_is}
use Rattle.open_files.specs.Uris.{begins_with, decoded_path, encoded_byte, has_byte, is_file_uri, path_of, uri_of}
use Rattle.open_files.specs.declared.uri.TheConstants.{ESCAPED}

abbrev encoded : List ℕ → List ℕ
encoded path = flat_map encoded_byte path

-- a byte that is escaped, and no part of an escape, isn't in a URI's path
lacks : (c : ℕ) → should_percent_encode ESCAPED c ≡ true → ((b : ℕ) → IsEscapeByte b → (b == c) ≡ false) → (path : List ℕ) → has_byte c (encoded path) ≡ false
lacks c escaped no_part path =
    ap (has_byte c) (sym (encoded_is path))
    ∙ list_any_none (λ b. b == c) (percent_encode ESCAPED path) (All-percent_encode (λ b. (b == c) ≡ false) ESCAPED path kept no_part)
  where
    kept : (b : ℕ) → should_percent_encode ESCAPED b ≡ false → (b == c) ≡ false
    kept b stays =
        false_from_ne_true (b == c) (λ same. let e : b ≡ c = grind (arith, nat_tests) in both_ways (should_percent_encode ESCAPED c) (subst (λ k. should_percent_encode ESCAPED k ≡ false) e stays) escaped)

no_query_part : (b : ℕ) → IsEscapeByte b → (b == 63) ≡ false
no_query_part b is = grind (arith, nat_tests)

no_fragment_part : (b : ℕ) → IsEscapeByte b → (b == 35) ≡ false
no_fragment_part b is = grind (arith, nat_tests)

slash_first : (b : ℕ) (bs : List ℕ) → begins_with (codes "/") (b ∷ bs) ≡ true → b ≡ 47
slash_first b bs e = grind (arith, nat_tests)

-- the URI of a path that begins with a slash is that of a file
is_file : (path : List ℕ) → begins_with (codes "/") path ≡ true → is_file_uri (uri_of path) ≡ true
unfolding should_percent_encode
is_file [] e = absurd (false≢true e)
is_file (b ∷ bs) e =
    subst (λ k. is_file_uri (uri_of (k ∷ bs)) ≡ true) (sym (slash_first b bs e)) (lacking (has_byte 63 (encoded bs)) (has_byte 35 (encoded bs)) (lacks 63 refl no_query_part bs) (lacks 35 refl no_fragment_part bs))
  where
    lacking : (query fragment : Bool) → query ≡ false → fragment ≡ false → (not query && not fragment) ≡ true
    lacking query fragment no_query no_fragment = grind (arith, nat_tests)

decodes : (path : List ℕ) → All IsByte path → decoded_path (uri_of path) ≡ path
decodes path small = ap percent_decode (sym (encoded_is path)) ∙ round_trip ESCAPED path refl small

by_parts : (uri path : List ℕ) → is_file_uri uri ≡ true → decoded_path uri ≡ path → has_byte 0 path ≡ false → path_of uri ≡ Some path
by_parts uri path file same no_nul =
    subst (λ d. cond (is_file_uri uri && not (has_byte 0 d)) (Some d) None ≡ Some path) (sym same)
    (ap (λ t. cond (t && not (has_byte 0 path)) (Some path) None) file ∙ ap (λ t. cond (not t) (Some path) None) no_nul)

pub leads_back : (path : List ℕ) → All IsByte path → begins_with (codes "/") path ≡ true → has_byte 0 path ≡ false → path_of (uri_of path) ≡ Some path
leads_back path small slash no_nul = by_parts (uri_of path) path (is_file path slash) (decodes path small) no_nul
