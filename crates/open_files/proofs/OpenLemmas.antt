-- Open documents, as the code has them and as the definitions see them.
use Rattle.std.proofs.Common.{◌≡◌, ◌∷◌, [], ℕ, Bool, List, Option, Some, ap, cond, false, not, refl, true}
use Rattle.std.specs.Prelude.{filter, find, option_and_then, option_map, string_bytes}
use Rattle.std.specs.Str.{bytes_eq}
use Rattle.file_tree.specs.Files.{Name}
use Rattle.open_files.specs.OpenTexts.{OpenText, is_path, text_of, text_open, uri_open, version_of, version_open, without}
use Rattle.open_files.specs.Views.{file_seen, open_seen, path_seen}
use Rattle.open_files.specs.declared.document.OpenFile.{OpenFile}

-- a part of the first such document, by the code's documents
found_seen : {X : Type 0} (part : OpenText → X) (is : OpenText → Bool) (documents : List OpenFile) → option_map part (find is (open_seen documents)) ≡ option_map (λ file. part (file_seen file)) (find (λ file. is (file_seen file)) documents)
found_seen part is [] = refl
found_seen part is (file ∷ files) = by (is (file_seen file)) (found_seen part is files)
  where
    by : (same : Bool) → option_map part (find is (open_seen files)) ≡ option_map (λ f. part (file_seen f)) (find (λ f. is (file_seen f)) files) → option_map part (cond same (Some (file_seen file)) (find is (open_seen files))) ≡ option_map (λ f. part (file_seen f)) (cond same (Some file) (find (λ f. is (file_seen f)) files))
    by true e = refl
    by false e = e

-- the same of a part that it may lack
may_seen : {X : Type 0} (part : OpenText → Option X) (is : OpenText → Bool) (documents : List OpenFile) → option_and_then part (find is (open_seen documents)) ≡ option_and_then (λ file. part (file_seen file)) (find (λ file. is (file_seen file)) documents)
may_seen part is [] = refl
may_seen part is (file ∷ files) = by (is (file_seen file)) (may_seen part is files)
  where
    by : (same : Bool) → option_and_then part (find is (open_seen files)) ≡ option_and_then (λ f. part (file_seen f)) (find (λ f. is (file_seen f)) files) → option_and_then part (cond same (Some (file_seen file)) (find is (open_seen files))) ≡ option_and_then (λ f. part (file_seen f)) (cond same (Some file) (find (λ f. is (file_seen f)) files))
    by true e = refl
    by false e = e

pub text_of_seen : (documents : List OpenFile) (uri : List ℕ) → text_of (open_seen documents) uri ≡ option_map (λ file. string_bytes file.text) (find (λ file. bytes_eq uri (string_bytes file.uri)) documents)
text_of_seen documents uri = found_seen (λ o. o.text) (λ o. bytes_eq uri o.uri) documents

pub text_seen : (documents : List OpenFile) (path : Name) → text_open (open_seen documents) path ≡ option_map (λ file. string_bytes file.text) (find (λ file. is_path path (path_seen file.path)) documents)
text_seen documents path = found_seen (λ o. o.text) (λ o. is_path path o.path) documents

pub uri_seen : (documents : List OpenFile) (path : Name) → uri_open (open_seen documents) path ≡ option_map (λ file. string_bytes file.uri) (find (λ file. is_path path (path_seen file.path)) documents)
uri_seen documents path = found_seen (λ o. o.uri) (λ o. is_path path o.path) documents

pub version_of_seen : (documents : List OpenFile) (uri : List ℕ) → version_of (open_seen documents) uri ≡ option_and_then (λ file. file.version) (find (λ file. bytes_eq uri (string_bytes file.uri)) documents)
version_of_seen documents uri = may_seen (λ o. o.version) (λ o. bytes_eq uri o.uri) documents

pub version_seen : (documents : List OpenFile) (path : Name) → version_open (open_seen documents) path ≡ option_and_then (λ file. file.version) (find (λ file. is_path path (path_seen file.path)) documents)
version_seen documents path = may_seen (λ o. o.version) (λ o. is_path path o.path) documents

pub without_seen : (uri : List ℕ) (documents : List OpenFile) → open_seen (filter (λ file. not (bytes_eq uri (string_bytes file.uri))) documents) ≡ without uri (open_seen documents)
without_seen uri [] = refl
without_seen uri (file ∷ files) = by (not (bytes_eq uri (string_bytes file.uri))) (without_seen uri files)
  where
    by : (stays : Bool) → open_seen (filter (λ f. not (bytes_eq uri (string_bytes f.uri))) files) ≡ without uri (open_seen files) → open_seen (cond stays (file ∷ filter (λ f. not (bytes_eq uri (string_bytes f.uri))) files) (filter (λ f. not (bytes_eq uri (string_bytes f.uri))) files)) ≡ cond stays (file_seen file ∷ without uri (open_seen files)) (without uri (open_seen files))
    by true e = ap (λ l. file_seen file ∷ l) e
    by false e = e
