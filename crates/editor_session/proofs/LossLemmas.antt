-- A document whose text is lost right after it got it.
use Rattle.std.proofs.Common.{◌≡◌, ◌∙◌, ◌∷◌, [], ℕ, Bool, List, ap, cond, false, not, refl, true}
use Rattle.std.specs.Prelude.{Option, Some, None}
use Rattle.std.specs.Str.{bytes_eq}
use Rattle.std.proofs.lemmas.Slice.Eq.{bytes_eq-Decides}
use Rattle.open_files.specs.OpenTexts.{OpenText, open_text, with_open_text, without}
use Rattle.editor_session.specs.Sessions.{Session, with_text}

without_twice : (uri : List ℕ) (documents : List OpenText) → without uri (without uri documents) ≡ without uri documents
without_twice uri [] = refl
without_twice uri (o ∷ os) = by (bytes_eq uri o.uri) refl (without_twice uri os)
  where
    by : (same : Bool) → bytes_eq uri o.uri ≡ same → without uri (without uri os) ≡ without uri os → without uri (cond (not same) (o ∷ without uri os) (without uri os)) ≡ cond (not same) (o ∷ without uri os) (without uri os)
    by true e again = again
    by false e again = ap (λ b. cond (not b) (o ∷ without uri (without uri os)) (without uri (without uri os))) e ∙ ap (λ l. o ∷ l) again

lost_text : (uri : List ℕ) (version : Option ℕ) (text : List ℕ) (documents : List OpenText) → without uri (with_open_text uri version text documents) ≡ without uri documents
lost_text uri version text documents =
    ap (λ b. cond (not b) (open_text uri version text ∷ without uri (without uri documents)) (without uri (without uri documents))) ((bytes_eq-Decides uri uri).1 refl) ∙ without_twice uri documents

pub lost : (uri : List ℕ) (version : Option ℕ) (text : List ℕ) (s : Session) → with_text uri None None (with_text uri version (Some text) s) ≡ with_text uri None None s
lost uri version text s = ap (λ documents. record s { documents = documents; has_lost = true }) (lost_text uri version text s.documents)
