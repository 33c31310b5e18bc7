-- No text of tokens begins with a byte order mark: U+FEFF begins no identifier.
use Rattle.std.proofs.Common.{◌≡◌, ℕ, Bool, true, false, List, [], ◌∷◌, ◌++◌, drop, get_or, refl, sym, ap, subst, ◌∙◌, append_assoc}
use lib.Utf8.{encode}
use Rattle.unicode_ident.proofs.Computing.{unicode_ident}
use Rattle.std.specs.Prelude.{encode_utf8, encode_utf8_all}
use Rattle.std.specs.List.{list_all}
use Rattle.std.proofs.lemmas.Str.{encode_same}
use Rattle.std.proofs.lemmas.List.{get_or_append_left}
use Rattle.hcl_tokens.specs.Lexemes.{Lexeme}
use Rattle.hcl_tokens.specs.Spelling.{IsIdent, IsExpressionText, are_ident, starts_ident, continues_ident}
use Rattle.hcl_tokens.specs.Scans.{Scans, begin}
use Rattle.hcl_source.specs.Load.{has_byte_order_mark}
use Rattle.hcl_scan.specs.Inner.Prefixes.{prefix_of, prefix_bytes}
use Rattle.hcl_scan.specs.declared.front.Prefix.TheVariants.{Letter}
use Rattle.hcl_tokens.specs.declared.token.Kind.{Kind}
use Rattle.hcl_tokens.specs.declared.token.Kind.TheVariants.{Ident}
use Rattle.hcl_tokens.proofs.BooleanLemmas.{and_true}
use Rattle.hcl_scan.proofs.LongestFrontLemmas.{begins}
use Rattle.hcl_scan.proofs.WayLemmas.{ways}
use Rattle.hcl_scan.proofs.PrefixLemmas.{leads, some, letter_kind}
use Rattle.hcl_scan.proofs.InExpressionLemmas.{ReadPlain, read_plain}

no_start : starts_ident 0xFEFF ≡ false
unfolding unicode_ident
no_start = refl

mark_is : encode_utf8 0xFEFF ≡ 0xEF ∷ 0xBB ∷ 0xBF ∷ []
unfolding encode
mark_is = refl

no_ident : (text more : List ℕ) → IsIdent text → text ++ more ≡ (0xEF ∷ 0xBB ∷ 0xBF ∷ []) ++ drop 3 (text ++ more) → ⊥
no_ident text more is e = by is.0 is.2 is.3
  where
    by : (cs : List ℕ) → are_ident cs ≡ true → text ≡ encode_utf8_all cs → ⊥
    by [] h f = cc
    by (c ∷ cs) h f =
        let same = encode_same c 0xFEFF (encode_utf8_all cs ++ more) (drop 3 (text ++ more)) (sym (append_assoc (encode_utf8 c) (encode_utf8_all cs) more) ∙ sym (ap (λ l. l ++ more) f) ∙ e ∙ ap (λ l. l ++ drop 3 (text ++ more)) (sym mark_is)) in
        let yes = (and_true (starts_ident c) (list_all continues_ident cs) h).0 in
        let never : starts_ident c ≡ false = ap starts_ident same.0 ∙ no_start in
        absurd (cc)

-- THE LAW
pub unmarked : (text : List ℕ) (t : Lexeme) (ts : List Lexeme) (more : List ℕ) → Scans text (t ∷ ts) → has_byte_order_mark (t.text ++ more) ≡ false
unmarked text t ts more scans = by (has_byte_order_mark (t.text ++ more)) refl
  where
    x : ReadPlain (begin text) t
    x = read_plain (begin text) t scans.1.0 refl refl scans.1.1

    by : (v : Bool) → has_byte_order_mark (t.text ++ more) ≡ v → has_byte_order_mark (t.text ++ more) ≡ false
    by false h = h
    by true h =
        let e = begins (t.text ++ more) (0xEF ∷ 0xBB ∷ 0xBF ∷ []) h in
        let w = ways [] false t.kind t.text x.rest x.is in
        let first : get_or t.text 0 0 ≡ 0xEF = sym (get_or_append_left t.text more 0 0 (some [] false t.kind t.text x.rest w)) ∙ ap (λ l. get_or l 0 0) e in
        let prefix : prefix_of t.text ≡ Letter = ap (λ b. prefix_bytes b (get_or t.text 1 0)) first in
        let k : t.kind ≡ Ident = letter_kind t.kind (sym (leads [] false t.kind t.text x.rest w) ∙ prefix) in
        absurd (no_ident t.text more (subst (λ (z : Kind). IsExpressionText [] false z t.text x.rest) k x.is) e)
