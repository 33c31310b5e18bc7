-- Facts are stored one by one, as a walk goes on.
use Rattle.std.proofs.Common.{◌≡◌, ◌∙◌, ap, sym, subst, refl, ℕ, ◌+◌, ◌≤◌, List, [], ◌∷◌, ◌++◌, append_assoc, map, drop, length}
use Rattle.std.specs.Prelude.{Some, slice_get}
use Rattle.std.specs.List.{flat_map}
use Rattle.std.proofs.lemmas.List.{append-nil, drop_all, map-append}
use Rattle.hcl_tokens.specs.Lexemes.{Lexeme}
use Rattle.hcl_grammar.proofs.NumberedLemmas.{drop_at}
use Rattle.hcl_grammar.specs.Verdict.{start_of}
use Rattle.tf_rules.specs.Issues.{File}
use Rattle.tf_rules.specs.Inner.Locating.{Locating, CanAdvance, Forward, IsKeeping, reached_after, advance}

forward_first : (ts : List Lexeme) (r : ℕ) (ns ms : List ℕ) → Forward ts r (ns ++ ms) → Forward ts r ns
forward_first ts r [] ms h = tt
forward_first ts r (n ∷ ns) ms h = (h.0, h.1, forward_first ts (start_of ts n) ns ms h.2)

forward_rest : (ts : List Lexeme) (r : ℕ) (ns ms : List ℕ) → Forward ts r (ns ++ ms) → Forward ts (reached_after ts r ns) ms
forward_rest ts r [] ms h = h
forward_rest ts r (n ∷ ns) ms h = forward_rest ts (start_of ts n) ns ms h.2

single : (ns : List ℕ) → flat_map (λ n. n ∷ []) ns ≡ ns
single [] = refl
single (n ∷ ns) = ap (λ r. n ∷ r) (single ns)

pub begins_single : {K V : Type 0} (view : K → V) (whole : ℕ → V) (p : Locating) (ns : List ℕ) (kept : List K) → kept ≡ [] → CanAdvance p ns → IsKeeping view whole (λ n. n ∷ []) p.file ns kept 0 p
begins_single view whole p ns kept none go = record {
  so_far = ap (λ ks. map view ks ++ map whole ns) none;
  same = refl;
  ahead = subst (λ (ms : List ℕ). Forward p.file.source.tokens p.reached ms) (sym (single ns)) go;
}

module _ {X K V : Type 0} (view : K → V) (whole : File → X → V) (numbers : X → List ℕ) (file : File) (all : List X) where
  pub begins : (p : Locating) → p.file ≡ file → Forward file.source.tokens p.reached (flat_map numbers all) → IsKeeping view (whole file) numbers file all [] 0 p
  begins p same ahead = record { so_far = refl; same = same; ahead = ahead }

  module _ (kept : List K) (n : ℕ) (p : Locating) (h : IsKeeping view (whole file) numbers file all kept n p) where
    pub ends : length all ≤ n → map view kept ≡ map (whole file) all
    ends past = sym (append-nil (map view kept)) ∙ ap (λ xs. map view kept ++ map (whole file) xs) (sym (drop_all n all past)) ∙ h.so_far

    module _ (x : X) (e : slice_get all n ≡ Some x) where
      split : Forward file.source.tokens p.reached (numbers x ++ flat_map numbers (drop (n + 1) all))
      split = subst (λ xs. Forward file.source.tokens p.reached (flat_map numbers xs)) (drop_at all n x e) h.ahead

      pub can_go : CanAdvance p (numbers x)
      can_go = subst (λ (f : File). Forward f.source.tokens p.reached (numbers x)) (sym h.same) (forward_first file.source.tokens p.reached (numbers x) (flat_map numbers (drop (n + 1) all)) split)

      pub keeps : (next : List K) (k : K) (q : Locating) → next ≡ kept ++ k ∷ [] → view k ≡ whole p.file x → q ≡ advance p (numbers x) → IsKeeping view (whole file) numbers file all next (n + 1) q
      keeps next k q pushed is went = record {
        so_far = ap (λ ks. map view ks ++ map (whole file) (drop (n + 1) all)) pushed
            ∙ ap (λ vs. vs ++ map (whole file) (drop (n + 1) all)) (map-append view kept (k ∷ []))
            ∙ append_assoc (map view kept) (view k ∷ []) (map (whole file) (drop (n + 1) all))
            ∙ ap (λ v. map view kept ++ v ∷ map (whole file) (drop (n + 1) all)) (is ∙ ap (λ f. whole f x) h.same)
            ∙ ap (λ xs. map view kept ++ map (whole file) xs) (sym (drop_at all n x e))
            ∙ h.so_far;
        same = ap (λ (r : Locating). r.file) went ∙ h.same;
        ahead = subst (λ (r : ℕ). Forward file.source.tokens r (flat_map numbers (drop (n + 1) all))) (sym (ap (λ (r : Locating). r.reached) went ∙ ap (λ (f : File). reached_after f.source.tokens p.reached (numbers x)) h.same))
            (forward_rest file.source.tokens p.reached (numbers x) (flat_map numbers (drop (n + 1) all)) split);
      }
