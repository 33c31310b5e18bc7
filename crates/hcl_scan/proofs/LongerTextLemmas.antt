-- A text that is longer than another at the same place: it extends that one, and begins in the same way.
use Rattle.std.proofs.Common.{◌≡◌, ℕ, ◌<◌, Bool, true, List, [], ◌∷◌, ◌++◌, length, drop, get_or, refl, sym, ap, ◌∙◌, arith}
use Rattle.std.specs.List.{list_all}
use Rattle.hcl_tokens.specs.Lexemes.{Opener}
use Rattle.hcl_tokens.specs.Spelling.{IsExpressionText}
use Rattle.hcl_scan.specs.Inner.Prefixes.{prefix_of}
use Rattle.hcl_tokens.specs.declared.token.Kind.{Kind}
use Rattle.hcl_tokens.proofs.BooleanLemmas.{and_true}
use Rattle.hcl_scan.proofs.WayLemmas.{ways}
use Rattle.hcl_scan.proofs.PrefixLemmas.{kind_lead, leads, front_lead}

-- there is no longer text of an expression there
abbrev pub Alone : List Opener → Bool → List ℕ → List ℕ → Type 0
Alone opens dot text other = (kind : Kind) (longer left : List ℕ) → longer ++ left ≡ text ++ other → length text < length longer → ¬ IsExpressionText opens dot kind longer left

-- a longer text begins with the text and continues with the text after it
pub lead_kind : (opens : List Opener) (dot : Bool) (kind : Kind) (longer left seen : List ℕ) → longer ++ left ≡ seen → 1 < length longer → IsExpressionText opens dot kind longer left → kind_lead kind ≡ prefix_of seen
lead_kind opens dot kind longer left seen e lt is = sym (leads opens dot kind longer left (ways opens dot kind longer left is)) ∙ front_lead longer left seen e lt

pub first_same : (text other longer left : List ℕ) (b c : ℕ) (more more' : List ℕ) → longer ++ left ≡ text ++ other → text ≡ b ∷ more → longer ≡ c ∷ more' → c ≡ b
first_same text other longer left b c more more' e f g = ap (λ l. get_or l 0 0) (sym (ap (λ l. l ++ left) g) ∙ e ∙ ap (λ l. l ++ other) f)

-- the longer text is the text and more
pub record Longer (text rest longer left : List ℕ) : Type 0 where
  pub bs : List ℕ
  pub some : 0 < length bs
  pub whole : longer ≡ text ++ bs
  pub after : bs ++ left ≡ rest

pub longer_is : (text rest longer left : List ℕ) → longer ++ left ≡ text ++ rest → length text < length longer → Longer text rest longer left
longer_is [] rest [] left e lt = absurd (omega arith)
longer_is [] rest (c ∷ longer) left e lt = record { bs = c ∷ longer; some = omega arith; whole = refl; after = e }
longer_is (b ∷ text) rest [] left e lt = absurd (omega arith)
longer_is (b ∷ text) rest (c ∷ longer) left e lt =
    let rec = longer_is text rest longer left (ap (drop 1) e) (omega arith) in
    let head : c ≡ b = ap (λ l. get_or l 0 0) e in
    record { bs = rec.bs; some = rec.some; whole = (λ i. head i ∷ rec.whole i); after = rec.after }

pub all_after : (q : ℕ → Bool) (xs ys : List ℕ) → list_all q (xs ++ ys) ≡ true → list_all q ys ≡ true
all_after q [] ys h = h
all_after q (x ∷ xs) ys h = all_after q xs ys (and_true (q x) (list_all q (xs ++ ys)) h).1
