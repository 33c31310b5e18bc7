-- Entries, and the numbers of their marks.
use Rattle.std.proofs.Common.{◌≡◌, ◌∙◌, ◌+◌, ◌<◌, ◌++◌, ◌∷◌, [], ℕ, List, ap, append-nil, append_assoc, get_or, length, map, refl, subst, sym, take}
use Rattle.std.specs.Prelude.{count_by, if◌then◌else◌}
use Rattle.std.specs.Str.{bytes_eq}
use Rattle.std.proofs.lemmas.List.{map-append, take_more}
use Rattle.std.proofs.lemmas.List.Sums.{sum_by_push}
use Rattle.lint_forms.specs.Marks.{MarkedRemark, digits, entries, entries_after, entry_after, mark}
use Rattle.lint_forms.specs.Remarks.{Remark}

abbrev pub numbered : Remark → ℕ → MarkedRemark
numbered r number = record { said = r; mark = mark (digits r) number }

pushed : (before rs : List Remark) (r : Remark) → entries_after before (rs ++ r ∷ []) ≡ entries_after before rs ++ entry_after (before ++ rs) r ∷ []
pushed before [] r = ap (λ l. entry_after l r ∷ []) (sym (append-nil before))
pushed before (q ∷ rs) r =
    ap (λ l. entry_after before q ∷ l)
    (pushed (before ++ q ∷ []) rs r ∙ ap (λ l. entries_after (before ++ q ∷ []) rs ++ entry_after l r ∷ []) (append_assoc before (q ∷ []) rs))

-- these are the entries of remarks, and the counts of digits are those of the remarks
pub record IsNumbered (es : List MarkedRemark) (came : List ℕ → ℕ) (rs : List Remark) : Type 0 where
  pub all : es ≡ entries rs
  pub counted : (q : List ℕ) → came q ≡ count_by (λ r. bytes_eq q (digits r)) rs

one_more : (es fs : List MarkedRemark) (old new : List ℕ → ℕ) (rs : List Remark) (r : Remark) → IsNumbered es old rs → fs ≡ es ++ numbered r (old (digits r) + 1) ∷ []
    → ((q : List ℕ) → new q ≡ old q + (if bytes_eq q (digits r) then 1 else 0)) → IsNumbered fs new (rs ++ r ∷ [])
one_more es fs old new rs r before added counted = record {
  all = added ∙ ap (λ k. es ++ numbered r (k + 1) ∷ []) (before.counted (digits r)) ∙ ap (λ l. l ++ entry_after rs r ∷ []) before.all ∙ sym (pushed [] rs r);
  counted = λ q. counted q ∙ ap (λ k. k + (if bytes_eq q (digits r) then 1 else 0)) (before.counted q) ∙ sym (sum_by_push _ rs r);
}

pub one_more_at : {A : Type 0} (f : A → Remark) (es fs : List MarkedRemark) (old new : List ℕ → ℕ) (xs : List A) (n : ℕ) (x : A) → n < length xs
    → IsNumbered es old (map f (take n xs)) → fs ≡ es ++ numbered (f (get_or xs n x)) (old (digits (f (get_or xs n x))) + 1) ∷ []
    → ((q : List ℕ) → new q ≡ old q + (if bytes_eq q (digits (f (get_or xs n x))) then 1 else 0)) → IsNumbered fs new (map f (take (n + 1) xs))
one_more_at f es fs old new xs n x within before added counted =
    subst (IsNumbered fs new) (sym (ap (map f) (take_more xs n x within) ∙ map-append f (take n xs) (get_or xs n x ∷ [])))
    (one_more es fs old new (map f (take n xs)) (f (get_or xs n x)) before added counted)

-- entries made of remarks alone
said_after : {A : Type 0} (f : Remark → A) (before rs : List Remark) → map (λ e. f e.said) (entries_after before rs) ≡ map f rs
said_after f before [] = refl
said_after f before (r ∷ rs) = ap (λ l. f r ∷ l) (said_after f (before ++ r ∷ []) rs)

pub said_again : {A : Type 0} (f : Remark → A) (rs : List Remark) → map (λ e. f e.said) (entries rs) ≡ map f rs
said_again f rs = said_after f [] rs
