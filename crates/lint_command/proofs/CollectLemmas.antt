-- The reported names, by names and faults.
use Rattle.std.proofs.Common.{◌≡◌, ◌∙◌, ◌⊎◌, ◌++◌, ◌∷◌, [], Bool, true, false, List, Option, Some, None, Contains, ap, drop, get_or, inl, inr, map, refl, sym}
use Rattle.std.specs.Prelude.{◌||◌, filter, not, if◌then◌else◌}
use Rattle.std.specs.Option.{option_map_or}
use Rattle.std.proofs.lemmas.List.Elements.{Contains-append_cases, Contains-append_left, Contains-append_right, Contains-push}
use Rattle.file_tree.specs.Files.{Name}
use Rattle.file_tree.specs.Ordered.{HasName, Orders}
use Rattle.file_tree.specs.declared.walk.Found.{Found}
use Rattle.file_tree.proofs.OrderLemmas.{cons_cases, none_in}
use Rattle.module_find.specs.Modules.{AreTold, told_as}
use Rattle.tree_words.specs.Shards.{has_name, hides_nothing, is_of, picked_of}
use Rattle.tree_words.specs.declared.shard.Shard.{Shard}

heads : (x y : Found) (xs ys : List Found) → map told_as (x ∷ xs) ≡ map told_as (y ∷ ys) → told_as x ≡ told_as y
heads x y xs ys e = ap (λ l. get_or l 0 (told_as x)) e

tails : (x y : Found) (xs ys : List Found) → map told_as (x ∷ xs) ≡ map told_as (y ∷ ys) → map told_as xs ≡ map told_as ys
tails x y xs ys e = ap (λ l. drop 1 l) e

abbrev Like : Found → List Found → Type 0
Like f ys = (g : Found) × Contains ys g × (told_as g ≡ told_as f)

like_one : (xs ys : List Found) → map told_as xs ≡ map told_as ys → (f : Found) → Contains xs f → Like f ys
like_one [] ys e f c = absurd (none_in f c)
like_one (x ∷ xs) [] e f c = absurd (cc)
like_one (x ∷ xs) (y ∷ ys) e f c = by (λ d. like_one xs ys (tails x y xs ys e) f d) (cons_cases x f xs c)
  where
    later : Like f ys → Like f (y ∷ ys)
    later h = (h.0, Contains-append_right (y ∷ []) ys h.0 h.1, h.2)

    by : (Contains xs f → Like f ys) → (x ≡ f) ⊎ Contains xs f → Like f (y ∷ ys)
    by rest (inl same) = (y, Contains-append_left (y ∷ []) ys y (Contains-push [] y), sym (heads x y xs ys e) ∙ ap told_as same)
    by rest (inr d) = later (rest d)

is_of_like : (shard : Shard) (f g : Found) → told_as f ≡ told_as g → is_of shard f ≡ is_of shard g
is_of_like shard f g e = ap (λ t. option_map_or (λ fault. not (hides_nothing fault)) t.1 false || has_name shard t.0) e

one_like : (v w : Bool) (x y : Found) (xs ys : List Found) → v ≡ w → told_as x ≡ told_as y → map told_as xs ≡ map told_as ys → map told_as (if v then x ∷ xs else xs) ≡ map told_as (if w then y ∷ ys else ys)
one_like true true x y xs ys same one rest = λ i. one i ∷ rest i
one_like true false x y xs ys same one rest = absurd (cc)
one_like false true x y xs ys same one rest = absurd (cc)
one_like false false x y xs ys same one rest = rest

kept_like : (shard : Shard) (xs ys : List Found) → map told_as xs ≡ map told_as ys → map told_as (filter (is_of shard) xs) ≡ map told_as (filter (is_of shard) ys)
kept_like shard [] [] e = refl
kept_like shard [] (y ∷ ys) e = absurd (cc)
kept_like shard (x ∷ xs) [] e = absurd (cc)
kept_like shard (x ∷ xs) (y ∷ ys) e =
    one_like (is_of shard x) (is_of shard y) x y (filter (is_of shard) xs) (filter (is_of shard) ys) (is_of_like shard x y (heads x y xs ys e)) (heads x y xs ys e) (kept_like shard xs ys (tails x y xs ys e))

picked_like : (shard : Option Shard) (xs ys : List Found) → map told_as xs ≡ map told_as ys → map told_as (picked_of shard xs) ≡ map told_as (picked_of shard ys)
picked_like None xs ys e = e
picked_like (Some shard) xs ys e = kept_like shard xs ys e

-- the reported names are the lost ones and the others that are reported
pub all_told : (shard : Option Shard) (kept lost told faults : List Found) → map told_as kept ≡ map told_as lost → Orders (picked_of shard kept ++ told) faults → AreTold (picked_of shard lost ++ told) faults
all_told shard kept lost told faults same o = record {
  rises = o.rises;
  only = λ f c. by f (Contains-append_cases (picked_of shard kept) told f (o.only f c));
  all = λ name h. o.named name (back name h (Contains-append_cases (picked_of shard lost) told h.0 h.1));
}
  where
    alike : map told_as (picked_of shard kept) ≡ map told_as (picked_of shard lost)
    alike = picked_like shard kept lost same

    first : (f : Found) → Like f (picked_of shard lost) → Like f (picked_of shard lost ++ told)
    first f h = (h.0, Contains-append_left (picked_of shard lost) told h.0 h.1, h.2)

    by : (f : Found) → Contains (picked_of shard kept) f ⊎ Contains told f → Like f (picked_of shard lost ++ told)
    by f (inl c) = first f (like_one (picked_of shard kept) (picked_of shard lost) alike f c)
    by f (inr c) = (f, Contains-append_right (picked_of shard lost) told f c, refl)

    named : (name : Name) (f : Found) → f.name.items ≡ name → Like f (picked_of shard kept) → HasName (picked_of shard kept ++ told) name
    named name f is h = (h.0, Contains-append_left (picked_of shard kept) told h.0 h.1, ap (λ t. t.0) h.2 ∙ is)

    back : (name : Name) → (h : HasName (picked_of shard lost ++ told) name) → Contains (picked_of shard lost) h.0 ⊎ Contains told h.0 → HasName (picked_of shard kept ++ told) name
    back name h (inl c) = named name h.0 h.2 (like_one (picked_of shard lost) (picked_of shard kept) (sym alike) h.0 c)
    back name h (inr c) = (h.0, Contains-append_right (picked_of shard kept) told h.0 c, h.2)
