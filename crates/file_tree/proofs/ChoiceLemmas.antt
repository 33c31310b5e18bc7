-- Excluded paths.
use Rattle.std.proofs.Common.{◌≡◌, ◌∙◌, ◌<◌, ◌+◌, ◌∷◌, [], ℕ, Bool, true, false, Bor, Global, List, Vec, ap, get_or, length, map, refl, sym, take}
use Rattle.std.specs.Prelude.{◌||◌, ◌++◌}
use Rattle.std.specs.List.{list_any}
use Rattle.std.proofs.lemmas.List.{map-append, map_more, take_more}
use Rattle.std.proofs.lemmas.List.Folds.{list_any-append}
use Rattle.file_tree.specs.Choices.{has_part, is_at}
use Rattle.file_tree.specs.Files.{Name}
use Rattle.file_tree.specs.Paths.{top}

-- a test of the values of elements
pub any_map : {X Y : Type 0} (f : Y → Bool) (g : X → Y) (xs : List X) → list_any (λ x. f (g x)) xs ≡ list_any f (map g xs)
any_map f g [] = refl
any_map f g (x ∷ xs) = ap (λ v. f (g x) || v) (any_map f g xs)

-- another folder
pub folders_more : (paths : List (Bor (List ℕ))) (i : ℕ) (d : Bor (List ℕ)) (old new : List (Vec ℕ Global)) (folder : Vec ℕ Global) → i < length paths → new ≡ old ++ folder ∷ []
    → map (λ f. f.items) old ≡ map top (map (λ p. p.now) (take i paths)) → folder.items ≡ top (get_or paths i d).now
    → map (λ f. f.items) new ≡ map top (map (λ p. p.now) (take (i + 1) paths))
folders_more paths i d old new folder within is so one =
    ap (map (λ (f : Vec ℕ Global). f.items)) is ∙ map-append (λ (f : Vec ℕ Global). f.items) old (folder ∷ []) ∙ (λ j. so j ++ one j ∷ [])
    ∙ sym (ap (map top) (map_more (λ (p : Bor (List ℕ)). p.now) paths i d within) ∙ map-append top (map (λ (p : Bor (List ℕ)). p.now) (take i paths)) ((get_or paths i d).now ∷ []))

-- another part
pub any_more : (p : List ℕ → Bool) (all : List (List ℕ)) (n m : ℕ) (d : List ℕ) (has one new : Bool) → n < length all → d ≡ get_or all n d → m ≡ n + 1 → has ≡ list_any p (take n all) → one ≡ p d → new ≡ (has || one)
    → new ≡ list_any p (take m all)
any_more p all n m d has one new within is more so that then =
    then ∙ (λ i. so i || that i) ∙ (λ i. list_any p (take n all) || p (is i)) ∙ sym (last (list_any p (take n all)) (p (get_or all n d)) ∙ refl)
    ∙ sym (list_any-append p (take n all) (get_or all n d ∷ [])) ∙ ap (list_any p) (sym (take_more all n d within)) ∙ ap (λ k. list_any p (take k all)) (sym more)
  where
    last : (v w : Bool) → (v || (w || false)) ≡ (v || w)
    last true w = refl
    last false true = refl
    last false false = refl

-- one of the names, or of the folders
pub excluded_as : (names : List (Bor (List ℕ))) (folders : List (Vec ℕ Global)) (path : Name) (a b r : Bool) → a ≡ list_any (λ n. has_part n.now path) names → b ≡ list_any (λ f. is_at f.items path) folders → r ≡ (a || b)
    → r ≡ (list_any (λ n. has_part n path) (map (λ n. n.now) names) || list_any (λ f. is_at f path) (map (λ f. f.items) folders))
excluded_as names folders path a b r one two then =
    then ∙ (λ i. one i || two i) ∙ (λ i. any_map (λ n. has_part n path) (λ (n : Bor (List ℕ)). n.now) names i || any_map (λ f. is_at f path) (λ (f : Vec ℕ Global). f.items) folders i)
