-- Texts that a writer takes one after another.
use Rattle.std.proofs.Common.{◌≡◌, ◌∙◌, ◌<◌, ◌≤◌, ◌+◌, ℕ, Bool, true, false, List, [], ◌++◌, Option, Some, None, drop, get_or, length, map, take, sym, ap, subst, arith, append_assoc, length-append}
use Rattle.std.proofs.Math.Seq.{take-append-add}
use Rattle.std.proofs.lemmas.List.{append-nil, get_or_default, take-append-le}
use Rattle.std.specs.Borrow.{Bor}
use Rattle.std.specs.List.{concat}
use Rattle.std.specs.Io.KnownBytes.{Appends}
use Rattle.command_line.specs.Rows.{TookBy}
use Rattle.command_line.proofs.ListCutLemmas.{from_here}

pub appends_then : (a b c : Option (List ℕ)) (xs ys : List ℕ) → Appends a b xs → Appends b c ys → Appends a c (xs ++ ys)
appends_then None b c xs ys p q = tt
appends_then (Some a) None c xs ys p q = absurd p
appends_then (Some a) (Some b) None xs ys p q = absurd q
appends_then (Some a) (Some b) (Some c) xs ys p q = q ∙ ap (λ l. l ++ ys) p ∙ append_assoc a xs ys

pub appends_nothing : (a : Option (List ℕ)) → Appends a a []
appends_nothing None = tt
appends_nothing (Some a) = sym (append-nil a)

-- a writer that took one text, and then took another, took both
pub took_after : (a b c : Option (List ℕ)) (f : Bool) (s t : List ℕ) → Appends a b s
    → TookBy f b c t → TookBy f a c (s ++ t)
took_after a b c false s t p q = appends_then a b c s t p q
took_after a b c true s t p q =
    let front : take (length s + q.0) (s ++ t) ≡ s ++ take q.0 t = take-append-add s t q.0 in
    let within : q.0 ≤ length t = q.1 in
    (length s + q.0, omega (arith, length-append s t), subst (Appends a c) (sym front) (appends_then a b c s (take q.0 t) p q.2))

-- a failed writer took a front of the text, so also of any longer text that begins with it
pub took_front : (a c : Option (List ℕ)) (f : Bool) (s t : List ℕ) → f ≡ true
    → TookBy f a c s → TookBy f a c (s ++ t)
took_front a c false s t e p = absurd (cc)
took_front a c true s t e p =
    let within : p.0 ≤ length s = p.1 in
    (p.0, omega (arith, length-append s t), subst (Appends a c) (sym (take-append-le p.0 s t within)) p.2)

-- a failed writer took a front of the text
pub took_part : (a c : Option (List ℕ)) (f : Bool) (s : List ℕ) (n : ℕ) → f ≡ true → n ≤ length s → Appends a c (take n s) → TookBy f a c s
took_part a c false s n e h p = absurd (cc)
took_part a c true s n e h p = (n, h, p)

pub took_less : (a c : Option (List ℕ)) (f : Bool) (s : List ℕ) (n : ℕ) → f ≡ true → n < length s → Appends a c (take n s) → TookBy f a c s
took_less a c f s n e h p = took_part a c f s n e (omega (arith, h)) p

-- a writer that didn't fail took the whole text
pub took_all : (a c : Option (List ℕ)) (f : Bool) (s : List ℕ) → f ≡ false → Appends a c s → TookBy f a c s
took_all a c false s e p = p
took_all a c true s e p = absurd (cc)

pub all_taken : (a c : Option (List ℕ)) (f : Bool) (s : List ℕ) → f ≡ false → TookBy f a c s → Appends a c s
all_taken a c false s e p = p
all_taken a c true s e p = absurd (cc)

-- if the writer takes the rest, it has taken the whole text
abbrev pub Goes : Option (List ℕ) → Option (List ℕ) → List ℕ → List ℕ → Type 0
Goes start now rest whole = (after : Option (List ℕ)) (f : Bool) → TookBy f now after rest → TookBy f start after whole

pub goes_on : (start now next : Option (List ℕ)) (text rest all whole : List ℕ) → all ≡ text ++ rest → Appends now next text → Goes start now all whole → Goes start next rest whole
goes_on start now next text rest all whole e taken go = λ after f t. go after f (subst (TookBy f now after) (sym e) (took_after now next after f text rest taken t))

pub goes_wrong : (start now after : Option (List ℕ)) (f : Bool) (text rest all whole : List ℕ) → all ≡ text ++ rest → f ≡ true → TookBy f now after text → Goes start now all whole
    → TookBy f start after whole
goes_wrong start now after f text rest all whole e failed t go =
    go after f (subst (TookBy f now after) (sym e) (took_front now after f text rest failed t))

pub goes_all : (start now : Option (List ℕ)) (f : Bool) (rest whole : List ℕ) → f ≡ false → rest ≡ [] → Goes start now rest whole → TookBy f start now whole
goes_all start now f rest whole good none go =
    go now f (subst (λ v. TookBy v now now rest) (sym good) (subst (Appends now now) (sym none) (appends_nothing now)))

-- the texts of a part and of those after it
pub part_here : (xs : List (Bor (List ℕ))) (i : ℕ) (d : Bor (List ℕ)) (text : List ℕ) → i < length xs → text ≡ (get_or xs i d).now → concat (map (λ part. part.now) (drop i xs)) ≡ text ++ concat (map (λ part. part.now) (drop (i + 1) xs))
part_here xs i d text lt is =
    ap (λ l. concat (map (λ part. part.now) l)) (from_here xs i (get_or xs i d) lt (get_or_default xs i d (get_or xs i d) lt)) ∙ ap (λ t. t ++ concat (map (λ part. part.now) (drop (i + 1) xs))) (sym is)
