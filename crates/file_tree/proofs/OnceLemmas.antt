-- Links to files that were found under another name as well.
use Rattle.std.proofs.Common.{◌≡◌, ◌∙◌, ◌<◌, ◌+◌, ◌⊎◌, ℕ, suc, Bool, true, false, Global, List, Vec, [], ◌∷◌, ◌++◌, Option, Some, None, Less, Equal, Contains, ap, arith, get_or, inl, inr, length, nat_cmp, refl, subst, sym, take, true≢false}
use Rattle.std.specs.Prelude.{IfOk, Result, Ok, Err, not, if◌then◌else◌}
use Rattle.std.specs.Cmp.Lexicographic.{slice_cmp}
use Rattle.std.specs.List.{AllByRecursion}
use Rattle.std.specs.List.Sorted.{IsStrictlySortedBy}
use Rattle.std.proofs.lemmas.Cmp.{nat_list_cmp_total, tied_itself}
use Rattle.std.proofs.lemmas.List.{take_more}
use Rattle.std.proofs.lemmas.List.Elements.{Contains-append_left, Contains-push, Contains-push_cases}
use Rattle.file_tree.specs.Once.{IsAgain, IsLinkTo, IsPlain, KeepsOnce}
use Rattle.file_tree.specs.Ordered.{Rises}
use Rattle.file_tree.specs.Inner.Once.{AreKept, Keeps, MeetsBy, MeetsIf, MeetsLink, NotesIdentity, NotesPlain, NotesUnless, Owns}
use Rattle.file_tree.specs.declared.kind.Identity.{Identity}
use Rattle.file_tree.specs.declared.walk.Found.{Found}
use Rattle.file_tree.specs.declared.walk.FoundFile.{FoundFile}
use Rattle.file_tree.proofs.OrderLemmas.{cons_cases, none_in}

-- ---- names that rise

abbrev Before : Found → Found → Type 0
Before f g = slice_cmp nat_cmp f.name.items g.name.items ≡ Less

all_front : (P : Found → Type 0) (xs : List Found) (x : Found) → AllByRecursion P (xs ++ x ∷ []) → AllByRecursion P xs
all_front P [] x h = tt
all_front P (y ∷ xs) x h = (h.0, all_front P xs x h.1)

all_last : (P : Found → Type 0) (xs : List Found) (x : Found) → AllByRecursion P (xs ++ x ∷ []) → P x
all_last P [] x h = h.0
all_last P (y ∷ xs) x h = all_last P xs x h.1

all_push : (P : Found → Type 0) (xs : List Found) (x : Found) → AllByRecursion P xs → P x → AllByRecursion P (xs ++ x ∷ [])
all_push P [] x h p = (p, tt)
all_push P (y ∷ xs) x h p = (h.0, all_push P xs x h.1 p)

rises_front : (xs : List Found) (x : Found) → Rises (xs ++ x ∷ []) → Rises xs
unfolding IsStrictlySortedBy
rises_front [] x h = tt
rises_front (y ∷ xs) x h = (all_front (Before y) xs x h.0, rises_front xs x h.1)

first_or_later : (z x y : Found) (xs : List Found) → Before z x → (Contains xs y → Before y x) → (z ≡ y) ⊎ Contains xs y → Before y x
first_or_later z x y xs first rest (inl e) = subst (λ (w : Found). Before w x) e first
first_or_later z x y xs first rest (inr d) = rest d

rises_last : (xs : List Found) (x y : Found) → Rises (xs ++ x ∷ []) → Contains xs y → Before y x
unfolding IsStrictlySortedBy
rises_last [] x y h c = absurd (none_in y c)
rises_last (z ∷ xs) x y h c = first_or_later z x y xs (all_last (Before z) xs x h.0) (λ d. rises_last xs x y h.1 d) (cons_cases z y xs c)

later : (k z : Found) (xs : List Found) → Contains xs z → Contains (k ∷ xs) z
later k z xs c = let within : c.0 < length xs = c.1 in (suc c.0, omega arith, c.2)

rises_push : (ks : List Found) (x : Found) → Rises ks → ((k : Found) → Contains ks k → Before k x) → Rises (ks ++ x ∷ [])
unfolding IsStrictlySortedBy
rises_push [] x h lower = (tt, tt)
rises_push (k ∷ ks) x h lower = (all_push (Before k) ks x h.0 (lower k (0, omega arith, refl)), rises_push ks x h.1 (λ j c. lower j (later k j ks c)))

-- ---- names that are links, and other names

some_file : (a b : FoundFile) → Some a ≡ Some b → a ≡ b
some_file a b e = cc

no_file : (a : FoundFile) → None ≡ Some a → ⊥
no_file a e = cc

link_unnamed : (f : Found) (identity : Identity) → f.file ≡ None → IsLinkTo identity f → ⊥
link_unnamed f identity none h = no_file h.0 (sym none ∙ h.1)

plain_unnamed : (f : Found) (identity : Identity) → f.file ≡ None → IsPlain identity f → ⊥
plain_unnamed f identity none h = no_file h.0 (sym none ∙ h.1)

not_both : (f : Found) (i j : Identity) → IsLinkTo i f → IsPlain j f → ⊥
not_both f i j link plain = true≢false (sym link.3 ∙ ap (λ (x : FoundFile). x.is_link) (some_file link.0 plain.0 (sym link.1 ∙ plain.1)) ∙ plain.3)

same_link : (f : Found) (i j : Identity) → IsLinkTo i f → IsLinkTo j f → i ≡ j
same_link f i j one other = sym one.2 ∙ ap (λ (x : FoundFile). x.identity) (some_file one.0 other.0 (sym one.1 ∙ other.1)) ∙ other.2

same_plain : (f : Found) (i j : Identity) → IsPlain i f → IsPlain j f → i ≡ j
same_plain f i j one other = sym one.2 ∙ ap (λ (x : FoundFile). x.identity) (some_file one.0 other.0 (sym one.1 ∙ other.1)) ∙ other.2

fresh : (v : Bool) → true ≡ not v → v ≡ true → ⊥
fresh true e t = cc
fresh false e t = cc

known_before : (v : Bool) → false ≡ not v → v ≡ true
known_before true e = refl
known_before false e = absurd (cc)

not_true : (v : Bool) → (v ≡ true → ⊥) → v ≡ false
not_true true h = absurd (h refl)
not_true false h = refl

-- ---- one more of a name that isn't dropped

module _ (own : Identity → Bool) (f : Found) (met kept : List Found) (had has : Identity → Bool) (up : Rises (met ++ f ∷ [])) (k : Keeps own met kept had) where
  here_kept : Contains (kept ++ f ∷ []) f
  here_kept = Contains-push kept f

  was_kept : (g : Found) → Contains kept g → Contains (kept ++ f ∷ []) g
  was_kept g c = Contains-append_left kept (f ∷ []) g c

  rises_kept : Rises (kept ++ f ∷ [])
  rises_kept = rises_push kept f k.rises (λ g c. rises_last met f g up (k.only g c))

  only_kept : (g : Found) → Contains (kept ++ f ∷ []) g → Contains (met ++ f ∷ []) g
  only_kept g c = within (Contains-push_cases kept f g c)
    where
      within : Contains kept g ⊎ (f ≡ g) → Contains (met ++ f ∷ []) g
      within (inl d) = Contains-append_left met (f ∷ []) g (k.only g d)
      within (inr e) = subst (λ (x : Found). Contains (met ++ f ∷ []) x) e (Contains-push met f)

  plain_kept : (g : Found) (identity : Identity) → Contains (met ++ f ∷ []) g → IsPlain identity g → Contains (kept ++ f ∷ []) g
  plain_kept g identity c plain = within (Contains-push_cases met f g c)
    where
      within : Contains met g ⊎ (f ≡ g) → Contains (kept ++ f ∷ []) g
      within (inl d) = was_kept g (k.plain g identity d plain)
      within (inr e) = subst (λ (x : Found). Contains (kept ++ f ∷ []) x) e here_kept

  abbrev Again : List Found → Found → Type 0
  Again l g = (identity : Identity) × IsLinkTo identity g × ((own identity ≡ true) ⊎ ((h : Found) × Contains l h × IsAgain h g))

  again_more : (g : Found) → Again kept g → Again (kept ++ f ∷ []) g
  again_more g h = (h.0, h.1, by h.2)
    where
      by : (own h.0 ≡ true) ⊎ ((x : Found) × Contains kept x × IsAgain x g) → (own h.0 ≡ true) ⊎ ((x : Found) × Contains (kept ++ f ∷ []) x × IsAgain x g)
      by (inl e) = inl e
      by (inr d) = inr (d.0, was_kept d.0 d.1, d.2)

  stays_kept : (g : Found) → Contains (met ++ f ∷ []) g → Contains (kept ++ f ∷ []) g ⊎ Again (kept ++ f ∷ []) g
  stays_kept g c = here (Contains-push_cases met f g c)
    where
      old : Contains kept g ⊎ Again kept g → Contains (kept ++ f ∷ []) g ⊎ Again (kept ++ f ∷ []) g
      old (inl d) = inl (was_kept g d)
      old (inr d) = inr (again_more g d)

      here : Contains met g ⊎ (f ≡ g) → Contains (kept ++ f ∷ []) g ⊎ Again (kept ++ f ∷ []) g
      here (inl d) = old (k.stays g d)
      here (inr e) = inl (subst (λ (x : Found). Contains (kept ++ f ∷ []) x) e here_kept)

  -- a name that is no link
  pub keeps_other : ((identity : Identity) → IsLinkTo identity f → ⊥) → has ≡ had → Keeps own (met ++ f ∷ []) (kept ++ f ∷ []) has
  keeps_other never same = subst (λ (p : Identity → Bool). Keeps own (met ++ f ∷ []) (kept ++ f ∷ []) p) (sym same) (record {
    rises = rises_kept;
    only = only_kept;
    plain = plain_kept;
    stays = stays_kept;
    apart = λ g i c link. k.apart g i (old g i link (Contains-push_cases kept f g c)) link;
    owned = k.owned;
    noted = λ g i c link. k.noted g i (old g i link (Contains-push_cases kept f g c)) link;
    known = λ i e. more i (k.known i e);
    once = λ g h i c d one other. k.once g h i (old g i one (Contains-push_cases kept f g c)) (old h i other (Contains-push_cases kept f h d)) one other;
  })
    where
      old : (g : Found) (i : Identity) → IsLinkTo i g → Contains kept g ⊎ (f ≡ g) → Contains kept g
      old g i link (inl c) = c
      old g i link (inr e) = absurd (never i (subst (λ (x : Found). IsLinkTo i x) (sym e) link))

      more : (i : Identity) → (own i ≡ true) ⊎ ((g : Found) × Contains kept g × IsLinkTo i g) → (own i ≡ true) ⊎ ((g : Found) × Contains (kept ++ f ∷ []) g × IsLinkTo i g)
      more i (inl e) = inl e
      more i (inr d) = inr (d.0, was_kept d.0 d.1, d.2)

  -- a link to a file that wasn't noted
  pub keeps_link : (identity : Identity) → IsLinkTo identity f → NotesIdentity had has identity true → Keeps own (met ++ f ∷ []) (kept ++ f ∷ []) has
  keeps_link identity link n = record {
    rises = rises_kept;
    only = only_kept;
    plain = plain_kept;
    stays = stays_kept;
    apart = λ g i c other. apart g i other (Contains-push_cases kept f g c);
    owned = λ i e. n.kept i (k.owned i e);
    noted = λ g i c other. noted g i other (Contains-push_cases kept f g c);
    known = λ i e. known i (n.more i e);
    once = λ g h i c d one other. once g h i one other (Contains-push_cases kept f g c) (Contains-push_cases kept f h d);
  }
    where
      unknown : had identity ≡ true → ⊥
      unknown e = fresh (had identity) n.is e

      its_own : (g : Found) (i : Identity) → IsLinkTo i g → f ≡ g → identity ≡ i
      its_own g i other e = same_link f identity i link (subst (λ (x : Found). IsLinkTo i x) (sym e) other)

      apart : (g : Found) (i : Identity) → IsLinkTo i g → Contains kept g ⊎ (f ≡ g) → own i ≡ false
      apart g i other (inl c) = k.apart g i c other
      apart g i other (inr e) = subst (λ (x : Identity). own x ≡ false) (its_own g i other e) (not_true (own identity) (λ t. unknown (k.owned identity t)))

      noted : (g : Found) (i : Identity) → IsLinkTo i g → Contains kept g ⊎ (f ≡ g) → has i ≡ true
      noted g i other (inl c) = n.kept i (k.noted g i c other)
      noted g i other (inr e) = subst (λ (x : Identity). has x ≡ true) (its_own g i other e) n.now

      was : (i : Identity) → (own i ≡ true) ⊎ ((g : Found) × Contains kept g × IsLinkTo i g) → (own i ≡ true) ⊎ ((g : Found) × Contains (kept ++ f ∷ []) g × IsLinkTo i g)
      was i (inl e) = inl e
      was i (inr d) = inr (d.0, was_kept d.0 d.1, d.2)

      known : (i : Identity) → (i ≡ identity) ⊎ (had i ≡ true) → (own i ≡ true) ⊎ ((g : Found) × Contains (kept ++ f ∷ []) g × IsLinkTo i g)
      known i (inl e) = inr (f, here_kept, subst (λ (x : Identity). IsLinkTo x f) (sym e) link)
      known i (inr e) = was i (k.known i e)

      never : (g h : Found) (i : Identity) → IsLinkTo i g → IsLinkTo i h → Contains kept g → f ≡ h → ⊥
      never g h i one other c e = unknown (subst (λ (x : Identity). had x ≡ true) (sym (its_own h i other e)) (k.noted g i c one))

      once : (g h : Found) (i : Identity) → IsLinkTo i g → IsLinkTo i h → Contains kept g ⊎ (f ≡ g) → Contains kept h ⊎ (f ≡ h) → g.name.items ≡ h.name.items
      once g h i one other (inl c) (inl d) = k.once g h i c d one other
      once g h i one other (inl c) (inr e) = absurd (never g h i one other c e)
      once g h i one other (inr e) (inl d) = absurd (never h g i other one d e)
      once g h i one other (inr e) (inr d) = ap (λ (x : Found). x.name.items) (sym e ∙ d)

  -- a link to a file that was noted
  pub passes_link : (identity : Identity) → IsLinkTo identity f → NotesIdentity had has identity false → Keeps own (met ++ f ∷ []) kept has
  passes_link identity link n = record {
    rises = k.rises;
    only = λ g c. Contains-append_left met (f ∷ []) g (k.only g c);
    plain = λ g i c plain. old g i plain (Contains-push_cases met f g c);
    stays = λ g c. stays g (Contains-push_cases met f g c);
    apart = k.apart;
    owned = λ i e. n.kept i (k.owned i e);
    noted = λ g i c other. n.kept i (k.noted g i c other);
    known = λ i e. known i (n.more i e);
    once = k.once;
  }
    where
      was : had identity ≡ true
      was = known_before (had identity) n.is

      old : (g : Found) (i : Identity) → IsPlain i g → Contains met g ⊎ (f ≡ g) → Contains kept g
      old g i plain (inl c) = k.plain g i c plain
      old g i plain (inr e) = absurd (not_both f identity i link (subst (λ (x : Found). IsPlain i x) (sym e) plain))

      again : (own identity ≡ true) ⊎ ((g : Found) × Contains kept g × IsLinkTo identity g) → (own identity ≡ true) ⊎ ((g : Found) × Contains kept g × IsAgain g f)
      again (inl e) = inl e
      again (inr d) = inr (d.0, d.1, (identity, link, inr (d.2, rises_last met f d.0 up (k.only d.0 d.1))))

      stays : (g : Found) → Contains met g ⊎ (f ≡ g) → Contains kept g ⊎ Again kept g
      stays g (inl c) = k.stays g c
      stays g (inr e) = inr (subst (λ (x : Found). Again kept x) e (identity, link, again (k.known identity was)))

      known : (i : Identity) → (i ≡ identity) ⊎ (had i ≡ true) → (own i ≡ true) ⊎ ((g : Found) × Contains kept g × IsLinkTo i g)
      known i (inl e) = k.known i (subst (λ (x : Identity). had x ≡ true) (sym e) was)
      known i (inr e) = k.known i e

  -- whatever the name is
  by_link : (kept' : List Found) (identity : Identity) → IsLinkTo identity f → MeetsLink identity f had has kept kept' → Keeps own (met ++ f ∷ []) kept' has
  by_link kept' identity link m = turn m.0 m.1 m.2
    where
      turn : (is_new : Bool) → NotesIdentity had has identity is_new → kept' ≡ (if is_new then kept ++ f ∷ [] else kept) → Keeps own (met ++ f ∷ []) kept' has
      turn true n e = subst (λ l. Keeps own (met ++ f ∷ []) l has) (sym e) (keeps_link identity link n)
      turn false n e = subst (λ l. Keeps own (met ++ f ∷ []) l has) (sym e) (passes_link identity link n)

  by_kind : (kept' : List Found) (file : FoundFile) (v : Bool) → f.file ≡ Some file → file.is_link ≡ v → MeetsIf v file.identity f had has kept kept' → Keeps own (met ++ f ∷ []) kept' has
  by_kind kept' file true is link m = by_link kept' file.identity (file, is, refl, link) m
  by_kind kept' file false is link m =
      subst (λ l. Keeps own (met ++ f ∷ []) l has) (sym m.1) (keeps_other (λ i other. not_both f i file.identity other (file, is, refl, link)) m.0)

  pub by_file : (kept' : List Found) (o : Option FoundFile) → f.file ≡ o → MeetsBy o f had has kept kept' → Keeps own (met ++ f ∷ []) kept' has
  by_file kept' None is m = subst (λ l. Keeps own (met ++ f ∷ []) l has) (sym m.1) (keeps_other (λ i other. link_unnamed f i is other) m.0)
  by_file kept' (Some file) is m = by_kind kept' file file.is_link is refl m

pub keeps_more : (own : Identity → Bool) (f : Found) (met kept kept' : List Found) (had has : Identity → Bool) → (Rises met → Keeps own met kept had) → MeetsBy f.file f had has kept kept'
    → Rises (met ++ f ∷ []) → Keeps own (met ++ f ∷ []) kept' has
keeps_more own f met kept kept' had has so m up = by_file own f met kept had has up (so (rises_front met f up)) kept' f.file refl m

pub keeps_none : (own : Identity → Bool) (kept : List Found) → kept ≡ [] → Rises [] → Keeps own [] kept own
keeps_none own kept none up = subst (λ l. Keeps own [] l own) (sym none) (record {
  rises = up;
  only = λ f c. c;
  plain = λ f i c plain. c;
  stays = λ g c. inl c;
  apart = λ f i c link. absurd (none_in f c);
  owned = λ i e. e;
  noted = λ f i c link. absurd (none_in f c);
  known = λ i e. inl e;
  once = λ f g i c d one other. absurd (none_in f c);
})

-- ---- the end

module _ (found kept : List Found) (own has : Identity → Bool) (owns : Owns found own) (k : Keeps own found kept has) where
  keeps_once : KeepsOnce found kept
  keeps_once = record {
    rises = k.rises;
    only = k.only;
    stays = λ g c. stays g (k.stays g c);
    once = λ f g c d again. once f g c d again.0 again.1 again.2;
  }
    where
      by_own : (g : Found) (i : Identity) → IsLinkTo i g → (own i ≡ true) ⊎ ((f : Found) × Contains kept f × IsAgain f g) → (f : Found) × Contains kept f × IsAgain f g
      by_own g i link (inl e) = let w = owns.only i e in (w.0, k.plain w.0 i w.1 w.2, (i, link, inl w.2))
      by_own g i link (inr d) = d

      stays : (g : Found) → Contains kept g ⊎ ((i : Identity) × IsLinkTo i g × ((own i ≡ true) ⊎ ((f : Found) × Contains kept f × IsAgain f g))) → Contains kept g ⊎ ((f : Found) × Contains kept f × IsAgain f g)
      stays g (inl c) = inl c
      stays g (inr h) = inr (by_own g h.0 h.1 h.2)

      before_itself : (f g : Found) → f.name.items ≡ g.name.items → slice_cmp nat_cmp f.name.items g.name.items ≡ Less → ⊥
      before_itself f g same less = no (sym (tied_itself nat_list_cmp_total g.name.items) ∙ subst (λ n. slice_cmp nat_cmp n g.name.items ≡ Less) same less)
        where
          no : Equal ≡ Less → ⊥
          no e = cc

      once : (f g : Found) → Contains kept f → Contains kept g → (i : Identity) → IsLinkTo i g → IsPlain i f ⊎ (IsLinkTo i f × (slice_cmp nat_cmp f.name.items g.name.items ≡ Less)) → ⊥
      once f g c d i link (inl plain) = true≢false (sym (owns.all f i (k.only f c) plain) ∙ k.apart g i d link)
      once f g c d i link (inr h) = before_itself f g (k.once f g i c d h.0 link) h.1

-- after all names
pub kept_once : {E : Type 0} (r : Result (Vec Found Global) E) (found : List Found) (own : Identity → Bool) → Owns found own → IfOk r (λ kept. Rises found → AreKept own found kept.items)
    → IfOk r (λ kept. Rises found → KeepsOnce found kept.items)
kept_once (Ok kept) found own owns so = λ up. let k = so up in keeps_once found kept.items own k.0 owns k.1
kept_once (Err e) found own owns so = tt

-- ---- files of names that are no links

owns_same : (f : Found) (found : List Found) (had has : Identity → Bool) → ((i : Identity) → IsPlain i f → ⊥) → has ≡ had → Owns found had → Owns (found ++ f ∷ []) has
owns_same f found had has never same o = subst (λ (p : Identity → Bool). Owns (found ++ f ∷ []) p) (sym same) (record {
  all = λ g i c plain. by g i plain (Contains-push_cases found f g c);
  only = λ i e. let w = o.only i e in (w.0, Contains-append_left found (f ∷ []) w.0 w.1, w.2);
})
  where
    by : (g : Found) (i : Identity) → IsPlain i g → Contains found g ⊎ (f ≡ g) → had i ≡ true
    by g i plain (inl c) = o.all g i c plain
    by g i plain (inr e) = absurd (never i (subst (λ (x : Found). IsPlain i x) (sym e) plain))

owns_one : (f : Found) (found : List Found) (had has : Identity → Bool) (identity : Identity) (is_new : Bool) → IsPlain identity f → NotesIdentity had has identity is_new → Owns found had → Owns (found ++ f ∷ []) has
owns_one f found had has identity is_new plain n o = record {
  all = λ g i c other. by g i other (Contains-push_cases found f g c);
  only = λ i e. from i (n.more i e);
}
  where
    by : (g : Found) (i : Identity) → IsPlain i g → Contains found g ⊎ (f ≡ g) → has i ≡ true
    by g i other (inl c) = n.kept i (o.all g i c other)
    by g i other (inr e) = subst (λ (x : Identity). has x ≡ true) (same_plain f identity i plain (subst (λ (x : Found). IsPlain i x) (sym e) other)) n.now

    from : (i : Identity) → (i ≡ identity) ⊎ (had i ≡ true) → (g : Found) × Contains (found ++ f ∷ []) g × IsPlain i g
    from i (inl e) = (f, Contains-push found f, subst (λ (x : Identity). IsPlain x f) (sym e) plain)
    from i (inr e) = let w = o.only i e in (w.0, Contains-append_left found (f ∷ []) w.0 w.1, w.2)

owns_if : (f : Found) (found : List Found) (had has : Identity → Bool) (file : FoundFile) (v : Bool) → f.file ≡ Some file → file.is_link ≡ v → NotesUnless v file.identity had has → Owns found had → Owns (found ++ f ∷ []) has
owns_if f found had has file true is link n o = owns_same f found had has (λ i plain. not_both f file.identity i (file, is, refl, link) plain) n o
owns_if f found had has file false is link n o = owns_one f found had has file.identity n.0 (file, is, refl, link) n.1 o

pub owns_more : (f : Found) (found : List Found) (had has : Identity → Bool) (o : Option FoundFile) → f.file ≡ o → NotesPlain o had has → Owns found had → Owns (found ++ f ∷ []) has
owns_more f found had has None is n owns = owns_same f found had has (λ i plain. plain_unnamed f i is plain) n owns
owns_more f found had has (Some file) is n owns = owns_if f found had has file file.is_link is refl n owns

pub owns_none : (has : Identity → Bool) → ((i : Identity) → has i ≡ false) → Owns [] has
owns_none has empty = record {
  all = λ f i c plain. absurd (none_in f c);
  only = λ i e. absurd (true≢false (sym e ∙ empty i));
}

pub owns_step : (found : List Found) (i : ℕ) (f : Found) (had has : Identity → Bool) → i < length found → f ≡ get_or found i f → Owns (take i found) had → NotesPlain f.file had has → Owns (take (i + 1) found) has
owns_step found i f had has within is before notes =
    subst (λ l. Owns l has) (sym (take_more found i f within ∙ ap (λ x. take i found ++ x ∷ []) (sym is))) (owns_more f (take i found) had has f.file refl notes before)
