-- The stored facts of a file are those that were found in it, with their places.
use Rattle.std.proofs.Common.{◌≡◌, ◌∙◌, ap, sym, subst, ℕ, List, map}
use Rattle.std.specs.List.{flat_map}
use Rattle.std.proofs.lemmas.List.Folds.{flat_map-map}
use Rattle.hcl_tokens.specs.Scans.{Scans}
use Rattle.tf_facts.specs.Comments.{Comment}
use Rattle.tf_facts.specs.Declarations.{Declaration}
use Rattle.tf_facts.specs.Facts.{Facts, facts_of}
use Rattle.tf_rules.specs.Issues.{File, Place, comment_at, place_in, tokens_of}
use Rattle.tf_rules.specs.Stored.{declaration_at, facts_at}
use Rattle.tf_facts.specs.Found.{facts, comment, declaration}
use Rattle.tf_rules.specs.Inner.StoredFacts.{stored_facts}
use Rattle.tf_rules.specs.Inner.StoredViews.{stored_comment, stored_declaration, place_of}
use Rattle.tf_rules.specs.Inner.Locating.{Locating, CanAdvance, Forward, numbers_of}
use Rattle.tf_facts.specs.declared.file_facts.FileFacts.{FileFacts}
use Rattle.tf_facts.specs.declared.found.Declared.{Declared}
use Rattle.tf_facts.specs.declared.found.FoundComment.{FoundComment}
use Rattle.tf_rules.specs.declared.stored_file.StoredFile.{StoredFile}
use Rattle.tf_rules.proofs.FindingLemmas.{map-map}
use Rattle.tf_rules.proofs.ForwardLemmas.{comments_forward, declarations_forward, indexes_forward, interpolations_forward}

abbrev pub at_start : File → Locating
at_start file = record { file = file; reached = 0 }

-- the stored facts, with the walk at the start of the file and the facts that were found
pub there : {X V : Type 0} (whole : File → X → V) (vs : List V) (p : Locating) (file : File) (xs ys : List X) → p ≡ at_start file → xs ≡ ys → vs ≡ map (whole p.file) xs → vs ≡ map (whole file) ys
there whole vs p file xs ys start same is = is ∙ ap (λ (q : Locating). map (whole q.file) xs) start ∙ ap (map (whole file)) same

module _ (file : File) (found : FileFacts) (is : facts found ≡ facts_of (tokens_of file)) where
  module _ (scanned : Scans file.source.text file.source.tokens) (p : Locating) (start : p ≡ at_start file) where
    go : (ns ms : List ℕ) → ns ≡ ms → Forward file.source.tokens 0 ms → CanAdvance p ns
    go ns ms same f = subst (λ (q : Locating). CanAdvance q ns) (sym start) (subst (λ (ks : List ℕ). Forward file.source.tokens 0 ks) (sym same) f)

    pub comments_go : (xs : List FoundComment) → xs ≡ found.comments.items → CanAdvance p (map (λ (c : FoundComment). c.at) xs)
    comments_go xs same =
        go (map (λ (c : FoundComment). c.at) xs) (map (λ (c : Comment ℕ). c.at) ((facts_of (tokens_of file)).comments))
        (ap (map (λ (c : FoundComment). c.at)) same ∙ sym (map-map (λ (c : Comment ℕ). c.at) comment found.comments.items) ∙ ap (λ (f : Facts ℕ). map (λ (c : Comment ℕ). c.at) f.comments) is)
        (comments_forward file.source.tokens file.source.text scanned)

    pub indexes_go : (xs : List ℕ) → xs ≡ found.indexes.items → CanAdvance p xs
    indexes_go xs same = go xs ((facts_of (tokens_of file)).indexes) (same ∙ ap (λ (f : Facts ℕ). f.indexes) is) (indexes_forward file.source.tokens file.source.text scanned)

    pub interpolations_go : (xs : List ℕ) → xs ≡ found.interpolations.items → CanAdvance p xs
    interpolations_go xs same = go xs ((facts_of (tokens_of file)).interpolations) (same ∙ ap (λ (f : Facts ℕ). f.interpolations) is) (interpolations_forward file.source.tokens file.source.text scanned)

    pub declarations_go : (xs : List Declared) → xs ≡ found.declarations.items → CanAdvance p (flat_map (λ (d : Declared). numbers_of (declaration d)) xs)
    declarations_go xs same =
        go (flat_map (λ (d : Declared). numbers_of (declaration d)) xs) (flat_map numbers_of ((facts_of (tokens_of file)).declarations))
        (ap (flat_map (λ (d : Declared). numbers_of (declaration d))) same ∙ sym (flat_map-map numbers_of declaration found.declarations.items) ∙ ap (λ (f : Facts ℕ). flat_map numbers_of f.declarations) is)
        (declarations_forward file.source.tokens file.source.text scanned)

  abbrev made : List (Comment Place) → List Place → List Place → List (Declaration Place) → Facts Place
  made cs ns ws ds = record { comments = cs; indexes = ns; interpolations = ws; declarations = ds }

  pub all_kept : (kept : StoredFile)
      → map stored_comment kept.comments.items ≡ map (λ (c : FoundComment). comment_at (place_in file) (comment c)) found.comments.items
      → map place_of kept.indexes.items ≡ map (place_in file) found.indexes.items
      → map place_of kept.interpolations.items ≡ map (place_in file) found.interpolations.items
      → map stored_declaration kept.declarations.items ≡ map (λ (d : Declared). declaration_at (place_in file) (declaration d)) found.declarations.items
      → stored_facts kept ≡ facts_at (place_in file) (facts_of (tokens_of file))
  all_kept kept c n w d =
      ap (λ cs. made cs (map place_of kept.indexes.items) (map place_of kept.interpolations.items) (map stored_declaration kept.declarations.items)) (c ∙ sym (map-map (comment_at (place_in file)) comment found.comments.items))
      ∙ ap (λ ns. made (map (comment_at (place_in file)) (map comment found.comments.items)) ns (map place_of kept.interpolations.items) (map stored_declaration kept.declarations.items)) n
      ∙ ap (λ ws. made (map (comment_at (place_in file)) (map comment found.comments.items)) (map (place_in file) found.indexes.items) ws (map stored_declaration kept.declarations.items)) w
      ∙ ap (λ ds. made (map (comment_at (place_in file)) (map comment found.comments.items)) (map (place_in file) found.indexes.items) (map (place_in file) found.interpolations.items) ds)
      (d ∙ sym (map-map (declaration_at (place_in file)) declaration found.declarations.items))
      ∙ ap (facts_at (place_in file)) is
