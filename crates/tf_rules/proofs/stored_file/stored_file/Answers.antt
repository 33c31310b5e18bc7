use Rattle.std.proofs.Common.{◌≡◌, ◌∙◌, ap, subst, ℕ, map}
use Rattle.hcl_tokens.specs.Scanned.{Scanned}
use Rattle.hcl_tokens.specs.Scans.{Scans}
use Rattle.tf_rules.specs.Issues.{File, comment_at, place_in}
use Rattle.tf_rules.specs.Stored.{declaration_at}
use Rattle.tf_facts.specs.Found.{comment, declaration}
use Rattle.tf_rules.specs.Inner.StoredViews.{stored_comment, stored_declaration, place_of}
use Rattle.tf_rules.specs.Inner.Locating.{Locating}
use Rattle.tf_facts.specs.declared.found.Declared.{Declared}
use Rattle.tf_facts.specs.declared.found.FoundComment.{FoundComment}
use Rattle.tf_rules.proofs.StoredFileLemmas.{all_kept, at_start, comments_go, declarations_go, indexes_go, interpolations_go, there}
use Rattle.tf_rules.proofs.stored_file.stored_file.Goals as goal

abbrev file_of : ℕ → Scanned → File
file_of n s = record { number = n; source = s }

started : (n : ℕ) (s t : Scanned) (p : Locating) → s ≡ t → p ≡ at_start (file_of n s) → p ≡ at_start (file_of n t)
started n s t p same start = start ∙ ap (λ (u : Scanned). at_start (file_of n u)) same

scanned : (s t : Scanned) → s ≡ t → Scans s.text s.tokens → Scans t.text t.tokens
scanned s t same h = subst (λ (u : Scanned). Scans u.text u.tokens) same h

pub stored_comments-requires : goal.stored_comments-requires
stored_comments-requires c =
    let same = c.tokens-tokens.ensures.tokens in
    comments_go (file_of c.args.number c.args.accepted.now) c.in_ok-found.found c.in_ok-found.ensures (scanned c.tokens-tokens.result.now c.args.accepted.now same c.new.ensures.scanned) c.new.result
    (started c.args.number c.tokens-tokens.result.now c.args.accepted.now c.new.result same c.new.ensures.start) c.deref.result.now c.deref.ensures.value

pub places-requires : goal.places-requires
places-requires c =
    let same = c.tokens-tokens.ensures.tokens in
    indexes_go (file_of c.args.number c.args.accepted.now) c.in_ok-found.found c.in_ok-found.ensures (scanned c.tokens-tokens.result.now c.args.accepted.now same c.new.ensures.scanned) c.new-2.result
    (started c.args.number c.tokens-tokens.result.now c.args.accepted.now c.new-2.result same c.new-2.ensures.start) c.deref-2.result.now c.deref-2.ensures.value

pub places-requires-2 : goal.places-requires-2
places-requires-2 c =
    let same = c.tokens-tokens.ensures.tokens in
    interpolations_go (file_of c.args.number c.args.accepted.now) c.in_ok-found.found c.in_ok-found.ensures (scanned c.tokens-tokens.result.now c.args.accepted.now same c.new.ensures.scanned) c.new-3.result
    (started c.args.number c.tokens-tokens.result.now c.args.accepted.now c.new-3.result same c.new-3.ensures.start) c.deref-3.result.now c.deref-3.ensures.value

pub stored_declarations-requires : goal.stored_declarations-requires
stored_declarations-requires c =
    let same = c.tokens-tokens.ensures.tokens in
    declarations_go (file_of c.args.number c.args.accepted.now) c.in_ok-found.found c.in_ok-found.ensures (scanned c.tokens-tokens.result.now c.args.accepted.now same c.new.ensures.scanned) c.new-4.result
    (started c.args.number c.tokens-tokens.result.now c.args.accepted.now c.new-4.result same c.new-4.ensures.start) c.deref-4.result.now c.deref-4.ensures.value

pub returns : goal.returns
returns c =
    let n = c.args.number in
    let s = c.tokens-tokens.result.now in
    let t = c.args.accepted.now in
    let same = c.tokens-tokens.ensures.tokens in
    all_kept (file_of n t) c.in_ok-found.found c.in_ok-found.ensures
    (record {
      comments = c.in_ok-comments.comments;
      indexes = c.in_ok-indexes.indexes;
      interpolations = c.in_ok-interpolations.interpolations;
      declarations = c.in_ok-declarations.declarations;
    })
    (there (λ (f : File) (x : FoundComment). comment_at (place_in f) (comment x)) (map stored_comment c.in_ok-comments.comments.items) c.new.result (file_of n t) c.deref.result.now c.in_ok-found.found.comments.items
    (started n s t c.new.result same c.new.ensures.start) c.deref.ensures.value c.in_ok-comments.ensures)
    (there (λ (f : File) (x : ℕ). place_in f x) (map place_of c.in_ok-indexes.indexes.items) c.new-2.result (file_of n t) c.deref-2.result.now c.in_ok-found.found.indexes.items
    (started n s t c.new-2.result same c.new-2.ensures.start) c.deref-2.ensures.value c.in_ok-indexes.ensures)
    (there (λ (f : File) (x : ℕ). place_in f x) (map place_of c.in_ok-interpolations.interpolations.items) c.new-3.result (file_of n t) c.deref-3.result.now c.in_ok-found.found.interpolations.items
    (started n s t c.new-3.result same c.new-3.ensures.start) c.deref-3.ensures.value c.in_ok-interpolations.ensures)
    (there (λ (f : File) (d : Declared). declaration_at (place_in f) (declaration d)) (map stored_declaration c.in_ok-declarations.declarations.items) c.new-4.result (file_of n t) c.deref-4.result.now c.in_ok-found.found.declarations.items
    (started n s t c.new-4.result same c.new-4.ensures.start) c.deref-4.ensures.value c.in_ok-declarations.ensures)
