use Rattle.std.proofs.Common.{◌≡◌, ℕ, Bool, true, false, List, drop, None, arith, sym, ap, subst, ◌∙◌, codes}
use Rattle.hcl_tokens.specs.Spelling.{element_len, starts}
use Rattle.hcl_scan.specs.Inner.Found.{Finds}
use Rattle.hcl_scan.proofs.TemplateLemmas.{lit_found, interp_found, control_found, quote_found, nothing_found, lit_boundary, quote_boundary, sequence_boundary}
use Rattle.hcl_scan.proofs.TextStartLemmas.{starts_same}
use Rattle.hcl_tokens.specs.declared.token.Kind.TheVariants.{InterpOpen, ControlOpen}
use Rattle.hcl_scan.proofs.template.next_in_template.Goals as goal
use Rattle.hcl_scan.proofs.template.next_in_template.Goals.{else-quoted-via-then-quoted+else-starts_with, else-quoted-via-else-quoted}

clash : (b : Bool) → b ≡ true → b ≡ false → ⊥
clash b y n = cc

pub returns-then-len-gt0-clause-found : goal.returns-then-len-gt0-clause-found
returns-then-len-gt0-clause-found c = λ opens dot here. lit_found c.args.quoted opens dot here c.args.seen.now c.literal_len-len.result c.literal_len-len.ensures.within c.if-len-gt0.true c.literal_len-len.ensures.elements c.literal_len-len.ensures.ends

pub returns-then-len-gt0-clause-boundary : goal.returns-then-len-gt0-clause-boundary
returns-then-len-gt0-clause-boundary c = λ utf8. lit_boundary c.args.quoted c.args.seen.now c.literal_len-len.result c.literal_len-len.ensures.within c.literal_len-len.ensures.ends

pub returns-then-starts_with-2-clause-found : goal.returns-then-starts_with-2-clause-found
returns-then-starts_with-2-clause-found c =
    let seen : List ℕ = c.args.seen.now in
    let so : starts seen (codes "${") ≡ true = sym (starts_same seen (codes "${")) ∙ sym c.starts_with-2.ensures.value ∙ c.if-starts_with-2.true in
    λ opens dot here. subst (λ n. Finds opens dot seen InterpOpen n) (sym c.sequence_open_len.ensures) (interp_found c.args.quoted opens dot here seen so)

pub returns-then-starts_with-2-clause-boundary : goal.returns-then-starts_with-2-clause-boundary
returns-then-starts_with-2-clause-boundary c =
    let seen : List ℕ = c.args.seen.now in
    let so : starts seen (codes "${") ≡ true = sym (starts_same seen (codes "${")) ∙ sym c.starts_with-2.ensures.value ∙ c.if-starts_with-2.true in
    λ utf8. sequence_boundary 36 seen c.sequence_open_len.result utf8 so c.sequence_open_len.ensures

pub returns-then-starts_with-3-clause-found : goal.returns-then-starts_with-3-clause-found
returns-then-starts_with-3-clause-found c =
    let seen : List ℕ = c.args.seen.now in
    let so : starts seen (codes "%{") ≡ true = sym (starts_same seen (codes "%{")) ∙ sym c.starts_with-3.ensures.value ∙ c.if-starts_with-3.true in
    λ opens dot here. subst (λ n. Finds opens dot seen ControlOpen n) (sym c.sequence_open_len-then-starts_with-3.ensures) (control_found c.args.quoted opens dot here seen so)

pub returns-then-starts_with-3-clause-boundary : goal.returns-then-starts_with-3-clause-boundary
returns-then-starts_with-3-clause-boundary c =
    let seen : List ℕ = c.args.seen.now in
    let so : starts seen (codes "%{") ≡ true = sym (starts_same seen (codes "%{")) ∙ sym c.starts_with-3.ensures.value ∙ c.if-starts_with-3.true in
    λ utf8. sequence_boundary 37 seen c.sequence_open_len-then-starts_with-3.result utf8 so c.sequence_open_len-then-starts_with-3.ensures

pub returns-then-starts_with-clause-found : goal.returns-then-starts_with-clause-found
returns-then-starts_with-clause-found c =
    let seen : List ℕ = c.args.seen.now in
    let so : starts seen (codes "\"") ≡ true = sym (starts_same seen (codes "\"")) ∙ sym c.starts_with.ensures.value ∙ c.if-starts_with.true in
    λ opens dot here. quote_found c.args.quoted opens dot here seen c.if-quoted.true so

pub returns-then-starts_with-clause-boundary : goal.returns-then-starts_with-clause-boundary
returns-then-starts_with-clause-boundary c =
    let seen : List ℕ = c.args.seen.now in
    let so : starts seen (codes "\"") ≡ true = sym (starts_same seen (codes "\"")) ∙ sym c.starts_with.ensures.value ∙ c.if-starts_with.true in
    λ utf8. quote_boundary seen utf8 so

pub returns-clause-none : goal.returns-clause-none
returns-clause-none c =
    let seen : List ℕ = c.args.seen.now in
    let no_interp : starts seen (codes "${") ≡ false = sym (starts_same seen (codes "${")) ∙ sym c.starts_with-2.ensures.value ∙ c.if-starts_with-2.false in
    let no_control : starts seen (codes "%{") ≡ false = sym (starts_same seen (codes "%{")) ∙ sym c.starts_with-3.ensures.value ∙ c.if-starts_with-3.false in
    let nothing : c.literal_len-len.result ≡ 0 = omega (arith, c.if-len-gt0.false) in
    let none : element_len c.args.quoted seen ≡ None = ap (λ n. element_len c.args.quoted (drop n seen)) (sym nothing) ∙ c.literal_len-len.ensures.ends in
    let no_quote : c.args.quoted ≡ true → starts seen (codes "\"") ≡ false =
    elim c.else-quoted.branch [
      | else-quoted-via-then-quoted+else-starts_with w ↦ λ q. sym (starts_same seen (codes "\"")) ∙ sym w.starts_with.ensures.value ∙ w.if-starts_with.false
      | else-quoted-via-else-quoted w ↦ λ q. absurd (clash c.args.quoted q w.if-quoted.false)
    ] in
    λ opens dot here. nothing_found c.args.quoted opens dot here seen none no_interp no_control no_quote
