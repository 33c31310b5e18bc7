use Rattle.std.proofs.Common.{◌≡◌, ◌+◌, ◌-◌, ◌<◌, ◌≤◌, ℕ, List, length, get_or, subst, arith}
use Rattle.std.specs.Str.{IsUtf8, IsCharBoundary}
use Rattle.std.proofs.lemmas.Str.{IsCharBoundary-after_ascii}
use Rattle.hcl_source.proofs.source.end_of.Goals as goal

after_lf : (bs : List ℕ) (n : ℕ) → IsUtf8 bs → 0 < n → n ≤ length bs → get_or bs (n - 1) 0 ≡ 10 → IsCharBoundary bs n
after_lf bs n utf8 low high lf =
    let back : n - 1 + 1 ≡ n = omega arith in
    subst (IsCharBoundary bs) back (IsCharBoundary-after_ascii bs (n - 1) utf8 (omega arith) (omega (arith, lf)))

pub range_from-line-requires : goal.range_from-line-requires
range_from-line-requires c =
    let is = c.as_bytes-bytes.ensures.value in
    let at = c.line_start.ensures in
    λ low. subst (λ bs. IsCharBoundary bs c.line_start.result) is (after_lf _ _ c.as_bytes-bytes.ensures.utf8 low at.within (at.after_lf low))
