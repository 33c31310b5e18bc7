use Rattle.std.proofs.Common.{◌∙◌, ap, sym, ℕ, List, [], cond, drop, length}
use Rattle.std.specs.Prelude.{◌==◌}
use Rattle.std.specs.List.{before_first, slice_split}
use Rattle.tf_facts.specs.Silencing.{keyword, parts}
use Rattle.tf_facts.proofs.CutLemmas.{part_is}
use Rattle.tf_facts.proofs.silencing.silencing_list.Goals as goal

abbrev cut_list : List ℕ → List (List ℕ)
cut_list rest = slice_split (λ b. b == 44) (before_first (λ b. b == 35) (drop (length keyword) rest))

pub returns-then-not-begins : goal.returns-then-not-begins
returns-then-not-begins c =
    ap parts (sym c.comment_words-rest.ensures)
    ∙ ap (λ b. cond b (cut_list c.comment_words-rest.result.now) []) (sym c.begins.ensures ∙ c.if-not-begins.true)

pub returns : goal.returns
returns c =
    let rest = c.comment_words-rest.result.now in
    ap parts (sym c.comment_words-rest.ensures)
    ∙ ap (λ b. cond b (cut_list rest) []) (sym c.begins.ensures ∙ c.if-not-begins.false)
    ∙ ap (slice_split (λ b. b == 44)) (sym (part_is c.after.result.now 35 c.cut.result c.cut.ensures ∙ ap (before_first (λ b. b == 35)) c.after.ensures))
