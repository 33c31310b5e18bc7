use Rattle.std.proofs.Common.{◌≡◌, length, map, take}
use Rattle.std.specs.Prelude.{◌==◌, filter, not}
use Rattle.std.specs.List.{slice_split}
use Rattle.tf_facts.specs.Silencing.{trim_blanks}
use Rattle.tree_lint.specs.CommentTexts.{is_known, unknown_text}
use Rattle.tree_lint.proofs.comment_text.unknown_text.Given as goal

abbrev pub invariant-loop-part : goal.invariant-loop-part
invariant-loop-part l = l.text.items ≡ unknown_text (filter (λ name. not (is_known name)) (map trim_blanks (take (length l.yielded) (slice_split (λ b. b == 44) l.list))))
