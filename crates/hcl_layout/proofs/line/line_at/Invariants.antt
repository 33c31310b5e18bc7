use Rattle.std.proofs.Common.{◌≡◌, ◌<◌, ◌≤◌, ◌+◌, ◌-◌, Some, length, drop}
use Rattle.std.specs.Prelude.{slice_get}
use Rattle.hcl_tokens.specs.Lexemes.{Lexeme}
use Rattle.hcl_tokens.specs.Balanced.{max_open}
use Rattle.hcl_layout.specs.Inner.Depths.{BalancedFrom}
use Rattle.hcl_layout.specs.Inner.Survey.{AsksMore, survey_start, survey_from, survey_of, survey_rest}
use Rattle.hcl_layout.proofs.line.line_at.Given as goal

abbrev pub invariant-loop-number : goal.invariant-loop-number
invariant-loop-number l = record {
  same : (t : Lexeme) → slice_get l.tokens.tokens l.first ≡ Some t → survey_rest (survey_start l.before t) t (drop (l.first + 1) l.tokens.tokens) ≡ survey_from (survey_of l.seen l.depth l.first l.number) (drop l.number l.tokens.tokens);
  more : AsksMore l.tokens.tokens l.number;
  balanced : BalancedFrom l.depth (drop l.number l.tokens.tokens);
  low : l.depth ≤ max_open;
  order : l.first < l.number;
  within : l.number ≤ length l.tokens.tokens;
}

abbrev pub decreases-loop-number : goal.decreases-loop-number
decreases-loop-number l = l.count - l.number
