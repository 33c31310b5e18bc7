use Rattle.std.proofs.Common.{◌≡◌, drop}
use Rattle.tf_facts.specs.Texts.{without_front}
use Rattle.hcl_tokens.specs.Spelling.{is_blank}
use Rattle.tf_facts.proofs.silencing.without_blanks.Given as goal

abbrev pub invariant-loop-start : goal.invariant-loop-start
invariant-loop-start l = without_front is_blank (drop l.start l.text) ≡ without_front is_blank l.text
