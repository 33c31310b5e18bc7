-- Comments, by computation.
use Rattle.std.specs.Prelude.{◌≡◌, refl, [], codes}
use Rattle.tree_lint.specs.CommentTexts.{fault_text}

good : fault_text (codes "# tflint-ignore: terraform_typed_variables, all # read by a script") ≡ []
good = refl

other : fault_text (codes "# see tflint-ignore: x") ≡ []
other = refl

one : fault_text (codes "//tflint-ignore:aws_x,all") ≡ codes "no rule is called \"aws_x\""
one = refl

two : fault_text (codes "# tflint-ignore: terraform_typed, \ta\"b\r") ≡ codes "no rule is called \"terraform_typed\" or \"a\\\"b\""
two = refl

none : fault_text (codes "# tflint-ignore:") ≡ codes "no rule is called \"\""
none = refl

whole_file : fault_text (codes "# tflint-ignore-file: terraform_typed_variables") ≡ codes "tflint-ignore-file silences nothing here"
whole_file = refl
