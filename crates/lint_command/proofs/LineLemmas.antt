-- The requests in the parts of a line.
use Rattle.std.proofs.Common.{◌≡◌, ◌∙◌, ℕ, Bool, List, Option}
use Rattle.std.specs.Prelude.{Result}
use Rattle.lint_forms.specs.declared.kind.Form.{Form}
use Rattle.rule_set.specs.declared.rule.Rule.{Rule}
use Rattle.rule_set.specs.declared.rule.Severity.{Severity}
use Rattle.tf_rules.specs.declared.naming.Naming.{Naming}
use Rattle.tree_words.specs.declared.shard.Shard.{Shard}
use Rattle.lint_command.specs.Line.{Given, request_by, given_by}
use Rattle.lint_command.specs.Inner.Asked.{is_good}
use Rattle.lint_command.specs.declared.usage.Usage.{Usage}

pub given_parts : (r r' : Result (Option (List Rule)) Usage) (n n' : Result (Option Naming) Usage) (m m' : Result (Option Severity) Usage) (f f' c c' v v' : Bool) → r ≡ r' → n ≡ n' → m ≡ m' → f ≡ f' → c ≡ c' → v ≡ v' → given_by r n m f c v ≡ given_by r' n' m' f' c' v'
given_parts r r' n n' m m' f f' c c' v v' er en em ef ec ev = λ i. given_by (er i) (en i) (em i) (ef i) (ec i) (ev i)

pub asking_parts : (w w' : Result Given Usage) (q q' : Bool) (s s' : Option (Option Shard)) (o o' : Option (Option Form)) (j j' g null null' : Bool) (k k' : ℕ) (names : List (List ℕ)) → w ≡ w' → q ≡ q' → s ≡ s' → o ≡ o' → j ≡ j' → g ≡ is_good null k → null ≡ null' → k ≡ k'
    → request_by w q s o j g null names ≡ request_by w' q' s' o' j' (is_good null' k') null' names
asking_parts w w' q q' s s' o o' j j' g null null' k k' names ew eq es eo ej eg enull ek =
    (λ i. request_by (ew i) (eq i) (es i) (eo i) (ej i) (eg i) null names) ∙ (λ i. request_by w' q' s' o' j' (is_good (enull i) (ek i)) (enull i) names)
