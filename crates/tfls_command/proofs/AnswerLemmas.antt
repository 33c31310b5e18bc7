-- The answer to a line that is none of this program.
use Rattle.std.proofs.Common.{◌≡◌, ◌∙◌, ◌⊎◌, ℕ, Bool, List, Err, ap, inl, inr, subst, sym}
use Rattle.std.specs.Prelude.{Option, Result}
use Rattle.file_tree.specs.Files.{Files}
use Rattle.command_line.specs.Rows.{End, Shows, message_row}
use Rattle.tfls_command.specs.Answer.{IsAnswer, IsAnswerBy, server, usage_line}
use Rattle.tfls_command.specs.Line.{request_of}
use Rattle.tfls_command.specs.declared.options.Usage.{Usage}
use Rattle.tfls_command.specs.declared.options.Usage.TheVariants as usage

abbrev refused : Usage → Result (Unit {0}) Usage
refused u = Err u

pub bad_line : (disk : Files) (words : List (List ℕ)) (u : Usage) (old left : Option (List ℕ)) (read_failed : Bool) (end : End) → (refused u ≡ refused usage.OutOfMemory) ⊎ (refused u ≡ request_of words) → u ≡ usage.BadLine
    → Shows server (message_row usage_line 2) end → IsAnswer disk words old left read_failed end
bad_line disk words u old left read_failed end (inl e) bad shows = absurd (cc)
bad_line disk words u old left read_failed end (inr e) bad shows = inr (subst (λ r. IsAnswerBy disk r old left read_failed end) (sym (ap refused bad) ∙ e) shows)
