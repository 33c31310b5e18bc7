use Rattle.std.proofs.Common.{ap, sym, subst, map, List, Ok, Err, [], ◌≡◌, ◌∙◌, ◌⊎◌, inr, refl}
use Rattle.clap.specs.Words.{HasKind, Text, app_of, is_simple_and_free, kind_of, fault_of}
use Rattle.command_line.specs.Arguments.{unless_fault, usage_by}
use Rattle.tfls_command.specs.Line.{request_of, tfls}
use Rattle.tfls_command.specs.declared.options.Usage.{Usage}
use Rattle.tfls_command.specs.declared.options.Usage.TheVariants.{BadLine, Help, OutOfMemory}
use Rattle.command_line.proofs.AskedLemmas.{Same, refused_line}
use Rattle.command_line.proofs.OneFaultLemmas.{one_fault}
use Rattle.tfls_command.proofs.options.request.Goals as goal

pub returns-in-Ok-try_get_matches_from : goal.returns-in-Ok-try_get_matches_from
returns-in-Ok-try_get_matches_from c =
    let app_is : app_of c.in-Ok.command ≡ tfls = c.in-Ok.ensures in
    let words : List Text = map (λ s. s.now) c.args.words.now in
    let none : fault_of tfls words ≡ [] = ap (λ a. fault_of a words) (sym app_is) ∙ c.in-Ok-try_get_matches_from.ensures.kinds (ap is_simple_and_free app_is) in
    inr (ap (λ f. unless_fault (usage_by OutOfMemory Help BadLine) f (Ok tt)) (sym none))

pub returns : goal.returns
returns c =
    let app_is : app_of c.in-Ok.command ≡ tfls = c.in-Ok.ensures in
    let words : List Text = map (λ s. s.now) c.args.words.now in
    let kinds = subst (λ a. HasKind (fault_of a words) c.in-Err.error) app_is (c.in-Err.ensures.kinds (ap is_simple_and_free app_is)) in
    subst (λ (u : Usage). Same (Unit {0}) Usage (Err u) (Err OutOfMemory) ⊎ Same (Unit {0}) Usage (Err u) (request_of words)) (sym c.usage_for.ensures)
    (refused_line OutOfMemory Help BadLine (fault_of tfls words) (Ok tt) (kind_of c.in-Err.error) (one_fault tfls words refl refl) kinds)
