-- From the options that were found to the words of the line: the rows that a run may show.
use Rattle.std.proofs.Common.{◌≡◌, ◌⊎◌, ℕ, Bool, List, Option, inl, inr, subst}
use Rattle.std.specs.Prelude.{Result, Ok, Err, IfErr}
use Rattle.command_line.specs.Rows as rows
use Rattle.command_line.proofs.AskedLemmas.{Same}
use Rattle.tfrules_command.specs.Rows.{IsRow}
use Rattle.tfrules_command.specs.Line.{Request}
use Rattle.tfrules_command.specs.Asked.{request_of}
use Rattle.tfrules_command.specs.declared.options.LintOptions.{LintOptions}
use Rattle.tfrules_command.specs.declared.usage.Usage.{Usage}
use Rattle.tfrules_command.specs.declared.usage.Usage.TheVariants as usage

pub options_row : (told : List ℕ → Option (List ℕ)) (r : Result Request Usage) (options : LintOptions) (o f : Bool) (row : rows.Row) → Same LintOptions Usage (Ok options) (Err usage.OutOfMemory) ⊎ Same Request Usage (Ok (request_of options)) r
    → IsRow told (Ok (request_of options)) o f row → IsRow told r o f row
options_row told r options o f row (inl e) w = absurd (cc)
options_row told r options o f row (inr e) w = subst (λ (x : Result Request Usage). IsRow told x o f row) e w

pub usage_or : (u : Usage) (r : Result Request Usage) → Same LintOptions Usage (Err u) (Err usage.OutOfMemory) ⊎ Same Request Usage (Err u) r → (u ≡ usage.OutOfMemory) ⊎ Same Request Usage (Err u) r
usage_or u r (inl e) = inl (cc)
usage_or u r (inr e) = inr e

pub unopened_by_options : (r : Result Request Usage) (options : LintOptions) (Q : Type 0) → Same LintOptions Usage (Ok options) (Err usage.OutOfMemory) ⊎ Same Request Usage (Ok (request_of options)) r → IfErr r (λ u. Q)
unopened_by_options r options Q (inl e) = absurd (cc)
unopened_by_options r options Q (inr e) = subst (λ (x : Result Request Usage). IfErr x (λ u. Q)) e tt

pub either_way : (r : Result Request Usage) (Q : Type 0) → Q → IfErr r (λ u. Q)
either_way (Ok a) Q q = tt
either_way (Err u) Q q = q
