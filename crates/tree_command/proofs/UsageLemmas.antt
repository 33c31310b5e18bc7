-- The rows of words that request no run.
use Rattle.std.proofs.Common.{◌≡◌, List, inr, subst, sym}
use Rattle.clap.specs.Words.{Text}
use Rattle.command_line.specs.Rows.{End, Program, Shows}
use Rattle.command_line.proofs.EndLemmas.{shows_as}
use Rattle.tree_command.specs.Ends.{usage_row}
use Rattle.tree_command.specs.Inner.Runs.{ShowsUsage}
use Rattle.tree_command.specs.Formatter.{formatter}
use Rattle.tree_command.specs.declared.usage.Usage.{Usage}

pub shows_usage : (texts : List Text) (usage is : Usage) (p : Program) (end : End) → usage ≡ is → p ≡ formatter → Shows p (usage_row texts is) end
    → ShowsUsage texts usage end
shows_usage texts usage is p end e ep shows =
    inr (subst (λ (u : Usage). Shows formatter (usage_row texts u) end) (sym e) (shows_as p formatter (usage_row texts is) end ep shows))
