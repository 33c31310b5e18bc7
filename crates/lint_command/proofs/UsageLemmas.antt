-- The rows of words that request no run.
use Rattle.std.proofs.Common.{◌≡◌, ◌⊎◌, ◌++◌, ℕ, List, inl, inr, subst, sym}
use Rattle.clap.specs.Words.{Text}
use Rattle.command_line.specs.Rows.{End, Program, Shows, error_line, message_row, out_of_memory}
use Rattle.file_tree.specs.Quotes.{in_quotes}
use Rattle.command_line.proofs.EndLemmas.{shows_as}
use Rattle.lint_command.specs.Ends.{usage_row, wrong_value}
use Rattle.lint_command.specs.Inner.Runs.{SaysOnly, ShowsUsage}
use Rattle.module_find.specs.Refusals.{tree_linter}
use Rattle.lint_command.specs.declared.usage.Usage.{Usage}

pub shows_usage : (texts : List Text) (usage is : Usage) (p : Program) (end : End) → usage ≡ is → p ≡ tree_linter → Shows p (usage_row texts is) end
    → ShowsUsage texts usage end
shows_usage texts usage is p end e ep shows =
    inr (subst (λ (u : Usage). Shows tree_linter (usage_row texts u) end) (sym e) (shows_as p tree_linter (usage_row texts is) end ep shows))

pub memory_said : (p : Program) (end : End) → p ≡ tree_linter → Shows p (out_of_memory p) end → Shows tree_linter (out_of_memory tree_linter) end
memory_said p end ep shows = subst (λ (q : Program). Shows q (out_of_memory q) end) ep shows

pub memory_shown : (texts : List Text) (usage : Usage) (p : Program) (end : End) → p ≡ tree_linter → Shows p (out_of_memory p) end → ShowsUsage texts usage end
memory_shown texts usage p end ep shows = inl (memory_said p end ep shows)

pub shown_as : (texts : List Text) (usage is : Usage) (end : End) → usage ≡ is → ShowsUsage texts is end → ShowsUsage texts usage end
shown_as texts usage is end e shown = subst (λ (u : Usage). ShowsUsage texts u end) (sym e) shown

-- ---- a value with no meaning

pub value_told : (p : Program) (text front value : List ℕ) (end : End) → p ≡ tree_linter → text ≡ error_line tree_linter (front ++ in_quotes value) → Shows p (message_row text 1) end → SaysOnly (wrong_value front value) end
value_told p text front value end ep is shows = shows_as p tree_linter (wrong_value front value) end ep (subst (λ (t : List ℕ). Shows p (message_row t 1) end) is shows)

pub value_said : (front value is : List ℕ) (end : End) → value ≡ is → SaysOnly (out_of_memory tree_linter) end ⊎ SaysOnly (wrong_value front value) end → SaysOnly (out_of_memory tree_linter) end ⊎ SaysOnly (wrong_value front is) end
value_said front value is end e said = subst (λ (v : List ℕ). SaysOnly (out_of_memory tree_linter) end ⊎ SaysOnly (wrong_value front v) end) e said
