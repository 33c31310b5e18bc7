use Rattle.std.proofs.Common.{◌∙◌, List, ℕ, ap, codes, inl, map, refl, subst}
use Rattle.command_line.specs.Rows.{end_of}
use Rattle.std.specs.Borrow.{Bor}
use Rattle.tree_words.specs.Line.{others_in, texts_in}
use Rattle.lint_command.specs.Line.{request_of_texts, reads_names}
use Rattle.lint_command.specs.Inner.Runs.{IsEndOf}
use Rattle.lint_command.proofs.UsageLemmas.{memory_said}
use Rattle.lint_command.proofs.run.program.Goals as goal

pub returns-clause-ends : goal.returns-clause-ends
returns-clause-ends g c =
    let words : List (List ℕ) = map (λ (word : Bor (List ℕ)). word.now) c.args.words.now in
    let others : List (List ℕ) = map (λ (word : Bor (List ℕ)). word.now) c.as_slice-2.result.now in
    subst
    (λ (names : List (List ℕ)). IsEndOf c.args.terminals (texts_in (codes "tfrules-all") words) names (g.R.ByteSource.failed c.run_line.new.input) (g.R.ByteSource.left c.args.input.now) (g.T.Tree.files c.args.files.now.tree)
    (g.T.Tree.faults c.args.files.now.tree) (g.T.Tree.faults c.run_line.new.files.tree)
    (end_of g.O.ByteSink c.args.streams.now.out c.run_line.new.streams.out g.E.ByteSink c.args.streams.now.err c.run_line.new.streams.err c.run_line.result))
    (ap (map (λ (word : Bor (List ℕ)). word.now)) c.as_slice-2.ensures.value ∙ c.in-Ok.ensures.others)
    (subst
    (λ (texts : List (List ℕ)). IsEndOf c.args.terminals texts others (g.R.ByteSource.failed c.run_line.new.input) (g.R.ByteSource.left c.args.input.now) (g.T.Tree.files c.args.files.now.tree)
    (g.T.Tree.faults c.args.files.now.tree) (g.T.Tree.faults c.run_line.new.files.tree)
    (end_of g.O.ByteSink c.args.streams.now.out c.run_line.new.streams.out g.E.ByteSink c.args.streams.now.err c.run_line.new.streams.err c.run_line.result))
    (ap (map (λ (word : Bor (List ℕ)). word.now)) c.as_slice.ensures.value ∙ c.in-Ok.ensures.texts) c.run_line.ensures.ends)

pub returns-in_default-clause-ends : goal.returns-in_default-clause-ends
returns-in_default-clause-ends g c = inl (refl, memory_said c.tree_linter.result _ c.tree_linter.ensures c.tell_out_of_memory.ensures)

pub returns-clause-unread : goal.returns-clause-unread
returns-clause-unread g c asked =
    let words : List (List ℕ) = map (λ (word : Bor (List ℕ)). word.now) c.args.words.now in
    let texts : List (List ℕ) = map (λ (word : Bor (List ℕ)). word.now) c.as_slice.result.now in
    c.run_line.ensures.unread
    (ap (λ names. reads_names (request_of_texts texts names)) (ap (map (λ (word : Bor (List ℕ)). word.now)) c.as_slice-2.ensures.value ∙ c.in-Ok.ensures.others)
    ∙ ap (λ l. reads_names (request_of_texts l (others_in words))) (ap (map (λ (word : Bor (List ℕ)). word.now)) c.as_slice.ensures.value ∙ c.in-Ok.ensures.texts) ∙ asked)
