use Rattle.std.proofs.Common.{List, ℕ, ◌∙◌, ◌≤◌, ap, arith, length, map}
use Rattle.std.specs.Prelude.{[], flat_map, get_or, string_bytes}
use Rattle.std.proofs.lemmas.List.{drop_all}
use Rattle.tree_lint.specs.CommentFaults.{fault_view}
use Rattle.tree_lint.specs.declared.comment_fault.CommentFault.{CommentFault}
use Rattle.command_line.proofs.WriterLemmas.{all_taken, goes_all, goes_on, goes_wrong}
use Rattle.source_snippet.specs.Snippets.{snippet_if}
use Rattle.tfrules_command.proofs.ReportPartLemmas.{retold}
use Rattle.tree_lint.specs.Inner.Showing.{comment_refusal}
use Rattle.tree_lint.specs.Runs.{comment_line}
use Rattle.tree_lint.proofs.ShownLemmas.{comment_here}
use Rattle.tree_lint.proofs.report.tell_comments.Goals as goal

pub loop-fault-preserved : goal.loop-fault-preserved
loop-fault-preserved g c =
    let f = c.fault-item.result in
    let said : CommentFault → List ℕ = λ f. comment_line c.args.shows (map string_bytes c.args.names.now) c.args.linted.texts.now (fault_view f) in
    let line = c.as_slice.ensures.value ∙ c.snippet_if-line.ensures.snippet ∙ ap (λ texts. snippet_if c.args.shows (get_or texts f.file []) f.at) c.loop-fault.invariant.2 in
    let told = retold _ _ _ _ _ (λ k. comment_refusal (c.name_of.ensures k) (line k) f) c.in_ok-tell_comment.ensures.took in (
      c.in_ok-tell_comment.ensures.failed,
      goes_on _ _ _ _ _ _ _ (comment_here said c.args.linted.comments.now c.loop-fault.fault-index f c.loop-fault-test.true c.fault-item.is)
          (all_taken _ _ _ _ c.in_ok-tell_comment.ensures.failed told) c.loop-fault.invariant.1,
      c.snippet_if-line.ensures.same ∙ c.loop-fault.invariant.2,
    )

pub returns-in_err-tell_comment-clause-took : goal.returns-in_err-tell_comment-clause-took
returns-in_err-tell_comment-clause-took g c =
    let f = c.fault-item.result in
    let said : CommentFault → List ℕ = λ f. comment_line c.args.shows (map string_bytes c.args.names.now) c.args.linted.texts.now (fault_view f) in
    let line = c.as_slice.ensures.value ∙ c.snippet_if-line.ensures.snippet ∙ ap (λ texts. snippet_if c.args.shows (get_or texts f.file []) f.at) c.loop-fault.invariant.2 in
    let told = retold _ _ _ _ _ (λ k. comment_refusal (c.name_of.ensures k) (line k) f) c.in_err-tell_comment.ensures.took in
    goes_wrong _ _ _ _ _ _ _ _ (comment_here said c.args.linted.comments.now c.loop-fault.fault-index f c.loop-fault-test.true c.fault-item.is)
    c.in_err-tell_comment.ensures.failed told c.loop-fault.invariant.1

pub returns-clause-took : goal.returns-clause-took
returns-clause-took g c =
    let said : CommentFault → List ℕ = λ f. comment_line c.args.shows (map string_bytes c.args.names.now) c.args.linted.texts.now (fault_view f) in
    let past : length c.args.linted.comments.now ≤ c.loop-fault.fault-index = omega (arith, c.loop-fault-test.false) in
    goes_all _ _ _ _ _ c.loop-fault.invariant.0 (ap (flat_map said) (drop_all c.loop-fault.fault-index c.args.linted.comments.now past)) c.loop-fault.invariant.1
