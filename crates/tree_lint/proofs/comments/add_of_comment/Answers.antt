use Rattle.std.proofs.Common.{◌≡◌, ◌∙◌, ◌∷◌, [], ap, map, sym}
use Rattle.std.specs.Prelude.{string_bytes}
use Rattle.std.specs.Str.Lossy.{utf8_lossy}
use Rattle.std.proofs.lemmas.List.{map-append}
use Rattle.hcl_tokens.specs.Scanned.{lexeme}
use Rattle.tree_lint.specs.CommentFaults.{fault_view}
use Rattle.tree_lint.specs.CommentTexts.{fault_text}
use Rattle.tree_lint.proofs.CommentLemmas.{said_here}
use Rattle.tree_lint.proofs.comments.add_of_comment.Goals as goal

pub returns-clause-adds : goal.returns-clause-adds
returns-clause-adds c =
    let text = c.as_slice-said.result.now in
    let shown : string_bytes c.in_ok-text.text ≡ utf8_lossy text = c.in_ok-text.ensures.lossy in
    said_here (record { number = c.args.file; source = c.args.tokens.now }) c.args.number c.args.faults.now.items (lexeme c.get-token.result) c.get-token.ensures.token text
    (c.as_slice-said.ensures.value ∙ c.in_ok-said.ensures ∙ ap fault_text c.as_bytes.ensures.value) c.push.new.self.items (record { file = c.args.file; at = c.position_of-at.result; text = c.in_ok-text.text }) c.requires.comment
    (sym c.is_empty.ensures ∙ c.if-is_empty.false) (ap (map fault_view) c.in_ok-push.ensures.items ∙ map-append fault_view c.args.faults.now.items (_ ∷ []))
    (λ i. record { file = c.args.file; at = c.position_of-at.ensures.is i; text = shown i })
