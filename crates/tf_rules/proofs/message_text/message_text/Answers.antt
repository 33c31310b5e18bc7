use Rattle.std.proofs.Common.{◌≡◌, ◌∙◌, ◌++◌, [], ap}
use Rattle.std.proofs.lemmas.List.{append-nil}
use Rattle.std.proofs.lemmas.Result.{IfOk-weaker}
use Rattle.std.specs.String.{string_bytes}
use Rattle.tf_rules.proofs.message_text.message_text.Goals as goal

pub returns : goal.returns
returns c =
    IfOk-weaker c.join_texts.result (λ t. string_bytes t ≡ c.args.parts.front.now ++ (c.args.parts.name.now ++ (c.args.parts.between.now ++ (c.args.parts.other.now ++ (c.args.parts.rest.now ++ [])))))
    (λ t. string_bytes t ≡ c.args.parts.front.now ++ (c.args.parts.name.now ++ (c.args.parts.between.now ++ (c.args.parts.other.now ++ c.args.parts.rest.now))))
    (λ t e. e ∙ ap (λ r. c.args.parts.front.now ++ (c.args.parts.name.now ++ (c.args.parts.between.now ++ (c.args.parts.other.now ++ r)))) (append-nil c.args.parts.rest.now)) c.join_texts.ensures
