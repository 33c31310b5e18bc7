-- Tokens of replies.
use Rattle.std.proofs.Common.{◌≡◌, ◌∙◌, ◌++◌, ◌∷◌, [], ℕ, List, ap, append_assoc}
use Rattle.std.specs.Prelude.{codes}
use Rattle.json.specs.Json.{Json}
use Rattle.json.specs.Token.{begin_object, end_object, key, string}
use Rattle.json.specs.Tree.{json_tokens}
use Rattle.editor_messages.specs.Inner.Heads.{reply_head}
use Rattle.editor_messages.specs.Replies.{reply_with}

pub reply_tokens : (id : Json) (name : List ℕ) (value : Json) → (reply_head id name ++ json_tokens value) ++ end_object ∷ [] ≡ json_tokens (reply_with id name value)
reply_tokens id name value =
    ap (λ l. begin_object ∷ key (codes "jsonrpc") ∷ string (codes "2.0") ∷ key (codes "id") ∷ l)
    (append_assoc (json_tokens id ++ key name ∷ []) (json_tokens value) (end_object ∷ []) ∙ append_assoc (json_tokens id) (key name ∷ []) (json_tokens value ++ end_object ∷ []))
