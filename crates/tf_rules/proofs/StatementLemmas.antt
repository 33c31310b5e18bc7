-- Texts joined one after another, and messages in parts.
use Rattle.std.proofs.Common.{◌≡◌, ◌∙◌, ◌+◌, ◌<◌, ◌++◌, ◌∷◌, [], ℕ, List, ap, ap₂, append_assoc, get_or, length, map, sym, take}
use Rattle.std.proofs.lemmas.List.{append-nil, map-append, take_more}
use Rattle.std.proofs.lemmas.List.Folds.{concat-append}
use Rattle.std.specs.Borrow.{Bor}
use Rattle.std.specs.List.{concat}
use Rattle.tf_rules.specs.Answers.{listed_issue, text_of_parts}
use Rattle.tf_rules.specs.Inner.Entries.{shown_of, text_of}
use Rattle.tf_rules.specs.declared.entry.IssueEntry.{IssueEntry}
use Rattle.tf_rules.specs.declared.message_parts.MessageParts.{MessageParts}

pub text_more : (xs : List (Bor (List ℕ))) (i : ℕ) (d : Bor (List ℕ)) (old new : List ℕ) → i < length xs → new ≡ old ++ (get_or xs i d).now → old ≡ concat (map (λ text. text.now) (take i xs))
    → new ≡ concat (map (λ text. text.now) (take (i + 1) xs))
text_more xs i d old new lt pushed so_far =
    pushed
    ∙ ap₂ (λ a b. a ++ b) so_far (sym (append-nil (get_or xs i d).now))
    ∙ sym (concat-append (map (λ text. text.now) (take i xs)) ((get_or xs i d).now ∷ []))
    ∙ ap concat (sym (map-append (λ text. text.now) (take i xs) (get_or xs i d ∷ [])))
    ∙ ap (λ l. concat (map (λ text. text.now) l)) (sym (take_more xs i d lt))

-- a message that begins with a front, which ends in a quote, and a name
pub told_by_name : (front kind quote name of rest : List ℕ) → front ≡ kind ++ quote → name ≡ of → front ++ (name ++ rest) ≡ kind ++ (quote ++ (of ++ rest))
told_by_name front kind quote name of rest e f = ap₂ (λ a b. a ++ (b ++ rest)) e f ∙ append_assoc kind quote (of ++ rest)

-- an entry in a list is the issue as it is shown
pub listed_is : (e : IssueEntry) (p : MessageParts) → text_of_parts p ≡ text_of e.statement → listed_issue (record { file = e.at.file; at = e.at.at; rule = e.rule; message = p }) ≡ shown_of e
listed_is e p same = ap (λ m. record { file = e.at.file; at = e.at.at; rule = e.rule; message = m }) same
