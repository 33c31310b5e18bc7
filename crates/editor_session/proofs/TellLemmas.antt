-- The messages about a module, after those about one of its documents.
use Rattle.std.proofs.Common.{◌≡◌, ◌∙◌, ◌++◌, ℕ, List, ap, ap₂, map, sym}
use Rattle.std.proofs.lemmas.List.{map-append}
use Rattle.std.specs.Prelude.{Some, Result, Ok, Err, IfOk, OnOk}
use Rattle.file_tree.specs.Files.{Files, Name}
use Rattle.editor_modules.specs.Messages.{AreMessages, DocumentMessage, message_of, message_seen}
use Rattle.editor_modules.specs.Shown.{with_stale, with_told}
use Rattle.editor_modules.specs.Told.{IsModuleTold, ToldDocument}
use Rattle.editor_modules.specs.declared.message.ToldMessage.{ToldMessage}
use Rattle.editor_session.specs.Sessions.{Session}
use Rattle.editor_session.specs.Told.{TellsIn}

pub told_linted : (s after : Session) (disk : Files) (folder : Name) (uri : List ℕ) (first files all : List ToldMessage) (of_module : List ToldDocument) (said : List DocumentMessage)
    → IsModuleTold s.units s.documents disk folder (Some of_module) → AreMessages of_module files → all ≡ first ++ files
    → after ≡ record s { shown = with_told folder (map message_seen all) s.shown } → said ≡ with_stale folder s.shown (map message_seen all)
    → (told : List ToldDocument) → AreMessages told first → TellsIn s disk (Some folder) uri told after said
told_linted s after disk folder uri first files all of_module said is are joined later says told them =
    let tells : map message_seen all ≡ map message_of (told ++ of_module) = ap (map message_seen) joined ∙ map-append message_seen first files ∙ ap₂ (λ l r. l ++ r) them are ∙ sym (map-append message_of told of_module) in
    (Some of_module, is, (later ∙ ap (λ (ms : List DocumentMessage). record s { shown = with_told folder ms s.shown }) tells, says ∙ ap (with_stale folder s.shown) tells))

-- what holds once a call succeeds, and of its result
pub on_and_if : {X E : Type 0} (r : Result X E) (P : Type 0) (Q R : X → Type 0) → OnOk r P → IfOk r Q → (P → (x : X) → Q x → R x) → IfOk r R
on_and_if (Ok x) P Q R p q f = f p x q
on_and_if (Err e) P Q R p q f = tt
