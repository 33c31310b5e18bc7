-- One message of a run.
use Rattle.std.proofs.Common.{◌≡◌, ◌∙◌, ◌++◌, ◌∷◌, ℕ, Bool, true, false, List, [], append-nil, map, refl, subst, sym}
use Rattle.std.specs.Prelude.{Option, Some, None}
use Rattle.std.proofs.KnownBytes.{Appends-nil}
use Rattle.std.specs.Io.KnownBytes.{Consumes}
use Rattle.file_tree.specs.Files.{Files}
use Rattle.command_line.specs.Rows.{Took, TookBy, Writer}
use Rattle.editor_session.specs.Sessions.{Session}
use Rattle.editor_session.specs.Steps.{Steps}
use Rattle.editor_session.specs.declared.turn.Turn.{Turn}
use Rattle.editor_session.specs.declared.turn.Turn.TheVariants as turns
use Rattle.tfls_command.specs.Frames.{frame}
use Rattle.tfls_command.specs.Streams.{Begins, Messages}
use Rattle.tfls_command.specs.Inner.Turns.{EndsTurn, IsSent, TakenBy, TakesTurn, turn_text}
use Rattle.tfls_command.specs.Runs.{HasEnded, IsUnasked, frames}
use Rattle.tfls_command.specs.declared.ending.Ending.{Ending}

module _ (disk : Files) (left : Option (List ℕ)) (read_failed : Bool) (waiting bytes body rest : List ℕ) (s t : Session) (begins : Begins (waiting ++ bytes) body rest) where
  -- a message is taken, and no further
  one_taken : Messages (waiting ++ bytes) (body ∷ []) rest
  one_taken = (rest, begins, refl)

  by_end : (turn : Turn) (failed : Bool) (end : Option Ending) → Steps disk body s t turn → EndsTurn turn failed end → TakenBy disk end left read_failed failed waiting bytes rest (turn_text turn) s t
  by_end turns.Quiet failed end steps e =
      subst (λ o. TakenBy disk o left read_failed failed waiting bytes rest [] s t) (sym e.0)
      (record { body = body; begins = begins; goes = λ bodies more last runs. (t, turns.Quiet, steps, runs) })
  by_end (turns.Say reply) false end steps e =
      subst (λ o. TakenBy disk o left read_failed false waiting bytes rest (frame reply.items) s t) (sym e)
      (record { body = body; begins = begins; goes = λ bodies more last runs. (t, turns.Say reply, steps, (more, refl, runs)) })
  by_end (turns.Say reply) true end steps e =
      subst (λ o. TakenBy disk o left read_failed true waiting bytes rest (frame reply.items) s t) (sym e)
      (record {
        bodies = body ∷ [];
        last = rest;
        messages = one_taken;
        runs = (t, turns.Say reply, steps, ([], sym (append-nil (frame reply.items)), (refl, tt)));
        ended = refl;
      })
  by_end (turns.Publish told) false end steps e =
      let text = frames (map (λ m. m.body.items) told.items) in
      subst (λ o. TakenBy disk o left read_failed false waiting bytes rest text s t) (sym e)
      (record { body = body; begins = begins; goes = λ bodies more last runs. (t, turns.Publish told, steps, (more, refl, runs)) })
  by_end (turns.Publish told) true end steps e =
      let text = frames (map (λ m. m.body.items) told.items) in
      subst (λ o. TakenBy disk o left read_failed true waiting bytes rest text s t) (sym e)
      (record {
        bodies = body ∷ [];
        last = rest;
        messages = one_taken;
        runs = (t, turns.Publish told, steps, ([], sym (append-nil text), (refl, tt)));
        ended = refl;
      })
  by_end (turns.End status) failed end steps e =
      subst (λ o. TakenBy disk o left read_failed failed waiting bytes rest [] s t) (sym e)
      (record { bodies = body ∷ []; last = rest; messages = one_taken; runs = (t, turns.End status, steps, (refl, refl, refl)); ended = tt })

pub sent_turn : (disk : Files) (old left : Option (List ℕ)) (read_failed : Bool) (waiting bytes body rest : List ℕ) (s t : Session) (w : Writer) (turn : Turn) (end : Option Ending) → Consumes old left bytes
    → Begins (waiting ++ bytes) body rest → Steps disk body s t turn → IsSent turn w end → TakesTurn disk old left read_failed waiting rest s t w end
sent_turn disk old left read_failed waiting bytes body rest s t w turn end read begins steps sent = record {
  bytes = bytes;
  read = read;
  text = turn_text turn;
  took = sent.0;
  taken = by_end disk left read_failed waiting bytes body rest s t begins turn w.failed end steps sent.1;
}

-- a writer that was not called
pub wrote_nothing : (failed : Bool) (a : Option (List ℕ)) → failed ≡ false → TookBy failed a a []
wrote_nothing failed a e = subst (λ f. TookBy f a a []) (sym e) (Appends-nil a)

-- a run that ends without a message more
pub ended_turn : (disk : Files) (old left : Option (List ℕ)) (read_failed : Bool) (waiting bytes rest : List ℕ) (s t : Session) (w : Writer) (end : Ending) → Consumes old left bytes → Took w [] → IsUnasked end
    → HasEnded end (waiting ++ bytes) left read_failed w.failed → TakesTurn disk old left read_failed waiting rest s t w (Some end)
ended_turn disk old left read_failed waiting bytes rest s t w end read took unasked ended = record {
  bytes = bytes;
  read = read;
  text = [];
  took = took;
  taken = record { bodies = []; last = waiting ++ bytes; messages = refl; runs = (refl, unasked); ended = ended };
}

abbrev IsSomeEnding : Option Ending → Type 0
IsSomeEnding None = ⊥
IsSomeEnding (Some end) = Unit {0}

pub goes_out : (turn : Turn) (failed : Bool) (end : Option Ending) → EndsTurn turn failed end → end ≡ None → failed ≡ false
goes_out turns.Quiet failed end e n = e.1
goes_out (turns.Say reply) false end e n = refl
goes_out (turns.Say reply) true end e n = absurd (subst IsSomeEnding (sym e ∙ n) tt)
goes_out (turns.Publish told) false end e n = refl
goes_out (turns.Publish told) true end e n = absurd (subst IsSomeEnding (sym e ∙ n) tt)
goes_out (turns.End status) failed end e n = absurd (subst IsSomeEnding (sym e ∙ n) tt)
