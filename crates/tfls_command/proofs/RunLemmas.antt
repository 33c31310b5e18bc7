-- A run, message by message.
use Rattle.std.proofs.Common.{◌≡◌, ◌∙◌, ◌++◌, ◌∷◌, ℕ, Bool, false, List, [], ap, append_assoc, refl, subst, sym}
use Rattle.std.proofs.KnownBytes.{Appends-nil, Appends-trans, Consumes-nil, Consumes-trans}
use Rattle.std.specs.Prelude.{Option, Some, None, length}
use Rattle.std.specs.Io.KnownBytes.{Appends, Consumes}
use Rattle.file_tree.specs.Files.{Files}
use Rattle.command_line.specs.Rows.{TookBy, Writer}
use Rattle.command_line.proofs.WriterLemmas.{all_taken, took_after, took_all}
use Rattle.editor_session.specs.Sessions.{Session, new_session}
use Rattle.tfls_command.specs.Frames.{head_end}
use Rattle.tfls_command.specs.Streams.{Begins, Messages}
use Rattle.tfls_command.proofs.LawLemmas.{head_stays}
use Rattle.tfls_command.specs.Inner.Turns.{GoesOn, TakesTurn}
use Rattle.tfls_command.specs.Runs.{HasEnded, HasServed, Runs}
use Rattle.tfls_command.specs.declared.ending.Ending.{Ending}
use Rattle.tfls_command.specs.declared.ending.Ending.TheVariants as ending

-- a message is begun by a longer stream too
begins_more : (stream body rest more : List ℕ) → Begins stream body rest → Begins (stream ++ more) body (rest ++ more)
begins_more stream body rest more b = record {
  head = b.head;
  whole =
      ap (λ l. l ++ more) b.whole ∙ append_assoc b.head (head_end ++ (body ++ rest)) more
      ∙ ap (λ l. b.head ++ l) (append_assoc head_end (body ++ rest) more ∙ ap (λ l. head_end ++ l) (append_assoc body rest more));
  ended = head_stays stream more (length b.head) b.ended;
  told = b.told;
}

-- A run has come so far: whatever messages and output follow, they follow those that were taken and went out.
pub record HasCome (disk : Files) (first now : Session) (old left before after : Option (List ℕ)) (waiting : List ℕ) : Type 0 where
  pub bytes : List ℕ
  pub read : Consumes old left bytes
  pub bodies : List (List ℕ)
  pub text : List ℕ
  pub wrote : Appends before after text
  pub takes : (more : List ℕ) (later : List (List ℕ)) (rest : List ℕ) → Messages (waiting ++ more) later rest → Messages (bytes ++ more) (bodies ++ later) rest
  pub runs : (later : List (List ℕ)) (more : List ℕ) (end : Ending) → Runs disk now later more end → Runs disk first (bodies ++ later) (text ++ more) end

pub nothing_yet : (disk : Files) (s : Session) (left after : Option (List ℕ)) → HasCome disk s s left left after after []
nothing_yet disk s left after = record {
  bytes = [];
  read = Consumes-nil left;
  bodies = [];
  text = [];
  wrote = Appends-nil after;
  takes = λ more later rest m. m;
  runs = λ later more end r. r;
}

module _ (disk : Files) (first s t : Session) (old mid left before now after : Option (List ℕ)) (waiting rest : List ℕ) (come : HasCome disk first s old mid before now waiting) where
  one_more : (bytes text : List ℕ) → Consumes mid left bytes → Appends now after text → GoesOn disk waiting bytes rest text s t → HasCome disk first t old left before after rest
  one_more bytes text read wrote goes = record {
    bytes = come.bytes ++ bytes;
    read = Consumes-trans old mid left come.bytes bytes come.read read;
    bodies = come.bodies ++ goes.body ∷ [];
    text = come.text ++ text;
    wrote = Appends-trans before now after come.text text come.wrote wrote;
    takes = λ more later last m.
        let begins = subst (λ l. Begins l goes.body (rest ++ more)) (append_assoc waiting bytes more) (begins_more (waiting ++ bytes) goes.body rest more goes.begins) in
        let took : Messages (come.bytes ++ (bytes ++ more)) (come.bodies ++ goes.body ∷ later) last = come.takes (bytes ++ more) (goes.body ∷ later) last (rest ++ more, begins, m) in
        subst (λ l. Messages l ((come.bodies ++ goes.body ∷ []) ++ later) last) (sym (append_assoc come.bytes bytes more))
        (subst (λ l. Messages (come.bytes ++ (bytes ++ more)) l last) (sym (append_assoc come.bodies (goes.body ∷ []) later)) took);
    runs = λ later more end r.
        let ran : Runs disk first (come.bodies ++ goes.body ∷ later) (come.text ++ (text ++ more)) end = come.runs (goes.body ∷ later) (text ++ more) end (goes.goes later more end r) in
        subst (λ l. Runs disk first ((come.bodies ++ goes.body ∷ []) ++ later) l end) (sym (append_assoc come.text text more))
        (subst (λ l. Runs disk first l (come.text ++ (text ++ more)) end) (sym (append_assoc come.bodies (goes.body ∷ []) later)) ran);
  }

pub goes_further : (disk : Files) (first s t : Session) (old mid left before : Option (List ℕ)) (waiting rest : List ℕ) (read_failed : Bool) (w : Writer) → HasCome disk first s old mid before w.before waiting
    → TakesTurn disk mid left read_failed waiting rest s t w None → w.failed ≡ false → HasCome disk first t old left before w.after rest
goes_further disk first s t old mid left before waiting rest read_failed w come turn good =
    one_more disk first s t old mid left before w.before w.after waiting rest come turn.bytes turn.text turn.read (all_taken w.before w.after w.failed turn.text good turn.took) turn.taken

pub has_ended : (disk : Files) (s t : Session) (old mid left : Option (List ℕ)) (waiting rest : List ℕ) (read_failed : Bool) (w v : Writer) (end : Ending)
    → HasCome disk new_session s old mid v.before w.before waiting → v.after ≡ w.after → v.failed ≡ w.failed → TakesTurn disk mid left read_failed waiting rest s t w (Some end)
    → HasServed disk old left read_failed v end
has_ended disk s t old mid left waiting rest read_failed w v end come a f turn = record {
  bytes = come.bytes ++ turn.bytes;
  read = Consumes-trans old mid left come.bytes turn.bytes come.read turn.read;
  bodies = come.bodies ++ turn.taken.bodies;
  rest = turn.taken.last;
  messages = come.takes turn.bytes turn.taken.bodies turn.taken.last turn.taken.messages;
  text = come.text ++ turn.text;
  runs = come.runs turn.taken.bodies turn.text end turn.taken.runs;
  took =
      let wrote : TookBy w.failed v.before w.after (come.text ++ turn.text) = took_after v.before w.before w.after w.failed come.text turn.text come.wrote turn.took in
      subst (λ g. TookBy g v.before v.after (come.text ++ turn.text)) (sym f) (subst (λ o. TookBy w.failed v.before o (come.text ++ turn.text)) (sym a) wrote);
  ended = subst (λ g. HasEnded end turn.taken.last left read_failed g) (sym f) turn.taken.ended;
}

-- a run goes on, from a new session
pub record IsGoing (disk : Files) (now : Session) (old left before after : Option (List ℕ)) (waiting : List ℕ) (read_failed write_failed : Bool) : Type 0 where
  pub come : HasCome disk new_session now old left before after waiting
  pub reads : read_failed ≡ false
  pub writes : write_failed ≡ false

pub goes_first : (disk : Files) (s : Session) (left after : Option (List ℕ)) (read_failed write_failed : Bool) (waiting : List ℕ) → waiting ≡ [] → s ≡ new_session → read_failed ≡ false → write_failed ≡ false
    → IsGoing disk s left left after after waiting read_failed write_failed
goes_first disk s left after read_failed write_failed waiting e same r w =
    subst (λ l. IsGoing disk s left left after after l read_failed write_failed) (sym e)
    (record { come = subst (λ n. HasCome disk new_session n left left after after []) (sym same) (nothing_yet disk new_session left after); reads = r; writes = w })

pub goes_on : (disk : Files) (s t : Session) (old mid left before : Option (List ℕ)) (waiting rest : List ℕ) (was_failed had_failed read_failed : Bool) (w : Writer) → IsGoing disk s old mid before w.before waiting was_failed had_failed
    → TakesTurn disk mid left read_failed waiting rest s t w None → read_failed ≡ false → w.failed ≡ false → IsGoing disk t old left before w.after rest read_failed w.failed
goes_on disk s t old mid left before waiting rest was_failed had_failed read_failed w going turn r f =
    record { come = goes_further disk new_session s t old mid left before waiting rest read_failed w going.come turn f; reads = r; writes = f }

-- a run that ends between messages, since memory ran out
pub ends_going : (disk : Files) (s : Session) (old left : Option (List ℕ)) (waiting : List ℕ) (read_failed : Bool) (v : Writer) → IsGoing disk s old left v.before v.after waiting read_failed v.failed → HasServed disk old left read_failed v ending.OutOfMemory
ends_going disk s old left waiting read_failed v going =
    let come = going.come in
    record {
      bytes = come.bytes ++ [];
      read = Consumes-trans old left left come.bytes [] come.read (Consumes-nil left);
      bodies = come.bodies ++ [];
      rest = waiting ++ [];
      messages = come.takes [] [] (waiting ++ []) refl;
      text = come.text ++ [];
      runs = come.runs [] [] ending.OutOfMemory (refl, tt);
      took = took_all v.before v.after v.failed (come.text ++ []) going.writes (Appends-trans v.before v.after v.after come.text [] come.wrote (Appends-nil v.after));
      ended = tt;
    }
