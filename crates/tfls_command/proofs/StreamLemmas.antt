-- From what stands at the front of a stream to its messages.
use Rattle.std.proofs.Common.{◌≡◌, ◌∙◌, ◌<◌, ◌≤◌, ◌+◌, ◌-◌, ◌++◌, ◌∷◌, ◌==◌, [], ℕ, suc, Bool, true, false, List, Option, Some, None, ap, ap₂, append_assoc, append-nil, arith, drop, length, refl, subst, sym, take, true≢false, nat_eq}
use Rattle.std.proofs.lemmas.Bool.{eqb-true, and_parts, ltb-false}
use Rattle.std.proofs.lemmas.List.{drop-append-le, drop-drop, drop-take, length-append, length-drop, length-take-le, take-append-drop}
use Rattle.std.proofs.KnownBytes.{Consumes-nil, Consumes-trans}
use Rattle.std.specs.Io.KnownBytes.{Consumes}
use Rattle.std.proofs.lemmas.Option.{none-some, same_Some}
use Rattle.std.specs.List.{starts_with}
use Rattle.std.specs.Option.{option_map}
use Rattle.std.specs.Prelude.{if◌then◌else◌, nat_lt}
use Rattle.tfls_command.specs.Frames.{bytes_before, head_end, head_length, max_head, told_length}
use Rattle.tfls_command.specs.Fronts.{front_by_head, front_by_length, front_of}
use Rattle.tfls_command.specs.Streams.{Begins, EndsOnly, IsReceived, Receives, is_failed_read}
use Rattle.tfls_command.specs.Inner.Steps.{NeedsNoRead, NeedsRead, TakesMessage}
use Rattle.tfls_command.specs.declared.incoming.Received.{Received}
use Rattle.tfls_command.specs.declared.incoming.Received.TheVariants as received
use Rattle.tfls_command.specs.declared.front.Front.{Front}
use Rattle.tfls_command.specs.declared.front.Front.TheVariants.{Message, Partial, Malformed}

pub starts_is : (text front : List ℕ) → starts_with nat_eq text front ≡ true → text ≡ front ++ drop (length front) text
starts_is text [] h = refl
starts_is [] (c ∷ front) h = absurd (true≢false (sym h))
starts_is (b ∷ text) (c ∷ front) h =
    let w = and_parts (c == b) (starts_with nat_eq text front) h in
    ap₂ (λ x xs. x ∷ xs) (sym (eqb-true c b w.0)) (starts_is text front w.1)

pub mark_fits : (text front : List ℕ) → starts_with nat_eq text front ≡ true → length front ≤ length text
mark_fits text front h =
    let is : length text ≡ length front + length (drop (length front) text) = ap length (starts_is text front h) ∙ length-append front (drop (length front) text) in
    omega (arith, is)

-- the mark stands where it was found
pub mark_is : (mark bytes : List ℕ) (n : ℕ) → bytes_before mark bytes ≡ Some n → (starts_with nat_eq (drop n bytes) mark ≡ true) × (n ≤ length bytes)
mark_is mark [] n h = absurd (none-some n h)
mark_is mark (b ∷ bs) n h = by (λ k e. mark_is mark bs k e) (starts_with nat_eq (b ∷ bs) mark) refl h
  where
    further : ((k : ℕ) → bytes_before mark bs ≡ Some k → (starts_with nat_eq (drop k bs) mark ≡ true) × (k ≤ length bs)) → (o : Option ℕ) → bytes_before mark bs ≡ o → option_map suc o ≡ Some n → (starts_with nat_eq (drop n (b ∷ bs)) mark ≡ true) × (n ≤ length (b ∷ bs))
    further ih None e g = absurd (none-some n g)
    further ih (Some k) e g =
        let is : suc k ≡ n = same_Some (suc k) n g in
        let more = ih k e in
        (ap (λ m. starts_with nat_eq (drop m (b ∷ bs)) mark) (sym is) ∙ more.0, omega (arith, more.1, is))

    by : ((k : ℕ) → bytes_before mark bs ≡ Some k → (starts_with nat_eq (drop k bs) mark ≡ true) × (k ≤ length bs)) → (t : Bool) → starts_with nat_eq (b ∷ bs) mark ≡ t → (if t then Some 0 else option_map suc (bytes_before mark bs)) ≡ Some n → (starts_with nat_eq (drop n (b ∷ bs)) mark ≡ true) × (n ≤ length (b ∷ bs))
    by ih true e g = let is : 0 ≡ n = same_Some 0 n g in (ap (λ m. starts_with nat_eq (drop m (b ∷ bs)) mark) (sym is) ∙ e, omega (arith, is))
    by ih false e g = further ih (bytes_before mark bs) refl g

pub record IsHead (stream : List ℕ) (n : ℕ) : Type 0 where
  pub after : drop n stream ≡ head_end ++ drop (n + 4) stream
  pub within : n + 4 ≤ length stream

long : (l rest : List ℕ) → l ≡ head_end ++ rest → 4 ≤ length l
long l rest e = let same : length l ≡ suc (suc (suc (suc (length rest)))) = ap length e in omega (arith, same)

-- a head ends with an empty line
pub head_is : (stream : List ℕ) (n : ℕ) → head_length stream ≡ Some n → IsHead stream n
head_is stream n h =
    let at : (starts_with nat_eq (drop n (take max_head stream)) head_end ≡ true) × (n ≤ length (take max_head stream)) = mark_is head_end (take max_head stream) n h in
    let ended : drop n (take max_head stream) ≡ head_end ++ drop 4 (drop n (take max_head stream)) = starts_is (drop n (take max_head stream)) head_end at.0 in
    let split : drop n stream ≡ drop n (take max_head stream) ++ drop max_head stream = ap (drop n) (sym (take-append-drop max_head stream)) ∙ drop-append-le n (take max_head stream) (drop max_head stream) at.1 in
    let whole : drop n stream ≡ head_end ++ (drop 4 (drop n (take max_head stream)) ++ drop max_head stream) = split ∙ ap (λ l. l ++ drop max_head stream) ended ∙ append_assoc head_end (drop 4 (drop n (take max_head stream))) (drop max_head stream) in
    let rest : drop (n + 4) stream ≡ drop 4 (drop n (take max_head stream)) ++ drop max_head stream = sym (drop-drop 4 n stream) ∙ ap (drop 4) whole in
    let after : drop n stream ≡ head_end ++ drop (n + 4) stream = whole ∙ ap (λ l. head_end ++ l) (sym rest) in
    let four : 4 ≤ length (drop n stream) = long (drop n stream) (drop (n + 4) stream) after in
    record { after = after; within = omega (arith, four, length-drop n stream) }

pub record IsMessage (bytes : List ℕ) (from to : ℕ) : Type 0 where
  pub n : ℕ
  pub m : ℕ
  pub head : head_length bytes ≡ Some n
  pub told : told_length (take n bytes) ≡ Some m
  pub from_is : from ≡ n + 4
  pub to_is : to ≡ from + m
  pub within : m ≤ length bytes - from

abbrev pub from_of : Front → ℕ
from_of (Message from to) = from
from_of Partial = 0
from_of Malformed = 0

abbrev pub to_of : Front → ℕ
to_of (Message from to) = to
to_of Partial = 0
to_of Malformed = 0

abbrev pub is_message : Front → Bool
is_message (Message from to) = true
is_message Partial = false
is_message Malformed = false

pub message_is : (bytes : List ℕ) (from to : ℕ) → front_of bytes ≡ Message from to → IsMessage bytes from to
message_is bytes from to h = by (head_length bytes) refl h
  where
    told : (n : ℕ) → head_length bytes ≡ Some n → (t : Option ℕ) → told_length (take n bytes) ≡ t → front_by_length bytes (n + 4) t ≡ Message from to → IsMessage bytes from to
    told n e None f g = absurd (true≢false (sym (ap is_message g)))
    told n e (Some m) f g = fits (nat_lt (length bytes - (n + 4)) m) refl g
      where
        fits : (b : Bool) → nat_lt (length bytes - (n + 4)) m ≡ b → (if b then Partial else Message (n + 4) (n + 4 + m)) ≡ Message from to → IsMessage bytes from to
        fits true i k = absurd (true≢false (sym (ap is_message k)))
        fits false i k =
            let is_from : n + 4 ≡ from = ap from_of k in
            let is_to : n + 4 + m ≡ to = ap to_of k in
            let le : m ≤ length bytes - (n + 4) = ltb-false (length bytes - (n + 4)) m i in
            record { n = n; m = m; head = e; told = f; from_is = sym is_from; to_is = omega (arith, is_from, is_to); within = omega (arith, le, is_from) }

    short : (b : Bool) → (if b then Partial else Malformed) ≡ Message from to → IsMessage bytes from to
    short true g = absurd (true≢false (sym (ap is_message g)))
    short false g = absurd (true≢false (sym (ap is_message g)))

    by : (o : Option ℕ) → head_length bytes ≡ o → front_by_head bytes o ≡ Message from to → IsMessage bytes from to
    by None e g = short (nat_lt (length bytes) max_head) g
    by (Some n) e g = told n e (told_length (take n bytes)) refl g

pub message_order : (bytes : List ℕ) (from to : ℕ) → front_of bytes ≡ Message from to → from ≤ to
message_order bytes from to h = let is = message_is bytes from to h in omega (arith, is.to_is)

pub message_within : (bytes : List ℕ) (from to : ℕ) → front_of bytes ≡ Message from to → to ≤ length bytes
message_within bytes from to h =
    let is = message_is bytes from to h in
    let at = head_is bytes is.n is.head in
    omega (arith, is.to_is, is.from_is, is.within, at.within)

-- the front of a stream is its first message
pub begins_so : (bytes : List ℕ) (from to : ℕ) → front_of bytes ≡ Message from to → Begins bytes (take (to - from) (drop from bytes)) (drop to bytes)
begins_so bytes from to h =
    let is = message_is bytes from to h in
    let at = head_is bytes is.n is.head in
    let size : to - from ≡ is.m = omega (arith, is.to_is) in
    let front : is.n ≤ length bytes = omega (arith, at.within) in
    let fits : to - from ≤ length (drop from bytes) = omega (arith, size, is.within, length-drop from bytes) in
    let after : drop is.n bytes ≡ head_end ++ drop from bytes = at.after ∙ ap (λ k. head_end ++ drop k bytes) (sym is.from_is) in
    let rest : drop (to - from) (drop from bytes) ≡ drop to bytes = drop-drop (to - from) from bytes ∙ ap (λ k. drop k bytes) (omega (arith, is.to_is)) in
    let body : drop from bytes ≡ take (to - from) (drop from bytes) ++ drop to bytes = sym (take-append-drop (to - from) (drop from bytes)) ∙ ap (λ l. take (to - from) (drop from bytes) ++ l) rest in
    record {
      head = take is.n bytes;
      whole = sym (take-append-drop is.n bytes) ∙ ap (λ l. take is.n bytes ++ l) (after ∙ ap (λ l. head_end ++ l) body);
      ended = is.head ∙ ap Some (sym (length-take-le is.n bytes front));
      told = is.told ∙ ap Some (sym (length-take-le (to - from) (drop from bytes) fits ∙ size));
    }

-- what is taken from the front is received
pub receives_so : (old new : List ℕ) (from to : ℕ) (r : Received) → front_of old ≡ Message from to → TakesMessage old new from to r → Receives old new r × NeedsNoRead r
receives_so old new from to (received.Message body) h t =
    let order = message_order old from to h in
    let is_to : from + (to - from) ≡ to = omega (arith, order) in
    let is_body : body.items ≡ take (to - from) (drop from old) = t.0 ∙ ap (λ n. drop from (take n old)) (sym is_to) ∙ drop-take from (to - from) old in
    (subst (λ b. Begins old b new) (sym is_body) (subst (λ rest. Begins old (take (to - from) (drop from old)) rest) (sym t.1) (begins_so old from to h)), tt)
receives_so old new from to received.End h t = absurd t
receives_so old new from to received.Malformed h t = absurd t
receives_so old new from to received.Failed h t = absurd t
receives_so old new from to received.OutOfMemory h t = (t, tt)

-- the bytes that were read wait after those that waited, and were read only where these were the beginning of a message
pub record Waits (old new : Option (List ℕ)) (before now : List ℕ) : Type 0 where
  pub bytes : List ℕ
  pub consumed : Consumes old new bytes
  pub appended : now ≡ before ++ bytes
  pub needed : 0 < length bytes → front_of before ≡ Partial

pub waits_none : (source : Option (List ℕ)) (before : List ℕ) → Waits source source before before
waits_none source before = record { bytes = []; consumed = Consumes-nil source; appended = sym (append-nil before); needed = λ h. absurd (omega (arith, h)) }

first_needed : (before now bytes : List ℕ) → now ≡ before ++ bytes → (0 < length bytes → front_of before ≡ Partial) → front_of now ≡ Partial → front_of before ≡ Partial
first_needed before now [] e n p = ap front_of (sym (e ∙ append-nil before)) ∙ p
first_needed before now (b ∷ bs) e n p = n (omega arith)

pub waits_more : (old mid new : Option (List ℕ)) (before now next bytes : List ℕ) → Waits old mid before now → Consumes mid new bytes → next ≡ now ++ bytes → front_of now ≡ Partial → Waits old new before next
waits_more old mid new before now next bytes w c e p = record {
  bytes = w.bytes ++ bytes;
  consumed = Consumes-trans old mid new w.bytes bytes w.consumed c;
  appended = e ∙ ap (λ l. l ++ bytes) w.appended ∙ append_assoc before w.bytes bytes;
  needed = λ _. first_needed before now w.bytes w.appended w.needed p;
}

-- what is received of what waits
pub received_waiting : (old new : Option (List ℕ)) (before now after : List ℕ) (r : Received) → Waits old new before now → Receives now after r → IsReceived old new before after r
received_waiting old new before now after r w h = record {
  bytes = w.bytes;
  read = w.consumed;
  needed = w.needed;
  receives = subst (λ l. Receives l after r) w.appended h;
}

-- what is received because no bytes came
pub received_after : (old mid new : Option (List ℕ)) (before now after bytes : List ℕ) (r : Received) → Waits old mid before now → front_of now ≡ Partial → Consumes mid new bytes → after ≡ now → bytes ≡ [] → NeedsRead r → IsReceived old new before after r
received_after old mid new before now after bytes r w p c same none n =
    received_waiting old new before now after r (waits_more old mid new before now now bytes w c (sym (ap (λ l. now ++ l) none ∙ append-nil now)) p) (by r n)
  where
    by : (x : Received) → NeedsRead x → Receives now after x
    by (received.Message body) h = absurd h
    by received.End h = (p, same)
    by received.Malformed h = absurd h
    by received.Failed h = (p, same)
    by received.OutOfMemory h = same

pub unread_ends : (r : Received) (left : Option (List ℕ)) → NeedsNoRead r → EndsOnly r left
unread_ends (received.Message body) left h = tt
unread_ends received.End left h = absurd h
unread_ends received.Malformed left h = tt
unread_ends received.Failed left h = absurd h
unread_ends received.OutOfMemory left h = tt

pub unread_reads : (r : Received) → NeedsNoRead r → is_failed_read r ≡ false
unread_reads (received.Message body) h = refl
unread_reads received.End h = absurd h
unread_reads received.Malformed h = refl
unread_reads received.Failed h = absurd h
unread_reads received.OutOfMemory h = refl
