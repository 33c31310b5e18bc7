-- The bytes waiting on a page, after those written before.
use Rattle.std.proofs.Common.{◌≡◌, ◌∙◌, ◌++◌, [], ℕ, Bool, true, false, List, Option, ap, ap₂, append_assoc, length, subst, sym, take}
use Rattle.std.proofs.Math.Seq.{take-append_seam}
use Rattle.std.proofs.lemmas.List.{append-nil}
use Rattle.std.specs.Io.KnownBytes.{Appends}
use Rattle.command_line.specs.Rows.{TookBy}
use Rattle.tfrules_command.specs.Inner.Pages.{GoesOut, Holds}
use Rattle.command_line.proofs.WriterLemmas.{took_after, took_front}

-- ---- a page

pub held : (b : Bool) (old new text : List ℕ) → b ≡ true → Holds b old new text → new ≡ old ++ text
held true old new text e h = h
held false old new text e h = absurd (cc)

pub not_held : (b : Bool) (old new text : List ℕ) → b ≡ false → Holds b old new text → new ≡ old
not_held false old new text e h = h
not_held true old new text e h = absurd (cc)

-- a text that was appended is dropped again
pub given_back : (old front new text : List ℕ) (n : ℕ) → n ≡ length old → front ≡ old ++ text → new ≡ take n front → new ≡ old
given_back old front new text n e f g = g ∙ ap₂ take e f ∙ take-append_seam old text

-- ---- a text goes out

-- it waits
pub goes_waiting : (f : Bool) (before : Option (List ℕ)) (old new text : List ℕ) → f ≡ false → new ≡ old ++ text → GoesOut f before before old new text
goes_waiting false before old new text e is = λ rest after f t. subst (λ l. TookBy f before after l) (ap (λ l. l ++ rest) is ∙ append_assoc old text rest) t
goes_waiting true before old new text e is = absurd (cc)

-- a write failed, and the bytes waiting before it were not taken
pub goes_wrong_before : (f : Bool) (before now : Option (List ℕ)) (old waits new text : List ℕ) → f ≡ true → waits ≡ old → TookBy f before now waits → GoesOut f before now old new text
goes_wrong_before true before now old waits new text e same t = took_front before now true old text e (subst (λ l. TookBy true before now l) same t)
goes_wrong_before false before now old waits new text e same t = absurd (cc)

-- the bytes waiting before it were taken, and it waits
pub goes_after : (f : Bool) (before now : Option (List ℕ)) (old waits empty new text : List ℕ) → f ≡ false → waits ≡ old → Appends before now waits → empty ≡ [] → new ≡ empty ++ text → GoesOut f before now old new text
goes_after false before now old waits empty new text e same taken none is = λ rest after f t.
    took_after before now after f old (text ++ rest) (subst (λ l. Appends before now l) same taken) (subst (λ l. TookBy f now after l) (ap (λ l. l ++ rest) (is ∙ ap (λ l. l ++ text) none)) t)
goes_after true before now old waits empty new text e same taken none is = absurd (cc)

-- the bytes waiting before it were taken, and it was written, too
pub goes_past : (f : Bool) (before now next : Option (List ℕ)) (old waits new text : List ℕ) → waits ≡ old → Appends before now waits → new ≡ [] → TookBy f now next text → GoesOut f before next old new text
goes_past false before now next old waits new text same taken none t = λ rest after f u.
    took_after before now after f old (text ++ rest) (subst (λ l. Appends before now l) same taken)
    (took_after now next after f text rest t (subst (λ l. TookBy f next after l) (ap (λ l. l ++ rest) none) u))
goes_past true before now next old waits new text same taken none t = took_after before now next true old text (subst (λ l. Appends before now l) same taken) t

pub goes_as : (f : Bool) (before now : Option (List ℕ)) (old new text other : List ℕ) → text ≡ other → GoesOut f before now old new text → GoesOut f before now old new other
goes_as f before now old new text other same g = subst (λ (l : List ℕ). GoesOut f before now old new l) same g

-- ---- texts that go out in turn: the rest, and the whole

abbrev pub GoesOn : Option (List ℕ) → Option (List ℕ) → List ℕ → List ℕ → List ℕ → List ℕ → Type 0
GoesOn start now first page left whole = (rest : List ℕ) (after : Option (List ℕ)) (f : Bool) → TookBy f now after (page ++ (left ++ rest)) → TookBy f start after (first ++ (whole ++ rest))

pub one_goes : (start now next : Option (List ℕ)) (first page page' left left' whole text : List ℕ) (f : Bool) → f ≡ false → left ≡ text ++ left' → GoesOut f now next page page' text → GoesOn start now first page left whole
    → GoesOn start next first page' left' whole
one_goes start now next first page page' left left' whole text false e split g on = λ rest after f t.
    on rest after f (subst (λ l. TookBy f now after (page ++ l)) (sym (append_assoc text left' rest) ∙ ap (λ l. l ++ rest) (sym split)) (g (left' ++ rest) after f t))
one_goes start now next first page page' left left' whole text true e split g on = absurd (cc)

pub one_fails : (start now next : Option (List ℕ)) (first page page' new left left' whole text : List ℕ) (f : Bool) → f ≡ true → left ≡ text ++ left' → GoesOut f now next page page' text → GoesOn start now first page left whole
    → GoesOut f start next first new whole
one_fails start now next first page page' new left left' whole text true e split g on =
    let more : TookBy true now next (page ++ (left ++ [])) =
    subst (λ l. TookBy true now next l)
    (append_assoc page text (left' ++ []) ∙ ap (λ l. page ++ l) (sym (append_assoc text left' []) ∙ ap (λ l. l ++ []) (sym split)))
    (took_front now next true (page ++ text) (left' ++ []) e g) in
    subst (λ l. TookBy true start next (first ++ l)) (append-nil whole) (on [] next true more)
one_fails start now next first page page' new left left' whole text false e split g on = absurd (cc)

pub all_gone : (start now : Option (List ℕ)) (first page left whole : List ℕ) (f : Bool) → f ≡ false → left ≡ [] → GoesOn start now first page left whole → GoesOut f start now first page whole
all_gone start now first page left whole false e none on = λ rest after f t. on rest after f (subst (λ l. TookBy f now after (page ++ (l ++ rest))) (sym none) t)
all_gone start now first page left whole true e none on = absurd (cc)

-- ---- a report of two parts

-- nothing waits at first
pub front_fails : (before now : Option (List ℕ)) (first page front back : List ℕ) (f : Bool) → f ≡ true → first ≡ [] → GoesOut f before now first page front → TookBy f before now (front ++ back)
front_fails before now first page front back true e none g = took_front before now true front back e (subst (λ l. TookBy true before now (l ++ front)) none g)
front_fails before now first page front back false e none g = absurd (cc)

pub back_fails : (before now after : Option (List ℕ)) (first page page' front back : List ℕ) (e f : Bool) → e ≡ false → f ≡ true → first ≡ [] → GoesOut e before now first page front → GoesOut f now after page page' back
    → TookBy f before after (front ++ back)
back_fails before now after first page page' front back false true is fails none g h = subst (λ l. TookBy true before after (l ++ (front ++ back))) none (g back after true h)
back_fails before now after first page page' front back true f is fails none g h = absurd (cc)
back_fails before now after first page page' front back false false is fails none g h = absurd (cc)

-- and the waiting bytes are written in the end
pub all_written : (before now next after : Option (List ℕ)) (first page page' waits front back : List ℕ) (d e f : Bool) → d ≡ false → e ≡ false → first ≡ [] → waits ≡ page' → GoesOut d before now first page front → GoesOut e now next page page' back
    → TookBy f next after waits → TookBy f before after (front ++ back)
all_written before now next after first page page' waits front back false false f is is' none same g h t =
    let last : TookBy f next after (page' ++ []) = subst (λ l. TookBy f next after l) (same ∙ sym (append-nil page')) t in
    let lines : TookBy f now after (page ++ back) = subst (λ l. TookBy f now after (page ++ l)) (append-nil back) (h [] after f last) in
    subst (λ l. TookBy f before after (l ++ (front ++ back))) none (g back after f lines)
all_written before now next after first page page' waits front back true e f is is' none same g h t = absurd (cc)
all_written before now next after first page page' waits front back false true f is is' none same g h t = absurd (cc)

-- ---- one text alone

pub text_fails : (before now : Option (List ℕ)) (first page text : List ℕ) (f : Bool) → f ≡ true → first ≡ [] → GoesOut f before now first page text → TookBy f before now text
text_fails before now first page text true e none g = subst (λ l. TookBy true before now (l ++ text)) none g
text_fails before now first page text false e none g = absurd (cc)

pub text_written : (before now after : Option (List ℕ)) (first page text : List ℕ) (e f : Bool) → e ≡ false → first ≡ [] → GoesOut e before now first page text → TookBy f now after page → TookBy f before after text
text_written before now after first page text false f is none g t =
    let last : TookBy f now after (page ++ []) = subst (λ l. TookBy f now after l) (sym (append-nil page)) t in
    subst (λ l. TookBy f before after l) (append-nil text) (subst (λ l. TookBy f before after (l ++ (text ++ []))) none (g [] after f last))
text_written before now after first page text true f is none g t = absurd (cc)

-- ---- a message in parts

pub named_tail : (front name rest after_message : List ℕ) → front ++ (name ++ (rest ++ (after_message ++ []))) ≡ (front ++ (name ++ rest)) ++ after_message
named_tail front name rest after_message =
    ap (λ l. front ++ (name ++ (rest ++ l))) (append-nil after_message) ∙ ap (λ l. front ++ l) (sym (append_assoc name rest after_message)) ∙ sym (append_assoc front (name ++ rest) after_message)

pub twice_tail : (front name between other rest after_message : List ℕ) → front ++ (name ++ (between ++ (other ++ (rest ++ (after_message ++ []))))) ≡ (front ++ (name ++ (between ++ (other ++ rest)))) ++ after_message
twice_tail front name between other rest after_message =
    ap (λ l. front ++ (name ++ l)) (named_tail between other rest after_message)
    ∙ ap (λ l. front ++ l) (sym (append_assoc name (between ++ (other ++ rest)) after_message))
    ∙ sym (append_assoc front (name ++ (between ++ (other ++ rest))) after_message)

-- the text before the message on its line
pub in_frame : (name place before_message tail other : List ℕ) → tail ≡ other → name ++ (place ++ (before_message ++ tail)) ≡ name ++ (place ++ (before_message ++ other))
in_frame name place before_message tail other same = ap (λ l. name ++ (place ++ (before_message ++ l))) same
