-- The ends of runs that have no paths yet.
use Rattle.std.proofs.Common.{Result, Ok, Err, IfOk}

pub if_ok_more : {A E : Type 0} (r : Result A E) (P Q : A → Type 0) → IfOk r P → ((x : A) → P x → Q x) → IfOk r Q
if_ok_more (Ok x) P Q h f = f x h
if_ok_more (Err e) P Q h f = tt
