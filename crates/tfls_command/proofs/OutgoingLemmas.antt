-- What a sink took of a message.
use Rattle.std.proofs.Common.{◌≡◌, arith, Bool, true, false, length, List, ℕ, Option, subst, sym, true≢false}
use Rattle.std.proofs.KnownBytes.{Appends-kept}
use Rattle.std.proofs.lemmas.List.{take_all}
use Rattle.std.specs.Io.KnownBytes.{Appends, Keeps}
use Rattle.command_line.specs.Rows.{TookBy}

-- a flush takes nothing
pub took_flushed : (a b c : Option (List ℕ)) (e f : Bool) (text : List ℕ) → e ≡ false → TookBy e a b text → Keeps b c → TookBy f a c text
took_flushed a b c true f text e t k = absurd (true≢false e)
took_flushed a b c false false text e t k = Appends-kept a b c text t k
took_flushed a b c false true text e t k =
    (length text, omega arith, subst (λ l. Appends a c l) (sym (take_all (length text) text (omega arith))) (Appends-kept a b c text t k))
