-- Tokens that are added in turn.
use Rattle.std.proofs.Common.{◌≡◌, ◌∙◌, ◌++◌, List, ap, append_assoc}
use Rattle.std.specs.Prelude.{Result, Ok, Err}
use Rattle.json.specs.Token.{Token}
use Rattle.json.specs.Written.{Written}
use Rattle.lint_forms.specs.AddsTokens.{AddsTokens}

abbrev pub Added : Written → Written → List Token → Type 0
Added old new ts = (new.before ≡ old.before) × (new.tokens ≡ old.tokens ++ ts)

pub added_then : (old mid new : Written) (ts us : List Token) → Added old mid ts → Added mid new us → Added old new (ts ++ us)
added_then old mid new ts us a b = (b.0 ∙ a.0, b.1 ∙ ap (λ l. l ++ us) a.1 ∙ append_assoc old.tokens ts us)

-- the last ones
pub adds_then : {E : Type 0} (r : Result (Unit {0}) E) (old mid new : Written) (ts us : List Token) → Added old mid ts → AddsTokens r mid new us → AddsTokens r old new (ts ++ us)
adds_then (Ok u) old mid new ts us a b = added_then old mid new ts us a b
adds_then (Err e) old mid new ts us a b = tt

pub adds_as : {E : Type 0} (r : Result (Unit {0}) E) (old new : Written) (ts us : List Token) → ts ≡ us → AddsTokens r old new ts → AddsTokens r old new us
adds_as (Ok u) old new ts us e a = (a.0, a.1 ∙ ap (λ l. old.tokens ++ l) e)
adds_as (Err f) old new ts us e a = tt
