-- Tokens are appended to those of a writer.
use Rattle.std.specs.Prelude.{◌≡◌, ◌++◌, List, OnOk, Result}
use Rattle.json.specs.Token.{Token}
use Rattle.json.specs.Written.{Written}

abbrev pub AddsTokens : {E : Type 0} → Result (Unit {0}) E → Written → Written → List Token → Type 0
AddsTokens r old new ts = OnOk r ((new.before ≡ old.before) × (new.tokens ≡ old.tokens ++ ts))
