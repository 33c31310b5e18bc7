-- The request of a line of words that has one fault at most.
use Rattle.std.proofs.Common.{◌≡◌, ◌∙◌, ◌⊎◌, [], ◌∷◌, ap, inl, inr, refl}
use Rattle.std.specs.Prelude.{Result, Err}
use Rattle.clap.specs.Words.{IsAmong, Kinds}
use Rattle.clap.specs.declared.error.ErrorKind.{ErrorKind}
use Rattle.clap.specs.declared.error.ErrorKind.TheVariants as kind
use Rattle.command_line.specs.Arguments.{unless_fault, usage_by}
use Rattle.command_line.specs.Faults.{IsOfWords, One}

-- a request may be replaced by an equal one; running out of memory remains the other case
pub asked_more : {Out X : Type 0} {x a b : X} → Out ⊎ (x ≡ a) → a ≡ b → Out ⊎ (x ≡ b)
asked_more (inl out) same = inl out
asked_more (inr is) same = inr (is ∙ same)

-- equality of the code's answers, or of the requests in the definitions, which have types of their own
abbrev pub Same : (A U : Type 0) → Result A U → Result A U → Type 0
Same A U a b = a ≡ b

-- the usage of an error, if the words have that one fault
pub refused_line : {O A U : Type 0} (memory help line : U) (faults : Kinds) (asked : Result A U) (k : ErrorKind) → One faults → (k ≡ kind.OutOfMemory) ⊎ IsAmong k faults
    → Same O U (Err (usage_by memory help line k)) (Err memory) ⊎ Same A U (Err (usage_by memory help line k)) (unless_fault (usage_by memory help line) faults asked)
refused_line memory help line faults asked k p (inl e) = inl (ap (λ x. Err (usage_by memory help line x)) e)
refused_line memory help line [] asked k p (inr e) = absurd e
refused_line memory help line (x ∷ []) asked k p (inr (inl e)) = inr (ap (λ x. Err (usage_by memory help line x)) e)
refused_line memory help line (x ∷ []) asked k p (inr (inr e)) = absurd e
refused_line memory help line (x ∷ y ∷ ks) asked k p (inr e) = absurd p

-- ---- no line has running out of memory as its usage

usage_of_words : {U : Type 0} (memory help line : U) (k : ErrorKind) → IsOfWords k → (usage_by memory help line k ≡ help) ⊎ (usage_by memory help line k ≡ line)
usage_of_words memory help line kind.InvalidValue p = inr refl
usage_of_words memory help line kind.UnknownArgument p = inr refl
usage_of_words memory help line kind.InvalidSubcommand p = inr refl
usage_of_words memory help line kind.NoEquals p = inr refl
usage_of_words memory help line kind.ValueValidation p = inr refl
usage_of_words memory help line kind.TooManyValues p = inr refl
usage_of_words memory help line kind.TooFewValues p = inr refl
usage_of_words memory help line kind.WrongNumberOfValues p = inr refl
usage_of_words memory help line kind.ArgumentConflict p = inr refl
usage_of_words memory help line kind.MissingRequiredArgument p = inr refl
usage_of_words memory help line kind.MissingSubcommand p = inr refl
usage_of_words memory help line kind.DisplayHelp p = inl refl
usage_of_words memory help line kind.DisplayHelpOnMissingArgumentOrSubcommand p = inr refl
usage_of_words memory help line kind.DisplayVersion p = inr refl
usage_of_words memory help line kind.Io p = inr refl
usage_of_words memory help line kind.Format p = inr refl
usage_of_words memory help line kind.OutOfMemory p = absurd p

pub line_has_memory : {A U : Type 0} (memory help line : U) (faults : Kinds) (asked : Result A U) → (help ≡ memory → ⊥) → (line ≡ memory → ⊥) → One faults
    → (asked ≡ Err memory → ⊥) → unless_fault (usage_by memory help line) faults asked ≡ Err memory → ⊥
line_has_memory memory help line [] asked h l p a e = a e
line_has_memory memory help line (k ∷ []) asked h l p a e = by (usage_of_words memory help line k p)
  where
    by : (usage_by memory help line k ≡ help) ⊎ (usage_by memory help line k ≡ line) → ⊥
    by (inl is) = h (cc)
    by (inr is) = l (cc)
line_has_memory memory help line (k ∷ m ∷ ks) asked h l p a e = absurd p
