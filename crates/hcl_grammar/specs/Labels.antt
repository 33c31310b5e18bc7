-- The texts of labels: an identifier, or the literal between the quotes as written, empty if there is none (HCL Native
-- Syntax Specification, "Structural Elements", on the labels of blocks; escapes are kept, which is our own choice).
use Rattle.std.specs.Prelude.{ℕ, ◌+◌, ◌==◌, List, [], ◌∷◌, drop, if◌then◌else◌}
use Rattle.hcl_tokens.specs.Kinds.{is}
use Rattle.hcl_tokens.specs.declared.token.Kind.TheVariants as kind
use Rattle.hcl_grammar.specs.Numbered.{Numbered}
use Rattle.hcl_grammar.specs.declared.item.Label.{Label}

abbrev pub first_text : List Numbered → List ℕ
first_text [] = []
first_text (t ∷ ts) = t.text

abbrev pub first_literal : List Numbered → List ℕ
first_literal [] = []
first_literal (t ∷ ts) = if is kind.Lit t.kind then t.text else []

-- the text of the token of this number
abbrev pub text_of : List Numbered → ℕ → List ℕ
text_of ts n = first_text (drop n ts)

-- THE TEXT of a label
abbrev pub label_text : List Numbered → Label → List ℕ
label_text ts l =
    if l.first == l.last then text_of ts l.first else first_literal (drop (l.first + 1) ts)
