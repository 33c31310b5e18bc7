-- The size of the stored facts. Our own definitions.
use Rattle.std.specs.Prelude.{ℕ, ◌+◌, List, [], ◌∷◌, ◌++◌, Option, Some, None, length}
use Rattle.std.specs.List.{flat_map}
use Rattle.tf_facts.specs.Declarations.{Declaration, SourceAt}
use Rattle.tf_facts.specs.Sources.{Source, DefaultBranch}
use Rattle.tf_rules.specs.Stored.{Stored}

abbrev pub source_places : {P : Type 0} → Option (SourceAt P) → List P
source_places None = []
source_places (Some s) = s.at ∷ []

-- the places of a declaration: its own, and that of its source
abbrev pub places_of : {P : Type 0} → Declaration P → List P
places_of d = d.at ∷ source_places d.source

-- HOW MANY ENTRIES are stored: the places of comments, of patterns of tokens and of declarations, and the references
abbrev pub entries : Stored → ℕ
entries kept =
    length kept.facts.comments
    + (length kept.facts.indexes +
    (length kept.facts.interpolations +
    (length (flat_map places_of kept.facts.declarations) + length kept.references)))

-- ---- the bytes of texts

-- the text of a source: the name of its default branch, if it has one
abbrev pub branch_of : Source → List (List ℕ)
branch_of (DefaultBranch r) = r ∷ []
branch_of _ = []

abbrev pub source_texts : {P : Type 0} → Option (SourceAt P) → List (List ℕ)
source_texts None = []
source_texts (Some s) = branch_of s.source

-- the texts of a declaration: its names, and that of its source's branch
abbrev pub declared_texts : {P : Type 0} → Declaration P → List (List ℕ)
declared_texts d = d.names ++ source_texts d.source

-- how many bytes these texts have
abbrev pub bytes : List (List ℕ) → ℕ
bytes [] = 0
bytes (x ∷ xs) = length x + bytes xs

-- HOW MANY BYTES the stored texts have: those of the declarations, and the references
abbrev pub name_bytes : Stored → ℕ
name_bytes kept = bytes (flat_map declared_texts kept.facts.declarations) + bytes kept.references
