-- Names as the facts of a file have them, for the laws: the text by which `tf_facts` knows a reference, and the name in
-- one of its declarations.
use Rattle.std.specs.Prelude.{ℕ, List, [], ◌∷◌, Option, Some, None}
use Rattle.tf_facts.specs.Declarations.{Declaration}
use Rattle.tf_facts.specs.References.{data_reference, local_reference, variable_reference}
use Rattle.tf_facts.specs.declared.declaration_kind.DeclarationKind.{DeclarationKind}
use Rattle.tf_facts.specs.declared.declaration_kind.DeclarationKind.TheVariants as declares
use Rattle.tf_names.specs.Names.{Name, Variable, Local, Data, Module}

-- the linter counts no references to calls of modules
abbrev pub reference_text : Name → Option (List ℕ)
reference_text (Variable n) = Some (variable_reference n)
reference_text (Local n) = Some (local_reference n)
reference_text (Data t n) = Some (data_reference t n)
reference_text (Module n) = None

-- the name that these texts are, one for each label, or for the attribute; outputs and resources have none here
abbrev pub name_by : DeclarationKind → List (List ℕ) → List Name
name_by declares.Variable (n ∷ []) = Variable n ∷ []
name_by declares.Local (n ∷ []) = Local n ∷ []
name_by declares.Data (t ∷ n ∷ []) = Data t n ∷ []
name_by declares.Module (n ∷ []) = Module n ∷ []
name_by _ _ = []

abbrev pub name_of_declaration : Declaration ℕ → List Name
name_of_declaration d = name_by d.kind d.names
