-- The text that identifies a reference.
use Rattle.std.specs.Prelude.{ℕ, List}
use Rattle.tf_facts.specs.References.{variable_reference, local_reference, data_reference}
use Rattle.tf_facts.specs.declared.reference.Reference.{Reference}
use Rattle.tf_facts.specs.declared.reference.Reference.TheVariants.{Variable, Local, Data}

abbrev pub spelling_of : Reference → List ℕ
spelling_of (Variable n) = variable_reference n.now
spelling_of (Local n) = local_reference n.now
spelling_of (Data t n) = data_reference t.now n.now
