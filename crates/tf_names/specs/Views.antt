-- Names and their occurrences as the code has them.
use Rattle.tf_names.specs.Names.{Name, Occurrence, Variable, Local, Data, Module}
use Rattle.tf_names.specs.declared.name.Name.{Name as NameOf}
use Rattle.tf_names.specs.declared.name.Name.TheVariants as name
use Rattle.tf_names.specs.declared.occurrence.Occurrence.{Occurrence as OccurrenceOf}

abbrev pub name_seen : NameOf → Name
name_seen (name.Variable n) = Variable n.now
name_seen (name.Local n) = Local n.now
name_seen (name.Data t n) = Data t.now n.now
name_seen (name.Module n) = Module n.now

abbrev pub occurrence_seen : OccurrenceOf → Occurrence
occurrence_seen o = record {
  name = name_seen o.name;
  kind = o.kind;
  front = o.front;
  start = o.start;
  end = o.end;
}
