use Rattle.std.proofs.Common.{sym, lit<}
use Rattle.std.specs.Prelude.{None}
use Rattle.std.proofs.lemmas.Str.Pattern.{strip_prefix_char}
use Rattle.module_config.proofs.ListLemmas.{undashed}
use Rattle.module_config.proofs.list_part.part_name.Goals as goal

pub returns-in-None : goal.returns-in-None
returns-in-None c = sym (undashed c.args.part.now (strip_prefix_char 45 c.args.part.now None c.in-None.ensures.cases (lit< tt))).1
