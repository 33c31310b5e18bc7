use Rattle.std.proofs.Common.{subst, true}
use Rattle.file_tree.specs.Files.{Files}
use Rattle.module_config.specs.Lines.{no_options}
use Rattle.module_config.specs.Configs.{Configures}
use Rattle.editor_modules.proofs.ModuleLemmas.{is_governed}
use Rattle.editor_modules.proofs.find.module_in.Goals as goal

pub returns-clause-is : goal.returns-clause-is
returns-clause-is g c =
    let modules = c.in_ok-modules.modules.items in
    let configured = c.in_ok-configured.configured in
    let was = g.T.Tree.faults c.modules_in.new.tree in
    let is = g.T.Tree.faults c.configure.new.tree in record {
      modules = modules;
      alone = c.in_ok-modules.ensures.are;
      was = was;
      is = is;
      configured = configured;
      by = subst (λ (files : Files). Configures files no_options true modules was is configured) c.in_ok-modules.ensures.unchanged.0 c.in_ok-configured.ensures.configures;
      one = is_governed configured c.pop.new.self.items _ c.pop.result c.pop.ensures.items c.pop.ensures.cases;
    }
