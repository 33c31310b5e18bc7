use Rattle.std.proofs.Common.{map}
use Rattle.tree_command.specs.declared.usage.Usage.TheVariants.{Help, Version, TwoModes, BadPart, BadJobs, NamesTwice}
use Rattle.tree_command.proofs.UsageLemmas.{shows_usage}
use Rattle.tree_command.proofs.run.say.Goals as goal

pub returns-in-Help : goal.returns-in-Help
returns-in-Help g c = shows_usage (map (λ word. word.now) c.args.words.now) c.args.usage Help c.formatter.result _ c.in-Help.is c.formatter.ensures c.deliver.ensures

pub returns-in-Version : goal.returns-in-Version
returns-in-Version g c =
    shows_usage (map (λ word. word.now) c.args.words.now) c.args.usage Version c.formatter-in-Version.result _ c.in-Version.is c.formatter-in-Version.ensures c.deliver-in-Version.ensures

pub returns-in-TwoModes : goal.returns-in-TwoModes
returns-in-TwoModes g c =
    shows_usage (map (λ word. word.now) c.args.words.now) c.args.usage TwoModes c.formatter-in-TwoModes.result _ c.in-TwoModes.is c.formatter-in-TwoModes.ensures c.tell.ensures

pub returns-in-BadPart : goal.returns-in-BadPart
returns-in-BadPart g c =
    shows_usage (map (λ word. word.now) c.args.words.now) c.args.usage BadPart c.formatter-in-BadPart.result _ c.in-BadPart.is c.formatter-in-BadPart.ensures c.tell-in-BadPart.ensures

pub returns-in-BadJobs : goal.returns-in-BadJobs
returns-in-BadJobs g c =
    shows_usage (map (λ word. word.now) c.args.words.now) c.args.usage BadJobs c.formatter-in-BadJobs.result _ c.in-BadJobs.is c.formatter-in-BadJobs.ensures c.tell-in-BadJobs.ensures

pub returns-in-NamesTwice : goal.returns-in-NamesTwice
returns-in-NamesTwice g c =
    shows_usage (map (λ word. word.now) c.args.words.now) c.args.usage NamesTwice c.formatter-in-NamesTwice.result _ c.in-NamesTwice.is c.formatter-in-NamesTwice.ensures c.tell-in-NamesTwice.ensures
