use Rattle.std.proofs.Common.{◌≡◌, take}
use Rattle.clap.specs.Words.{app_of}
use Rattle.tree_words.specs.Line.{command_by}
use Rattle.tree_words.proofs.argument.command_of.Given as goal

abbrev pub invariant-loop-argument : goal.invariant-loop-argument
invariant-loop-argument l = app_of l.command ≡ command_by l.name (take l.argument-index l.arguments)
