use Rattle.std.proofs.Common.{refl}
use Rattle.json.specs.Word.{after_number}
use Rattle.editor_messages.proofs.error.ReplyError.code.Goals as goal

pub returns-in-NotJson-clause-number : goal.returns-in-NotJson-clause-number
unfolding after_number
returns-in-NotJson-clause-number c = refl

pub returns-in-NotRequest-clause-number : goal.returns-in-NotRequest-clause-number
unfolding after_number
returns-in-NotRequest-clause-number c = refl

pub returns-in-UnknownMethod-clause-number : goal.returns-in-UnknownMethod-clause-number
unfolding after_number
returns-in-UnknownMethod-clause-number c = refl

pub returns-in-NoDocument-clause-number : goal.returns-in-NoDocument-clause-number
unfolding after_number
returns-in-NoDocument-clause-number c = refl

pub returns-in-OutOfMemory-clause-number : goal.returns-in-OutOfMemory-clause-number
unfolding after_number
returns-in-OutOfMemory-clause-number c = refl

pub returns-in-NotInitialized-clause-number : goal.returns-in-NotInitialized-clause-number
unfolding after_number
returns-in-NotInitialized-clause-number c = refl

pub returns-in-UnknownText-clause-number : goal.returns-in-UnknownText-clause-number
unfolding after_number
returns-in-UnknownText-clause-number c = refl

pub returns-in-NoName-clause-number : goal.returns-in-NoName-clause-number
unfolding after_number
returns-in-NoName-clause-number c = refl
