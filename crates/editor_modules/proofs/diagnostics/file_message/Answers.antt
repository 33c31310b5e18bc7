use Rattle.editor_modules.proofs.diagnostics.file_message.Goals as goal

pub returns-in-Refused : goal.returns-in-Refused
returns-in-Refused c = rw c.in-Refused.is c.fault_message.ensures

pub returns-in-NoText : goal.returns-in-NoText
returns-in-NoText c = rw (c.in-NoText.is, ← c.text.ensures) c.front_message.ensures

pub returns-in-TooMuch : goal.returns-in-TooMuch
returns-in-TooMuch c = rw c.in-TooMuch.is c.front_message-in-TooMuch.ensures

pub returns-in-Unread : goal.returns-in-Unread
returns-in-Unread c = rw (c.in-Unread.is, ← c.text-in-Unread.ensures) c.front_message-in-Unread.ensures
