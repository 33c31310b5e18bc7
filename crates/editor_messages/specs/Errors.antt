-- The errors that answer a message: their codes (JSON-RPC 2.0, section 5.1; Language Server Protocol 3.17, `ErrorCodes`)
-- and their messages, which are our own choice.
use Rattle.std.specs.Prelude.{ℕ, List, codes}
use Rattle.editor_messages.specs.declared.error.ReplyError.{ReplyError}
use Rattle.editor_messages.specs.declared.error.ReplyError.TheVariants.{NotJson, NotRequest, InitializedAlready, ShutDown, UnknownMethod, NotInitialized, NoDocument, NoPlace, NoName, NotIdentifier, NoDeclaration, NameTaken, UnreadModule, LostText, UnknownText, OutOfMemory}

abbrev pub error_code : ReplyError → List ℕ
error_code NotJson = codes "-32700"
error_code NotRequest = codes "-32600"
error_code InitializedAlready = codes "-32600"
error_code ShutDown = codes "-32600"
error_code UnknownMethod = codes "-32601"
error_code NotInitialized = codes "-32002"
error_code NoDocument = codes "-32602"
error_code NoPlace = codes "-32602"
error_code NoName = codes "-32803"
error_code NotIdentifier = codes "-32602"
error_code NoDeclaration = codes "-32803"
error_code NameTaken = codes "-32803"
error_code UnreadModule = codes "-32803"
error_code LostText = codes "-32803"
error_code UnknownText = codes "-32801"
error_code OutOfMemory = codes "-32603"

abbrev pub error_text : ReplyError → List ℕ
error_text NotJson = codes "not JSON"
error_text NotRequest = codes "not a request"
error_text InitializedAlready = codes "initialized already"
error_text ShutDown = codes "shut down"
error_text UnknownMethod = codes "unknown method"
error_text NotInitialized = codes "not initialized"
error_text NoDocument = codes "no document is named"
error_text NoPlace = codes "no place in a document is named"
error_text NoName = codes "no name that can be changed is here"
error_text NotIdentifier = codes "the new name is not an identifier"
error_text NoDeclaration = codes "no file of the module declares this name"
error_text NameTaken = codes "the module has this name already"
error_text UnreadModule = codes "a file of the module is refused or cannot be read"
error_text LostText = codes "the text of an open document was lost"
error_text UnknownText = codes "the text of this document is not known"
error_text OutOfMemory = codes "out of memory"
