-- Places in documents as the code has them, and questions about the names there.
use Rattle.std.specs.Prelude.{Result, Ok, Err}
use Rattle.file_tree.specs.Files.{Files}
use Rattle.json.specs.Json.{Json}
use Rattle.editor_messages.specs.Views.{text_seen}
use Rattle.editor_messages.specs.declared.error.ReplyError.{ReplyError}
use Rattle.editor_session.specs.Names.{AreLocations, IsPrepared, IsRename, TextPlace}
use Rattle.editor_session.specs.Sessions.{Session}
use Rattle.editor_session.specs.declared.names.Question.{Question}
use Rattle.editor_session.specs.declared.names.Question.TheVariants.{Occurrences, Preparation, Renaming}
use Rattle.editor_session.specs.declared.names.TextPlace.{TextPlace as TextPlaceOf}

abbrev pub text_place_seen : TextPlaceOf → TextPlace
text_place_seen p = record { uri = p.uri.now; place = p.place; text = p.text.now }

abbrev pub placed_seen : Result TextPlaceOf ReplyError → Result TextPlace ReplyError
placed_seen (Ok p) = Ok (text_place_seen p)
placed_seen (Err error) = Err error

abbrev pub IsQuestionAnswer : Session → Files → Question → TextPlace → Result Json ReplyError → Type 0
IsQuestionAnswer s disk (Occurrences wanted) = AreLocations s disk wanted
IsQuestionAnswer s disk Preparation = IsPrepared s
IsQuestionAnswer s disk (Renaming new) = IsRename s disk (text_seen new)
