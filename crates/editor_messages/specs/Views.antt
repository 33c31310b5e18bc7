-- Messages as the code has them.
use Rattle.std.specs.Prelude.{ℕ, List, Option, Some, None, option_map, string_bytes}
use Rattle.std.specs.Borrow.{Bor}
use Rattle.json.specs.Json.{Json, null, number, string}
use Rattle.json.specs.Tree.{HasNumbers}
use Rattle.editor_messages.specs.Messages.{DocumentPlace, Message, Notification, Request}
use Rattle.editor_messages.specs.Names.{DocumentRanges}
use Rattle.editor_messages.specs.Diagnostics.{Diagnostic}
use Rattle.editor_messages.specs.Messages as spec
use Rattle.editor_messages.specs.declared.diagnostic.Diagnostic.{Diagnostic as DiagnosticOf}
use Rattle.editor_messages.specs.declared.message.DocumentPlace.{DocumentPlace as DocumentPlaceOf}
use Rattle.editor_messages.specs.declared.message.Id.{Id}
use Rattle.editor_messages.specs.declared.message.Id.TheVariants as id
use Rattle.editor_messages.specs.declared.message.Message.{Message as MessageOf}
use Rattle.editor_messages.specs.declared.message.Message.TheVariants as message
use Rattle.editor_messages.specs.declared.message.Notification.{Notification as NotificationOf}
use Rattle.editor_messages.specs.declared.message.Notification.TheVariants as notification
use Rattle.editor_messages.specs.declared.message.Request.{Request as RequestOf}
use Rattle.editor_messages.specs.declared.message.Request.TheVariants as request
use Rattle.editor_messages.specs.declared.range.DocumentRanges.{DocumentRanges as DocumentRangesOf}

abbrev pub text_seen : Option (Bor (List ℕ)) → Option (List ℕ)
text_seen text = option_map (λ s. s.now) text

abbrev pub id_seen : Id → Json
id_seen id.Null = null
id_seen (id.Number s) = number s.now
id_seen (id.Text s) = string s.now

abbrev pub place_seen : Option DocumentPlaceOf → Option DocumentPlace
place_seen at = option_map (λ p. record { uri = p.uri.now; place = p.place }) at

abbrev pub request_seen : RequestOf → Request
request_seen (request.Initialize abilities) = spec.Initialize abilities
request_seen request.Shutdown = spec.Shutdown
request_seen (request.Formatting uri) = spec.Formatting (text_seen uri)
request_seen (request.Symbols uri) = spec.Symbols (text_seen uri)
request_seen (request.Folds uri) = spec.Folds (text_seen uri)
request_seen (request.Definition at) = spec.Definition (place_seen at)
request_seen (request.References at with_declarations) =
    spec.References (place_seen at) with_declarations
request_seen (request.PrepareRename at) = spec.PrepareRename (place_seen at)
request_seen (request.Rename at name) = spec.Rename (place_seen at) (text_seen name)
request_seen request.Unknown = spec.Unknown

abbrev pub notification_seen : NotificationOf → Notification
notification_seen (notification.Text uri version text) =
    spec.Text uri.now version (text_seen text)
notification_seen (notification.Close uri) = spec.Close uri.now
notification_seen notification.Exit = spec.Exit
notification_seen notification.Other = spec.Other

abbrev pub message_seen : MessageOf → Message
message_seen (message.Invalid id) = spec.Invalid (id_seen id)
message_seen message.Response = spec.Response
message_seen (message.Asks id request) = spec.Asks (id_seen id) (request_seen request)
message_seen (message.Tells notification) = spec.Tells (notification_seen notification)

abbrev pub diagnostic_seen : DiagnosticOf → Diagnostic
diagnostic_seen d = record { range = d.range; rule = d.rule; text = d.text.now }

abbrev pub document_ranges_seen : DocumentRangesOf → DocumentRanges
document_ranges_seen d = record {
  uri = string_bytes d.uri;
  version = d.version;
  ranges = d.ranges.items;
}

-- the number in an id is one
abbrev pub HasNumber : MessageOf → Type 0
HasNumber (message.Invalid id) = HasNumbers (id_seen id)
HasNumber message.Response = Unit {0}
HasNumber (message.Asks id request) = HasNumbers (id_seen id)
HasNumber (message.Tells notification) = Unit {0}

abbrev pub HaveNumber : Option Id → Type 0
HaveNumber None = Unit {0}
HaveNumber (Some id) = HasNumbers (id_seen id)
