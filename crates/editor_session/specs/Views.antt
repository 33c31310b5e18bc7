-- The session as the code has it.
use Rattle.editor_session.specs.Sessions.{Session}
use Rattle.editor_session.specs.declared.session.Session.{Session as SessionOf}

abbrev pub session_seen : SessionOf → Session
session_seen s = record {
  phase = s.phase;
  units = s.units;
  takes_versions = s.takes_versions;
  documents = s.documents;
  has_lost = s.has_lost;
  shown = s.shown;
}
