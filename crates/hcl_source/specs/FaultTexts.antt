-- The words of messages for each kind of fault: our own choice.
use Rattle.std.specs.Prelude.{ℕ, List, codes}
use Rattle.hcl_source.specs.declared.fault.FaultKind.{FaultKind}
use Rattle.hcl_source.specs.declared.fault.FaultKind.TheVariants.{TooLarge, InvalidUtf8, ByteOrderMark, InvalidCharacter, UnterminatedQuote, UnterminatedComment, UnterminatedHeredoc, UnterminatedTemplate, InvalidEscape, TooDeep, UnexpectedToken, UnexpectedEnd, ResultTooLarge}

abbrev pub fault_text : FaultKind → List ℕ
fault_text TooLarge = codes "source too large"
fault_text InvalidUtf8 = codes "invalid UTF-8"
fault_text ByteOrderMark = codes "byte order mark"
fault_text InvalidCharacter = codes "invalid character"
fault_text UnterminatedQuote = codes "unterminated quote"
fault_text UnterminatedComment = codes "unterminated comment"
fault_text UnterminatedHeredoc = codes "unterminated heredoc"
fault_text UnterminatedTemplate = codes "unterminated template"
fault_text InvalidEscape = codes "invalid escape"
fault_text TooDeep = codes "too deep"
fault_text UnexpectedToken = codes "unexpected token"
fault_text UnexpectedEnd = codes "unexpected end"
fault_text ResultTooLarge = codes "result too large"
