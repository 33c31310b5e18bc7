-- The part of a refused file's text that is shown: on a terminal, the line of the fault. Our own choice.
use Rattle.std.specs.Prelude.{◌&&◌, ℕ, Bool, true, false, List}
use Rattle.hcl_source.specs.declared.fault.Fault.{Fault}
use Rattle.hcl_source.specs.declared.fault.FaultKind.{FaultKind}
use Rattle.hcl_source.specs.declared.fault.FaultKind.TheVariants.{TooLarge, InvalidUtf8, ByteOrderMark, ResultTooLarge}
use Rattle.source_snippet.specs.Snippets.{snippet_if}

-- a fault of this kind is about a line of a text; others are about the whole file, or about bytes that are no text
abbrev pub is_about_line : FaultKind → Bool
is_about_line TooLarge = false
is_about_line InvalidUtf8 = false
is_about_line ByteOrderMark = false
is_about_line ResultTooLarge = false
is_about_line _ = true

-- the lines that are shown of bytes with this fault, if messages are read on a terminal
abbrev pub shown_line : Bool → List ℕ → Fault → List ℕ
shown_line shows bytes fault = snippet_if (shows && is_about_line fault.kind) bytes fault.at
