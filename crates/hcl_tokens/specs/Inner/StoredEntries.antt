-- The entries of tokens as a `Tokens` stores them. The representation is our own choice: 8 bytes for each token, and a
-- second list with the spans of long tokens.
use Rattle.std.specs.Prelude.{◌≡◌, ℕ, ◌+◌, ◌<◌, ◌==◌, List, length, map, get_or, if◌then◌else◌}
use Rattle.hcl_tokens.specs.declared.token.TokenEntry.{TokenEntry}
use Rattle.hcl_tokens.specs.declared.entries.StoredEntry.{StoredEntry}
use Rattle.hcl_tokens.specs.declared.entries.Span.{Span}

-- the length that marks a long token
abbrev pub long_mark : ℕ
long_mark = 65535

-- the span of a token that isn't long
abbrev pub short_span : StoredEntry → Span
short_span k = record { start = k.place; length = k.length }

abbrev pub span_of : List Span → StoredEntry → Span
span_of long k = if k.length == long_mark then get_or long k.place (short_span k) else short_span k

abbrev pub entry_of : List Span → StoredEntry → TokenEntry
entry_of long k = record { start = (span_of long k).start; end = (span_of long k).start + (span_of long k).length; kind = k.kind; inside_heredoc = k.inside_heredoc }

abbrev pub entries_of : List Span → List StoredEntry → List TokenEntry
entries_of long ks = map (entry_of long) ks

-- the entry has this span
pub record HasSpan (e : TokenEntry) (s : Span) : Type 0 where
  pub start : s.start ≡ e.start
  pub end : s.start + s.length ≡ e.end

-- the stored entry of a long token names a span of the second list
pub record IsStored (long : List Span) (k : StoredEntry) : Type 0 where
  pub found : k.length ≡ long_mark → k.place < length long
