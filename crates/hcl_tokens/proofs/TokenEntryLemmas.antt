-- Stored entries stand for the same entries after one more long token is added.
use Rattle.std.proofs.Common.{◌≡◌, ℕ, ◌+◌, ◌<◌, ◌==◌, Bool, true, false, List, [], ◌∷◌, ◌++◌, length, get_or, slice_get, if◌then◌else◌, Some, rules, arith, refl, sym, ap, ◌∙◌, slice_set}
use Rattle.std.specs.Prelude.{All, slice_range}
use Rattle.std.proofs.lemmas.Option.{slice_get-get_or}
use Rattle.std.proofs.lemmas.List.{length-map, get_or_append_left, get_or_push, map_push}
use Rattle.std.proofs.lemmas.List.Elements.{All-get_or, All-head, All-tail}
use Rattle.std.proofs.Math.Seq.{set-append_seam}
use Rattle.hcl_tokens.specs.Inner.StoredEntries.{span_of, entry_of, entries_of, short_span, long_mark, HasSpan, IsStored}
use Rattle.hcl_tokens.specs.Entries.{IsEntry, lexeme_of, lexemes_of}
use Rattle.hcl_tokens.specs.declared.token.Kind.{Kind}
use Rattle.hcl_tokens.specs.declared.token.Kind.TheVariants.{Newline}
use Rattle.hcl_tokens.specs.declared.token.TokenEntry.{TokenEntry}
use Rattle.hcl_tokens.specs.declared.entries.StoredEntry.{StoredEntry}
use Rattle.hcl_tokens.specs.declared.entries.Span.{Span}

-- the entry of a stored entry whose token has this span
abbrev pub entry_at : StoredEntry → Span → TokenEntry
entry_at k s = record { start = s.start; end = s.start + s.length; kind = k.kind; inside_heredoc = k.inside_heredoc }

-- the entry with another end
abbrev pub ended : TokenEntry → ℕ → TokenEntry
ended e n = record { start = e.start; end = n; kind = e.kind; inside_heredoc = e.inside_heredoc }

module _ (long : List Span) (s : Span) where
  span_still : (k : StoredEntry) → IsStored long k → span_of (long ++ s ∷ []) k ≡ span_of long k
  span_still k is = by (k.length == long_mark) refl
    where
      by : (v : Bool) → (k.length == long_mark) ≡ v → (if v then get_or (long ++ s ∷ []) k.place (short_span k) else short_span k) ≡ (if v then get_or long k.place (short_span k) else short_span k)
      by true h = get_or_append_left long (s ∷ []) (short_span k) k.place (is.found (search rules))
      by false h = refl

  all_still : (ks : List StoredEntry) → All (IsStored long) ks → entries_of (long ++ s ∷ []) ks ≡ entries_of long ks
  all_still [] are = refl
  all_still (k ∷ ks) are = let one = ap (entry_at k) (span_still k (All-head (IsStored long) k ks are)) in let rest = all_still ks (All-tail (IsStored long) k ks are) in cc

  -- the stored entry of the long token that is added
  pub long_pushed : (ks : List StoredEntry) (k : StoredEntry) → All (IsStored long) ks → k.length ≡ long_mark → k.place ≡ length long → entries_of (long ++ s ∷ []) (ks ++ k ∷ []) ≡ entries_of long ks ++ entry_at k s ∷ []
  long_pushed ks k are marked last =
      let itself : span_of (long ++ s ∷ []) k ≡ s = ap (λ n. if n == long_mark then get_or (long ++ s ∷ []) k.place (short_span k) else short_span k) marked ∙ get_or_push long s (short_span k) k.place (sym last) in
      map_push (entry_of (long ++ s ∷ [])) ks k ∙ ap (λ l. l ++ entry_of (long ++ s ∷ []) k ∷ []) (all_still ks are) ∙ ap (λ x. entries_of long ks ++ entry_at k x ∷ []) itself

-- a stored entry of a token that isn't long, written over one that was pushed
pub short_pushed : (long : List Span) (ks : List StoredEntry) (put k : StoredEntry) → (k.length == long_mark) ≡ false
    → entries_of long (slice_set (ks ++ put ∷ []) (length ks) k) ≡ entries_of long ks ++ entry_at k (short_span k) ∷ []
short_pushed long ks put k short =
    let itself : entry_of long k ≡ entry_at k (short_span k) = ap (λ v. entry_at k (if v then get_or long k.place (short_span k) else short_span k)) short in
    ap (entries_of long) (set-append_seam ks put [] k) ∙ map_push (entry_of long) ks k ∙ ap (λ x. entries_of long ks ++ x ∷ []) itself

-- the entry of this number, and that a span is its own
pub record HasEntry (text : List ℕ) (es : List TokenEntry) (i : ℕ) (s : Span) : Type 0 where
  pub entry : TokenEntry
  pub at : slice_get es i ≡ Some entry
  pub has : HasSpan entry s
  pub is : IsEntry text entry

pub entry_in : (text : List ℕ) (es : List TokenEntry) (i : ℕ) (s : Span) → i < length (lexemes_of text es) → All (IsEntry text) es
    → ((e : TokenEntry) → slice_get es i ≡ Some e → HasSpan e s) → HasEntry text es i s
entry_in text es i s within are has =
    let none : TokenEntry = record { kind = Newline; inside_heredoc = false; start = 0; end = 0 } in
    let inside : i < length es = omega (arith, within, length-map es (lexeme_of text)) in
    let at = slice_get-get_or es i none inside in
    record { entry = get_or es i none; at = at; has = has (get_or es i none) at; is = All-get_or (IsEntry text) es i none inside are }

-- a token read from the span, the kind and the place of an entry is the entry's
pub token_is : (text : List ℕ) (e : TokenEntry) (s : Span) (kind : Kind) (inside : Bool) (read : List ℕ) → HasSpan e s → kind ≡ e.kind → inside ≡ e.inside_heredoc
    → read ≡ slice_range text s.start (s.start + s.length) → lexeme_of text e ≡ record { kind = kind; text = read; start = s.start; inside_heredoc = inside }
token_is text e s kind inside read has k h is =
    let start = has.start in
    let cut = is ∙ ap (λ n. slice_range text s.start n) has.end ∙ ap (λ n. slice_range text n e.end) start in
    cc
