use Rattle.std.proofs.Common.{◌≡◌, ◌<◌, ℕ, false, List, length, drop, get_or, slice_range, sym, ap, subst, ◌∙◌, IsUtf8}
use Rattle.hcl_tokens.specs.Lexemes.{marker_of}
use Rattle.hcl_tokens.specs.Spelling.{is_blank}
use Rattle.hcl_tokens.specs.Scans.{IsMarkerLine, IsFirstMarkerLine, closer_len}
use Rattle.hcl_scan.proofs.HeredocStepLemmas.{deep_heredoc, is_full, has_room, marker_some, marker_begins, no_line, opens_heredoc}
use Rattle.hcl_scan.proofs.scanner.Scanner.read_heredoc.Goals as goal

pub returns-then-is_full-clause-stopped : goal.returns-then-is_full-clause-stopped
returns-then-is_full-clause-stopped c = deep_heredoc c.args.self.now c.args.entry c.requires.next (is_full (length c.args.self.now.stack) (sym c.is_full.ensures.full ∙ c.if-is_full.true)) c.requires.heredoc

pub marker_line-requires-clause-some : goal.marker_line-requires-clause-some
marker_line-requires-clause-some c =
    subst (λ l. 0 < length l) (sym (c.marker_of-marker.ensures ∙ ap marker_of (c.as_bytes.ensures.value ∙ c.range.ensures.value)))
    (marker_some c.args.self.now c.args.entry c.requires.sound c.requires.next c.requires.heredoc)

pub marker_line-requires-clause-begins : goal.marker_line-requires-clause-begins
marker_line-requires-clause-begins c =
    subst (λ l. is_blank (get_or l 0 0) ≡ false) (sym (c.marker_of-marker.ensures ∙ ap marker_of (c.as_bytes.ensures.value ∙ c.range.ensures.value)))
    (marker_begins c.args.self.now c.args.entry c.requires.sound c.requires.next c.requires.heredoc)

pub returns-in_default-clause-stopped : goal.returns-in_default-clause-stopped
returns-in_default-clause-stopped c =
    let marker_is = c.marker_of-marker.ensures ∙ ap marker_of (c.as_bytes.ensures.value ∙ c.range.ensures.value) in
    let rest_is = c.as_bytes-rest.ensures.value ∙ c.range-2.ensures.value in
    no_line c.args.self.now c.args.entry c.requires.sound c.requires.next c.requires.heredoc
    (has_room (length c.args.self.now.stack) c.is_full.ensures.small (sym c.is_full.ensures.full ∙ c.if-is_full.false))
    (λ n. subst (λ r. ¬ IsMarkerLine (marker_of (slice_range c.args.self.now.text.now c.args.entry.start c.args.entry.end)) r n) rest_is
    (subst (λ m. ¬ IsMarkerLine m c.as_bytes-rest.result.now n) marker_is (c.in_default.ensures.none n)))

pub returns-clause-read : goal.returns-clause-read
returns-clause-read c =
    let word : List ℕ = slice_range c.args.self.now.text.now c.args.entry.start c.args.entry.end in
    let rest : List ℕ = slice_range c.args.self.now.text.now c.args.entry.end c.args.self.now.end in
    let marker_is : c.marker_of-marker.result.now ≡ marker_of word = c.marker_of-marker.ensures ∙ ap marker_of (c.as_bytes.ensures.value ∙ c.range.ensures.value) in
    let rest_is : c.as_bytes-rest.result.now ≡ rest = c.as_bytes-rest.ensures.value ∙ c.range-2.ensures.value in
    let hidden_is : c.split_at.result.1.now ≡ drop c.in-Some.line rest = c.split_at.ensures.back ∙ ap (drop c.in-Some.line) rest_is in
    let first : IsFirstMarkerLine (marker_of word) rest c.in-Some.line = subst (λ r. IsFirstMarkerLine (marker_of word) r c.in-Some.line) rest_is (subst (λ m. IsFirstMarkerLine m c.as_bytes-rest.result.now c.in-Some.line) marker_is c.in-Some.ensures.found) in
    let len_is : c.closer_len.result ≡ closer_len (marker_of word) (drop c.in-Some.line rest) = c.closer_len.ensures.value ∙ (λ i. closer_len (marker_is i) (hidden_is i)) in
    rw (c.no-self.ensures) (opens_heredoc c.args.self.now c.args.entry c.requires.sound c.requires.next c.requires.heredoc c.in-Some.line (subst (λ r. IsUtf8 r) rest_is c.as_bytes-rest.ensures.utf8)
    (has_room (length c.args.self.now.stack) c.is_full.ensures.small (sym c.is_full.ensures.full ∙ c.if-is_full.false)) first c.closer_len.result len_is c.open.new.self c.open.ensures)
