-- The print before names with `::`: the table of spacing had no row for that kind, and no colons that would join.
-- Everything else was as it is now, so only the definitions that depend on the table are repeated (`Spacing`, `Gaps`
-- and `Print`).
use Rattle.std.specs.Prelude.{◌&&◌, ◌||◌, ℕ, Bool, true, false, not, List, [], ◌∷◌, map, Option, Some, None, if◌then◌else◌, codes}
use Rattle.std.specs.List.{flat_map}
use Rattle.std.specs.Str.{bytes_eq}
use Rattle.hcl_tokens.specs.Lexemes.{Lexeme}
use Rattle.hcl_tokens.specs.Kinds.{is}
use Rattle.hcl_tokens.specs.declared.token.Kind.TheVariants as kind
use Rattle.hcl_layout.specs.Lines.{Line, lines}
use Rattle.hcl_layout.specs.Levels.{levels, net_of}
use Rattle.hcl_layout.specs.Cells.{assign_cell, running_comment, trailing_comment}
use Rattle.hcl_layout.specs.Gaps.{aligned_gaps, indent, zip_with}
use Rattle.hcl_layout.specs.Print.{printed_text}
use Rattle.hcl_spacing.specs.Spacing.{begins_with_equals, closes_group, ends_operand, is_in, is_opening, opens_sequence, follows_kind}

abbrev pub would_have_joined : Option Lexeme → Lexeme → Lexeme → Bool
would_have_joined before subject after =
    (is kind.Dot subject.kind && (is kind.Dot after.kind || is kind.Ellipsis after.kind))
    || (is kind.Number subject.kind && not (follows_kind (is kind.Dot) before)
    && is kind.Dot after.kind)
    || (is kind.Not subject.kind && begins_with_equals after.text)
    || (opens_sequence subject.kind && is kind.SeqClose after.kind
    && bytes_eq after.text (codes "~}"))

abbrev pub had_blank : Option Lexeme → Lexeme → Lexeme → Bool
had_blank before subject after =
    if is kind.Newline after.kind || after.inside_heredoc then false
    else if would_have_joined before subject after then true
    else if is kind.Ident subject.kind && is kind.ParenOpen after.kind then false
    else if is kind.Dot subject.kind || is kind.Dot after.kind then false
    else if is kind.Comma after.kind || is kind.Ellipsis after.kind then false
    else if is kind.Comma subject.kind then true
    else if is kind.QuoteOpen subject.kind || is kind.Lit subject.kind || is kind.Lit after.kind
    || is kind.QuoteClose after.kind then false
    else if is_in before subject then true
    else if is kind.BracketOpen after.kind && ends_operand subject.kind then false
    else if is kind.Not subject.kind then false
    else if is kind.Minus subject.kind then not (is_opening before)
    else if is kind.BraceOpen subject.kind && is kind.BraceClose after.kind then false
    else if is kind.BraceOpen subject.kind || is kind.BraceClose after.kind then true
    else if (opens_sequence subject.kind && is kind.BraceOpen after.kind)
    || (is kind.BraceClose subject.kind && is kind.SeqClose after.kind) then true
    else if is kind.SeqClose subject.kind && opens_sequence after.kind then false
    else if is kind.ParenOpen subject.kind || is kind.BracketOpen subject.kind
    || opens_sequence subject.kind then false
    else not (closes_group after.kind)

abbrev pub were_gaps_after : Option Lexeme → Lexeme → Line → List ℕ
were_gaps_after before subject [] = []
were_gaps_after before subject (after ∷ line) =
    (if had_blank before subject after then 1 else 0) ∷ were_gaps_after (Some subject) after line

abbrev pub were_plain_gaps : ℕ → Line → List ℕ
were_plain_gaps level [] = []
were_plain_gaps level (t ∷ line) = indent level t ∷ were_gaps_after None t line

abbrev pub were_line_gaps : List Line → List (List ℕ)
were_line_gaps ls =
    aligned_gaps trailing_comment running_comment
    (aligned_gaps assign_cell assign_cell (zip_with were_plain_gaps (levels (map net_of ls)) ls) ls)
    ls

abbrev pub was_print : List Lexeme → List ℕ
was_print ts = printed_text (flat_map (λ g. g) (were_line_gaps (lines ts))) ts
