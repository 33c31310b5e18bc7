use Rattle.std.proofs.Common.{subst, refl, sym, ap, ◌∙◌, get_or}
use Rattle.std.specs.List.{prefix_len}
use Rattle.hcl_scan.specs.Inner.Found.{CloserText}
use Rattle.hcl_scan.specs.declared.front.Prefix.TheVariants.{LineEnd, Space, Letter, Digit, HashOrSlashes, SlashStar, OneSlash, LessLess, Closer}
use Rattle.hcl_tokens.specs.declared.token.Kind.{Kind}
use Rattle.hcl_tokens.specs.declared.token.Kind.TheVariants.{Newline, InlineComment, Blank, Number}
use Rattle.hcl_scan.proofs.ExpressionTextLemmas.{Reading, some_found, none_found, some_cut, kind_found, kind_none, kind_cut, comment_none, slash_found, slash_cut, line_comment, line_reading, space_reading, letter_reading, digit_reading, closer_reading, star_reading}
use Rattle.hcl_scan.proofs.PrefixLemmas.{letter_begins}
use Rattle.hcl_scan.proofs.FrontLemmas.{led_by, no_mark}
use Rattle.hcl_scan.proofs.CommentTextLemmas.{goes_on}
use Rattle.hcl_scan.proofs.TextCutLemmas.{newline_low, blanks_low, number_low, closer_low, inline_low, line_cut}
use Rattle.hcl_scan.proofs.expression.token_by_prefix.Goals as goal

pub returns-in-LineEnd-clause-found : goal.returns-in-LineEnd-clause-found
returns-in-LineEnd-clause-found c =
    kind_found c.args.around.after_dot c.args.around.inside_heredoc c.args.around.closes_sequence c.args.seen.now c.as_bytes-bytes.result.now c.found_newline.result (line_reading c.args.around.after_dot c.args.around.inside_heredoc c.args.around.closes_sequence) (led_by c.args.seen.now c.args.prefix LineEnd c.requires c.in-LineEnd.is) c.as_bytes-bytes.ensures.value c.found_newline.ensures.found

pub returns-in-LineEnd-clause-boundary : goal.returns-in-LineEnd-clause-boundary
returns-in-LineEnd-clause-boundary c = kind_cut Newline c.args.seen.now c.as_bytes-bytes.result.now c.found_newline.result c.utf8.seen newline_low c.as_bytes-bytes.ensures.value c.found_newline.ensures.found

pub returns-in-LineEnd-clause-none : goal.returns-in-LineEnd-clause-none
returns-in-LineEnd-clause-none c =
    kind_none c.args.around.after_dot c.args.around.inside_heredoc c.args.around.closes_sequence c.args.seen.now c.as_bytes-bytes.result.now c.found_newline.result (line_reading c.args.around.after_dot c.args.around.inside_heredoc c.args.around.closes_sequence) (led_by c.args.seen.now c.args.prefix LineEnd c.requires c.in-LineEnd.is) refl c.as_bytes-bytes.ensures.value c.found_newline.ensures.none

pub returns-in-Space-clause-found : goal.returns-in-Space-clause-found
returns-in-Space-clause-found c =
    some_found c.args.around.after_dot c.args.around.inside_heredoc c.args.around.closes_sequence c.args.seen.now c.as_bytes-bytes.result.now c.found_as.result c.blank_len.result (space_reading c.args.around.after_dot c.args.around.inside_heredoc c.args.around.closes_sequence) (led_by c.args.seen.now c.args.prefix Space c.requires c.in-Space.is) c.as_bytes-bytes.ensures.value c.found_as.ensures.some c.blank_len.ensures.found

pub returns-in-Space-clause-boundary : goal.returns-in-Space-clause-boundary
returns-in-Space-clause-boundary c =
    some_cut Blank c.args.seen.now c.as_bytes-bytes.result.now c.found_as.result c.blank_len.result c.utf8.seen (blanks_low c.args.around.inside_heredoc) c.as_bytes-bytes.ensures.value c.found_as.ensures.some c.blank_len.ensures.found

pub returns-in-Space-clause-none : goal.returns-in-Space-clause-none
returns-in-Space-clause-none c =
    none_found c.args.around.after_dot c.args.around.inside_heredoc c.args.around.closes_sequence c.args.seen.now c.as_bytes-bytes.result.now c.found_as.result c.blank_len.result (space_reading c.args.around.after_dot c.args.around.inside_heredoc c.args.around.closes_sequence) (led_by c.args.seen.now c.args.prefix Space c.requires c.in-Space.is) refl c.as_bytes-bytes.ensures.value c.found_as.ensures.none c.blank_len.ensures.none

pub begun_ident-requires : goal.begun_ident-requires
begun_ident-requires c = letter_begins (get_or c.args.seen.now 0 0) (get_or c.args.seen.now 1 0) (led_by c.args.seen.now c.args.prefix Letter c.requires c.in-Letter.is)

pub returns-in-Letter-clause-found : goal.returns-in-Letter-clause-found
returns-in-Letter-clause-found c =
    kind_found c.args.around.after_dot c.args.around.inside_heredoc c.args.around.closes_sequence c.args.seen.now c.args.seen.now c.begun_ident.result (letter_reading c.args.around.after_dot c.args.around.inside_heredoc c.args.around.closes_sequence) (led_by c.args.seen.now c.args.prefix Letter c.requires c.in-Letter.is) refl c.begun_ident.ensures.found

pub returns-in-Letter-clause-none : goal.returns-in-Letter-clause-none
returns-in-Letter-clause-none c =
    kind_none c.args.around.after_dot c.args.around.inside_heredoc c.args.around.closes_sequence c.args.seen.now c.args.seen.now c.begun_ident.result (letter_reading c.args.around.after_dot c.args.around.inside_heredoc c.args.around.closes_sequence) (led_by c.args.seen.now c.args.prefix Letter c.requires c.in-Letter.is) refl refl c.begun_ident.ensures.none

pub returns-in-Digit-clause-found : goal.returns-in-Digit-clause-found
returns-in-Digit-clause-found c =
    some_found c.args.around.after_dot c.args.around.inside_heredoc c.args.around.closes_sequence c.args.seen.now c.as_bytes-bytes.result.now c.found_as-in-Digit.result c.numeral_len.result (digit_reading c.args.around.after_dot c.args.around.inside_heredoc c.args.around.closes_sequence) (led_by c.args.seen.now c.args.prefix Digit c.requires c.in-Digit.is) c.as_bytes-bytes.ensures.value c.found_as-in-Digit.ensures.some c.numeral_len.ensures.found

pub returns-in-Digit-clause-boundary : goal.returns-in-Digit-clause-boundary
returns-in-Digit-clause-boundary c =
    some_cut Number c.args.seen.now c.as_bytes-bytes.result.now c.found_as-in-Digit.result c.numeral_len.result c.utf8.seen (number_low c.args.around.after_dot) c.as_bytes-bytes.ensures.value c.found_as-in-Digit.ensures.some c.numeral_len.ensures.found

pub returns-in-Digit-clause-none : goal.returns-in-Digit-clause-none
returns-in-Digit-clause-none c =
    none_found c.args.around.after_dot c.args.around.inside_heredoc c.args.around.closes_sequence c.args.seen.now c.as_bytes-bytes.result.now c.found_as-in-Digit.result c.numeral_len.result (digit_reading c.args.around.after_dot c.args.around.inside_heredoc c.args.around.closes_sequence) (led_by c.args.seen.now c.args.prefix Digit c.requires c.in-Digit.is) refl c.as_bytes-bytes.ensures.value c.found_as-in-Digit.ensures.none c.numeral_len.ensures.none

pub returns-in-Closer-clause-found : goal.returns-in-Closer-clause-found
returns-in-Closer-clause-found c =
    some_found c.args.around.after_dot c.args.around.inside_heredoc c.args.around.closes_sequence c.args.seen.now c.as_bytes-bytes.result.now c.found_as-in-Closer.result c.closer_len.result (subst (λ (k : Kind). Reading c.args.around.after_dot c.args.around.inside_heredoc c.args.around.closes_sequence Closer k (CloserText c.args.around.closes_sequence)) (sym c.closer_kind.ensures) (closer_reading c.args.around.after_dot c.args.around.inside_heredoc c.args.around.closes_sequence)) (led_by c.args.seen.now c.args.prefix Closer c.requires c.in-Closer.is) c.as_bytes-bytes.ensures.value c.found_as-in-Closer.ensures.some c.closer_len.ensures.found

pub returns-in-Closer-clause-boundary : goal.returns-in-Closer-clause-boundary
returns-in-Closer-clause-boundary c =
    some_cut c.closer_kind.result c.args.seen.now c.as_bytes-bytes.result.now c.found_as-in-Closer.result c.closer_len.result c.utf8.seen (closer_low c.args.around.closes_sequence) c.as_bytes-bytes.ensures.value c.found_as-in-Closer.ensures.some c.closer_len.ensures.found

pub returns-in-Closer-clause-none : goal.returns-in-Closer-clause-none
returns-in-Closer-clause-none c =
    none_found c.args.around.after_dot c.args.around.inside_heredoc c.args.around.closes_sequence c.args.seen.now c.as_bytes-bytes.result.now c.found_as-in-Closer.result c.closer_len.result (closer_reading c.args.around.after_dot c.args.around.inside_heredoc c.args.around.closes_sequence) (led_by c.args.seen.now c.args.prefix Closer c.requires c.in-Closer.is) refl c.as_bytes-bytes.ensures.value c.found_as-in-Closer.ensures.none c.closer_len.ensures.none

pub returns-in-SlashStar-clause-found : goal.returns-in-SlashStar-clause-found
returns-in-SlashStar-clause-found c =
    some_found c.args.around.after_dot c.args.around.inside_heredoc c.args.around.closes_sequence c.args.seen.now c.as_bytes-bytes.result.now c.found_as-in-SlashStar.result c.inline_comment_len.result (star_reading c.args.around.after_dot c.args.around.inside_heredoc c.args.around.closes_sequence) (led_by c.args.seen.now c.args.prefix SlashStar c.requires c.in-SlashStar.is) c.as_bytes-bytes.ensures.value c.found_as-in-SlashStar.ensures.some c.inline_comment_len.ensures.found

pub returns-in-SlashStar-clause-boundary : goal.returns-in-SlashStar-clause-boundary
returns-in-SlashStar-clause-boundary c =
    some_cut InlineComment c.args.seen.now c.as_bytes-bytes.result.now c.found_as-in-SlashStar.result c.inline_comment_len.result c.utf8.seen inline_low c.as_bytes-bytes.ensures.value c.found_as-in-SlashStar.ensures.some c.inline_comment_len.ensures.found

pub returns-in-SlashStar-clause-none : goal.returns-in-SlashStar-clause-none
returns-in-SlashStar-clause-none c =
    comment_none c.args.around.after_dot c.args.around.inside_heredoc c.args.around.closes_sequence c.args.seen.now c.as_bytes-bytes.result.now c.found_as-in-SlashStar.result c.inline_comment_len.result (led_by c.args.seen.now c.args.prefix SlashStar c.requires c.in-SlashStar.is) c.as_bytes-bytes.ensures.value c.found_as-in-SlashStar.ensures.none c.inline_comment_len.ensures.none

pub returns-in-HashOrSlashes-clause-found : goal.returns-in-HashOrSlashes-clause-found
returns-in-HashOrSlashes-clause-found c = line_comment c.args.around.after_dot c.args.around.inside_heredoc c.args.around.closes_sequence c.args.seen.now c.line_len.result (led_by c.args.seen.now c.args.prefix HashOrSlashes c.requires c.in-HashOrSlashes.is) (c.line_len.ensures.count ∙ ap (prefix_len goes_on) c.as_bytes-bytes.ensures.value)

pub returns-in-HashOrSlashes-clause-boundary : goal.returns-in-HashOrSlashes-clause-boundary
returns-in-HashOrSlashes-clause-boundary c = line_cut c.args.seen.now c.line_len.result (c.line_len.ensures.count ∙ ap (prefix_len goes_on) c.as_bytes-bytes.ensures.value)

pub returns-in-OneSlash-clause-found : goal.returns-in-OneSlash-clause-found
returns-in-OneSlash-clause-found c = slash_found c.args.around.after_dot c.args.around.inside_heredoc c.args.around.closes_sequence c.args.seen.now (led_by c.args.seen.now c.args.prefix OneSlash c.requires c.in-OneSlash.is)

pub returns-in-OneSlash-clause-boundary : goal.returns-in-OneSlash-clause-boundary
returns-in-OneSlash-clause-boundary c = slash_cut c.args.seen.now c.utf8.seen (led_by c.args.seen.now c.args.prefix OneSlash c.requires c.in-OneSlash.is)

pub returns-in-LessLess-clause-found : goal.returns-in-LessLess-clause-found
returns-in-LessLess-clause-found c = c.opener_or_less.ensures.found c.args.around.after_dot c.args.around.inside_heredoc c.args.around.closes_sequence

pub opener_or_less-requires : goal.opener_or_less-requires
opener_or_less-requires c = (led_by c.args.seen.now c.args.prefix LessLess c.requires c.in-LessLess.is)

pub returns-in-Sign-clause-none : goal.returns-in-Sign-clause-none
returns-in-Sign-clause-none c = no_mark c.args.around.after_dot c.args.around.inside_heredoc c.args.around.closes_sequence c.args.seen.now c.args.prefix c.requires c.in-Sign.is
