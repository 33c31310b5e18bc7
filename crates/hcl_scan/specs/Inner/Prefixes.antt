-- The kinds that the first two bytes of a text allow: an own choice, which makes each step of the scanner short.
use Rattle.std.specs.Prelude.{ℕ, ◌==◌, ◌||◌, ◌&&◌, List, if◌then◌else◌, get_or}
use Rattle.std.specs.Char.{is_ascii_digit}
use Rattle.hcl_tokens.specs.Spelling.{is_blank}
use Rattle.hcl_tokens.specs.SideBySide.{may_begin_ident}
use Rattle.hcl_scan.specs.declared.front.Prefix.{Prefix}
use Rattle.hcl_scan.specs.declared.front.Prefix.TheVariants.{LineEnd, Space, Letter, Digit, HashOrSlashes, SlashStar, OneSlash, LessLess, Closer, Sign}

abbrev pub slash_prefix : ℕ → Prefix
slash_prefix second = if second == 47 then HashOrSlashes else (if second == 42 then SlashStar else OneSlash)

abbrev pub prefix_bytes : ℕ → ℕ → Prefix
prefix_bytes first second =
    if may_begin_ident first then Letter
    else (if is_ascii_digit first then Digit
    else (if (first == 10) || (first == 13) then LineEnd
    else (if is_blank first then Space
    else (if first == 35 then HashOrSlashes
    else (if first == 47 then slash_prefix second
    else (if (first == 60) && (second == 60) then LessLess
    else (if (first == 125) || (first == 126) then Closer
    else Sign)))))))

abbrev pub prefix_of : List ℕ → Prefix
prefix_of text = prefix_bytes (get_or text 0 0) (get_or text 1 0)
