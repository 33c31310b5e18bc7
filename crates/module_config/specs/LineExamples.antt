-- Lines and texts, by computation.
use Rattle.std.specs.Prelude.{◌≡◌, ℕ, refl, true, List, [], ◌∷◌, Some, Ok, Err, codes}
use Rattle.std.specs.Str.{chars, trim_end, trim_start}
use Rattle.std.specs.Str.Lossy.{utf8_lossy}
use Rattle.tf_rules.specs.declared.naming.Naming.TheVariants.{MixedSnakeCase}
use Rattle.module_config.specs.Lines.{without_comment, no_options, parts, with_line}
use Rattle.module_config.specs.Reads.{read_text}
use Rattle.module_config.specs.Texts.{fault_words}
use Rattle.module_config.specs.declared.line_fault.ConfigFault.TheVariants.{UnknownOption, GivenTwice, UnknownRule, NoRuleLeft, UnknownNaming, UnknownSeverity}

no_comment : without_comment (codes "  --force # so\r") ≡ codes "--force"
unfolding chars trim_start trim_end lib.Utf8.encode
no_comment = refl

blank : with_line no_options (codes " \t# all\r") ≡ Ok no_options
unfolding chars trim_start trim_end lib.Utf8.encode
blank = refl

by_blanks : parts (codes "--rules   all") ≡ (codes "--rules", codes "all")
unfolding chars trim_start trim_end lib.Utf8.encode
by_blanks = refl

by_tab : parts (codes "--rules\tall") ≡ (codes "--rules", codes "all")
unfolding chars trim_start trim_end lib.Utf8.encode
by_tab = refl

by_equals : parts (codes "--rules=all,-x") ≡ (codes "--rules", codes "all,-x")
unfolding chars trim_start trim_end lib.Utf8.encode
by_equals = refl

alone : parts (codes "--force") ≡ (codes "--force", [])
unfolding chars trim_start trim_end lib.Utf8.encode
alone = refl

bogus : with_line no_options (codes "--null") ≡ Err UnknownOption
unfolding chars trim_start trim_end lib.Utf8.encode
bogus = refl

bare_word : with_line no_options (codes "force") ≡ Err UnknownOption
unfolding chars trim_start trim_end lib.Utf8.encode
bare_word = refl

valueless : with_line no_options (codes "--rules") ≡ Err UnknownRule
unfolding chars trim_start trim_end lib.Utf8.encode
valueless = refl

none_left : with_line no_options (codes "--rules default,-all") ≡ Err NoRuleLeft
unfolding chars trim_start trim_end lib.Utf8.encode
none_left = refl

two_on_a_line : with_line no_options (codes "--naming snake_case --force") ≡ Err UnknownNaming
unfolding chars trim_start trim_end lib.Utf8.encode
two_on_a_line = refl

not_severe : with_line no_options (codes "--minimum-failure-severity *") ≡ Err UnknownSeverity
unfolding chars trim_start trim_end lib.Utf8.encode
not_severe = refl

checked : with_line no_options (codes "--check-comments # so") ≡ Ok (record no_options { checks = true })
unfolding chars trim_start trim_end lib.Utf8.encode
checked = refl

checked_twice : with_line (record no_options { checks = true }) (codes "--check-comments") ≡ Err GivenTwice
unfolding chars trim_start trim_end lib.Utf8.encode
checked_twice = refl

forced_so : with_line no_options (codes "--force=yes") ≡ Err UnknownOption
unfolding chars trim_start trim_end lib.Utf8.encode
forced_so = refl

-- two good lines, and the number of each bad one: the last is a second `--force`
abbrev few : List ℕ
few = codes "--x\n--force\n--naming=mixed_snake_case\n--force"

all_bad_lines : read_text few ≡ record { said = record no_options { naming = Some MixedSnakeCase; force = true }; lines = 4; faults = (1, utf8_lossy (codes "no option of a project: \"--x\"")) ∷ (4, utf8_lossy (codes "given twice: \"--force\"")) ∷ [] }
unfolding chars trim_start trim_end lib.Utf8.encode
all_bad_lines = refl

first_unknown : fault_words UnknownRule (codes "--rules all,-x,y # so") ≡ utf8_lossy (codes "unknown rule \"x\"")
unfolding chars trim_start trim_end lib.Utf8.encode
first_unknown = refl

by_letter : fault_words UnknownNaming (codes "--naming=a\"b") ≡ utf8_lossy (codes "unknown naming \"a\\\"b\"")
unfolding chars trim_start trim_end lib.Utf8.encode
by_letter = refl
