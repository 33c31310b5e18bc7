-- The words for a command without subcommands have one fault at most, which is a fault of the words themselves.
use Rattle.std.proofs.Common.{◌≡◌, ℕ, zero, suc, Bool, true, false, not, List, [], ◌∷◌, Option, Some, None, subst, sym}
use Rattle.std.specs.Prelude.{◌&&◌, ◌||◌, ◌==◌, if◌then◌else◌, nat_lt, length, drop, encode_utf8, slice_get, is_some}
use Rattle.std.specs.Option.{option_map_or}
use Rattle.std.specs.Str.{bytes_eq, chars}
use Rattle.clap.specs.Kinds.{Kinds, check_kinds, or_else, range_kinds, request_kinds, value_kinds, values_kinds}
use Rattle.clap.specs.Values.{refused_kind}
use Rattle.clap.specs.ValueTests.{accepts}
use Rattle.clap.specs.Lexer.{long_of, short_of}
use Rattle.clap.specs.Facts.{parser_of_value, unwrap_or_range}
use Rattle.clap.specs.Walk.{Held, Names, Rule, Step, Text, Waiting, Walk, action_of, arg_by_id, arg_by_index, arg_by_long, arg_by_short, attached_value, count_of, finished, has_row, is_empty, is_pending, most_values, nothing_held, reacted, settled, subcommand_met, takes_several, takes_values, values_or_missing, walk, walk_from, walked, with_default, word_met, idle, option, positional, next, trailing, subcommand, value}
use Rattle.clap.specs.Walk as clap
use Rattle.clap.specs.Simple.{App, Shape, argument_words, built}
use Rattle.clap.specs.Faults.{action_fault, bundle_step_fault, count_fault, default_fault, defaults_fault, fault_of, flag_word_fault, flags_fault, level_fault, long_fault, option_fault, react_fault, repeat_fault, set_fault, settle_fault, short_fault, step_fault, stray_fault, turn_fault, use_fault, values_fault, walk_fault, word_fault}
use Rattle.clap.specs.declared.builder.value_parser.ValueParser.{ValueParser}
use Rattle.clap.specs.declared.builder.value_parser.ValueParser.TheVariants as vp
use Rattle.clap.specs.declared.builder.action.ArgAction.{ArgAction}
use Rattle.clap.specs.declared.builder.action.ArgAction.TheVariants.{Set, Append, SetTrue, SetFalse, Count, Help, HelpShort, HelpLong, Version}
use Rattle.clap.proofs.FaultLemmas.{leaf_fault}
use Rattle.command_line.specs.Faults.{One}

one_else : (a b : Kinds) → One a → One b → One (or_else a b)
one_else [] b p q = q
one_else (k ∷ ks) b p q = p

one_if : (t : Bool) (a b : Kinds) → One a → One b → One (if t then a else b)
one_if true a b p q = p
one_if false a b p q = q

one_option : {X : Type 0} (f : X → Kinds) (o : Option X) (d : Kinds) → ((x : X) → One (f x)) → One d → One (option_map_or f o d)
one_option f None d p q = q
one_option f (Some x) d p q = p x

one_refused : (p : ValueParser) → One (refused_kind p ∷ [])
one_refused vp.String = tt
one_refused vp.NonEmptyString = tt
one_refused vp.Bool = tt
one_refused vp.Boolish = tt
one_refused vp.Falsey = tt
one_refused (vp.Signed least most) = tt
one_refused (vp.Unsigned least most) = tt
one_refused vp.Float = tt
one_refused vp.Char = tt
one_refused (vp.Names names) = tt
one_refused (vp.Values values) = tt

one_value : (i : Bool) (p : ValueParser) (t : Text) → One (value_kinds i p t)
one_value i p t = one_if (accepts i p t) [] (refused_kind p ∷ []) tt (one_refused p)

one_values : (i : Bool) (p : ValueParser) (vs : List Text) → One (values_kinds i p vs)
one_values i p [] = tt
one_values i p (v ∷ vs) = one_else (value_kinds i p v) (values_kinds i p vs) (one_value i p v) (one_values i p vs)

one_range : (least most n : ℕ) → One (range_kinds least most n)
one_range least most n =
    one_if (nat_lt 0 least && n == 0) _ _ tt
    (one_if (least == most) _ _ (one_if (least == n) _ _ tt tt)
    (one_if (nat_lt n least) _ _ tt (one_if (nat_lt most n) _ _ tt tt)))

one_request : (a : ArgAction) → One (request_kinds a)
one_request Set = tt
one_request Append = tt
one_request SetTrue = tt
one_request SetFalse = tt
one_request Count = tt
one_request Help = tt
one_request HelpShort = tt
one_request HelpLong = tt
one_request Version = tt

one_set : (again : Bool) (a : Rule) (values : List Text) (rows : List clap.Row) → One (set_fault again a values rows)
one_set again a values rows = one_else (repeat_fault again a.id rows) (values_fault a values)
    (one_if (has_row a.id rows && not again) _ _ tt tt) (one_values a.ignore_case (parser_of_value a.parser) values)

one_count : (a : Rule) (values : List Text) (rows : List clap.Row) → One (count_fault a values rows)
one_count a [] rows = one_value a.ignore_case (parser_of_value a.parser) _
one_count a (v ∷ vs) rows = one_values a.ignore_case (parser_of_value a.parser) (v ∷ vs)

one_action : (x : ArgAction) (again : Bool) (a : Rule) (values : List Text) (rows : List clap.Row) → One (action_fault x again a values rows)
one_action Set again a values rows = one_set again a values rows
one_action SetTrue again a values rows = one_set again a values rows
one_action SetFalse again a values rows = one_set again a values rows
one_action Append again a values rows = one_values a.ignore_case (parser_of_value a.parser) values
one_action Count again a values rows = one_count a values rows
one_action other again a values rows = one_request other

one_use : (again : Bool) (a : Rule) (values : List Text) (rows : List clap.Row) → One (use_fault again a values rows)
one_use again a values rows = one_else (range_kinds (unwrap_or_range a.range).start_inclusive (most_values a) (length values)) _
    (one_range (unwrap_or_range a.range).start_inclusive (most_values a) (length values))
    (one_action (action_of a) again a (values_or_missing a values) rows)

one_settle : (c : List Rule) (again : Bool) (h : Held) → One (settle_fault c again h)
one_settle c again h = one_option _ h.pending []
    (λ p. one_option _ (arg_by_id c p.0) [] (λ a. one_use again a p.1 h.rows) tt) tt

one_react : (c : List Rule) (again : Bool) (a : Rule) (values : List Text) (h : Held) → One (react_fault c again a values h)
one_react c again a values h = one_else (settle_fault c again h) _ (one_settle c again h) (one_use again a values (settled c h).rows)

one_valued : (c : List Rule) (again : Bool) (a : Rule) (v : Option Text) (h : Held) → One (option_fault c again a v h)
one_valued c again a None h = one_settle c again h
one_valued c again a (Some v) h = one_react c again a (v ∷ []) h

one_long : (c : List Rule) (again : Bool) (found : Option Rule) (v : Option Text) (h : Held) → One (long_fault c again found v h)
one_long c again None v h = tt
one_long c again (Some a) v h = one_if (takes_values a) _ _ (one_valued c again a v h)
    (one_if (is_some v) _ _ tt (one_react c again a [] h))

one_short : (c : List Rule) (again : Bool) (found : Option Rule) (rest : Text) (h : Held) (after : Held → Kinds)
    → ((g : Held) → One (after g)) → One (short_fault c again found rest h after)
one_short c again None rest h after p = tt
one_short c again (Some a) rest h after p = one_if (takes_values a) _ _ (one_valued c again a (attached_value rest) h)
    (one_else (react_fault c again a [] h) (after (reacted c a [] h)) (one_react c again a [] h) (p (reacted c a [] h)))

one_bundle_step : (c : List Rule) (again : Bool) (x : Option ℕ) (flags : Text) (skip : ℕ) (h : Held) (after : Text → ℕ → Held → Kinds)
    → ((t : Text) (n : ℕ) (g : Held) → One (after t n g)) → One (bundle_step_fault c again x flags skip h after)
one_bundle_step c again None flags skip h after p = tt
one_bundle_step c again (Some x) flags zero h after p =
    let rest = drop (length (encode_utf8 x)) flags in
    one_short c again (arg_by_short c x) rest h (after rest 0) (p rest 0)
one_bundle_step c again (Some x) flags (suc skip) h after p = p (drop (length (encode_utf8 x)) flags) skip h

one_flags : (c : List Rule) (again : Bool) (k : ℕ) (flags : Text) (skip : ℕ) (h : Held) → One (flags_fault c again k flags skip h)
unfolding flags_fault
one_flags c again zero flags skip h = tt
one_flags c again (suc k) flags skip h =
    one_bundle_step c again (slice_get (chars flags) 0) flags skip h (flags_fault c again k) (one_flags c again k)

one_flag_word : (c : List Rule) (again : Bool) (long : Option (Text × Option Text)) (word : Text) (h : Held) → One (flag_word_fault c again long word h)
one_flag_word c again None word h = one_option _ (short_of word) []
    (λ flags. one_flags c again (length flags) flags h.skip (record h { skip = 0 })) tt
one_flag_word c again (Some p) word h = one_long c again (arg_by_long c p.0) p.1 h

one_word : (s : Shape) (is_trailing : Bool) (waiting : Waiting) (word : Text) (h : Held) → One (word_fault s [] is_trailing waiting word h)
one_word s is_trailing idle word h = one_if is_trailing _ _ tt
    (one_if (bytes_eq word (45 ∷ 45 ∷ [])) _ _ tt (one_flag_word s.rules s.args_override_self (long_of word) word h))
one_word s is_trailing (option id) word h = one_if is_trailing _ _ tt
    (one_if (bytes_eq word (45 ∷ 45 ∷ [])) _ _ tt (one_flag_word s.rules s.args_override_self (long_of word) word h))
one_word s is_trailing positional word h = one_if is_trailing _ _ tt
    (one_if (bytes_eq word (45 ∷ 45 ∷ [])) _ _ tt (one_flag_word s.rules s.args_override_self (long_of word) word h))

one_stray : (s : Shape) → s.is_leaf ≡ true → One (stray_fault s)
one_stray s leaf = rw leaf tt

one_step : (s : Shape) (position : ℕ) (h : Held) (step : Step) → s.is_leaf ≡ true → One (step_fault s position h step)
one_step s position h value leaf = one_option _ (arg_by_index s.rules position) (stray_fault s)
    (λ a. one_if (is_pending a h.pending && takes_several a) _ _ tt (one_settle s.rules s.args_override_self h)) (one_stray s leaf)
one_step s position h _ leaf = tt

one_turn : (s : Shape) (w : Walk) (word : Text) → s.is_leaf ≡ true → One (turn_fault s [] w word)
one_turn s w word leaf =
    let met = word_met s.rules [] w.is_trailing w.waiting w.position word w.held in
    one_if (is_some w.stopped) _ _ tt (one_else (word_fault s [] w.is_trailing w.waiting word w.held) _
    (one_word s w.is_trailing w.waiting word w.held) (one_step s w.position met.0 met.1 leaf))

one_walk : (s : Shape) (w : Walk) (words : List Text) → s.is_leaf ≡ true → One (walk_fault s [] w words)
unfolding walk_fault
one_walk s w [] leaf = tt
one_walk s w (word ∷ rest) leaf = one_else (turn_fault s [] w word) (walk_fault s [] (walked s.rules [] w word) rest)
    (one_turn s w word leaf) (one_walk s (walked s.rules [] w word) rest leaf)

one_default : (rows : List clap.Row) (a : Rule) → One (default_fault rows a)
one_default rows a = one_if (has_row a.id rows || is_empty a.defaults) _ _ tt
    (one_else (request_kinds (action_of a)) (values_fault a a.defaults) (one_request (action_of a))
    (one_values a.ignore_case (parser_of_value a.parser) a.defaults))

one_defaults : (rows : List clap.Row) (c : List Rule) → One (defaults_fault rows c)
unfolding defaults_fault
one_defaults rows [] = tt
one_defaults rows (a ∷ rest) = one_else (default_fault rows a) (defaults_fault (with_default rows a) rest) (one_default rows a)
    (one_defaults (with_default rows a) rest)

one_check : (a b c : Bool) → One (check_kinds a b c)
one_check a b c = one_if a _ _ tt (one_if b _ _ tt (one_if c _ _ tt tt))

one_level : (s : Shape) (h : Held) (words : List Text) → s.is_leaf ≡ true → One (level_fault s [] h words false [])
one_level s h words leaf =
    let end = (walk s.rules [] h words).held in
    one_else (walk_fault s [] (walk_from h) words) _ (one_walk s (walk_from h) words leaf)
    (one_else (settle_fault s.rules s.args_override_self end) _ (one_settle s.rules s.args_override_self end)
    (one_else (defaults_fault (settled s.rules end).rows s.rules) _ (one_defaults (settled s.rules end).rows s.rules)
    (one_check _ _ _)))

pub one_fault : (a : App) (words : List Text) → (built a).subs ≡ [] → (built a).top.is_leaf ≡ true → One (fault_of a words)
one_fault a words none leaf = subst One (sym (leaf_fault (built a) nothing_held (argument_words a words) none))
    (one_level (built a).top nothing_held (argument_words a words) leaf)
