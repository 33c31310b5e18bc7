-- The two rules that depend on tokens alone: the numbers of the tokens that each reports. They look at the tokens of a
-- file without comments, blanks and newlines.
use Rattle.std.specs.Prelude.{ℕ, ◌==◌, ◌&&◌, ◌++◌, Bool, false, List, [], ◌∷◌, if◌then◌else◌}
use Rattle.hcl_tokens.specs.declared.token.Kind.TheVariants as kind
use Rattle.hcl_tokens.specs.Balanced.{closer_count}
use Rattle.hcl_grammar.specs.Items.{deepen, is_closed}
use Rattle.hcl_grammar.specs.Numbered.{Numbered, significant}
use Rattle.hcl_tokens.specs.Kinds.{is}

abbrev pub is_index : List Numbered → Bool
is_index (d ∷ n ∷ rest) = is kind.Dot d.kind && is kind.Number n.kind
is_index _ = false

-- the tokens after the closer of an open opener, if `depth` more openers are open inside it
abbrev pub after_closer : ℕ → List Numbered → List Numbered
after_closer depth [] = []
after_closer depth (t ∷ ts) =
    if is_closed depth && (closer_count t.kind == 1) then ts
    else after_closer (deepen depth t.kind) ts

abbrev pub begins_with_close : List Numbered → Bool
begins_with_close [] = false
begins_with_close (t ∷ ts) = is kind.QuoteClose t.kind

-- a quote that contains one interpolation and nothing else
abbrev pub is_wrapped : List Numbered → Bool
is_wrapped (q ∷ i ∷ rest) =
    is kind.QuoteOpen q.kind && is kind.InterpOpen i.kind && begins_with_close (after_closer 0 rest)
is_wrapped _ = false

-- the numbers of the tokens at which the test holds
abbrev pub numbers_where : (List Numbered → Bool) → List Numbered → List ℕ
numbers_where test [] = []
numbers_where test (t ∷ ts) = (if test (t ∷ ts) then t.number ∷ [] else []) ++ numbers_where test ts

-- dots before numbers
abbrev pub legacy_indexes : List Numbered → List ℕ
legacy_indexes ts = numbers_where is_index (significant ts)

-- quotes that contain one interpolation alone
abbrev pub wrapped_interpolations : List Numbered → List ℕ
wrapped_interpolations ts = numbers_where is_wrapped (significant ts)
