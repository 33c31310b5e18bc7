-- The state of a walk along a line, and the survey of the line, token by token.
use Rattle.std.proofs.Common.{◌≡◌, ◌∙◌, ◌+◌, ◌-◌, ◌≤◌, ◌&&◌, ◌||◌, ◌^◌, not, ℕ, Bool, true, false, List, Option, Some, None, length, ap, ap₂, refl, sym, arith, subst, drop}
use Rattle.std.specs.Prelude.{is_some, option_map, slice_get}
use Rattle.hcl_tokens.specs.Lexemes.{Lexeme}
use Rattle.hcl_tokens.specs.Balanced.{max_open}
use Rattle.hcl_tokens.specs.Kinds.{is}
use Rattle.hcl_tokens.specs.declared.token.Kind.TheVariants.{Assign, InlineComment, LineComment, Newline}
use Rattle.hcl_grammar.specs.Items.{deepen}
use Rattle.hcl_layout.specs.Cells.{is_assignment, is_multiline, is_trailing}
use Rattle.hcl_layout.specs.Lines.{ends_line}
use Rattle.hcl_layout.specs.Inner.Depths.{BalancedFrom}
use Rattle.hcl_layout.specs.Inner.Survey.{IsLine, Survey, facts_in, facts_of, survey_start, marks, survey_step, survey_of, survey_rest, takes_assign}
use Rattle.hcl_layout.specs.declared.line.Line.{Line}
use Rattle.hcl_layout.specs.declared.line.LineState.{LineState}
use Rattle.hcl_spacing.proofs.KindLemmas.{each}
use Rattle.hcl_layout.proofs.NotedKindLemmas.{end_stops, passes, stopped_level}
use Rattle.hcl_layout.proofs.SurveyLemmas.{is_line}

unmarked : (a b c : Bool) → (a || b || c) ≡ false → (a ≡ false) × (b ≡ false) × (c ≡ false)
unmarked true b c h = cc
unmarked false true c h = cc
unmarked false false c h = (refl, refl, h)

-- a token that isn't a cell and tears none
pub seen_kept : (s : LineState) (t : Lexeme) (d first n : ℕ) → first ≤ n → is_trailing t ≡ false → is_multiline t ≡ false → is_assignment t ≡ false
    → survey_of s (deepen d t.kind) first (n + 1) ≡ survey_step (survey_of s d first n) t
seen_kept s t d first n le trailing inline assign =
    let takes : takes_assign (survey_of s d first n) t ≡ false = rw assign (and_false (not (is_some (option_map (λ k. k - first) s.comment)) && not (is_trailing t) && not (is_some (option_map (λ k. k - first) s.assign)))) in
    go s.comment refl takes inline trailing
  where
    and_false : (b : Bool) → (b && false) ≡ false
    and_false true = refl
    and_false false = refl

    or_false : (b : Bool) → b ≡ (b || false)
    or_false true = refl
    or_false false = refl

    len : (n + 1) - first ≡ (n - first) + 1
    len = omega (arith, le)

    go : (c : Option ℕ) → s.comment ≡ c → takes_assign (survey_of s d first n) t ≡ false → is_multiline t ≡ false → is_trailing t ≡ false → survey_of s (deepen d t.kind) first (n + 1) ≡ survey_step (survey_of s d first n) t
    go None e takes inline trailing =
        let made : ℕ → Bool → Survey = λ k b. record { len = k; depth = deepen d t.kind; multiline = b; comment = None; body_depth = deepen d t.kind; assign = option_map (λ j. j - first) s.assign; sign_depth = s.sign_depth } in
        rw (takes, inline, trailing, e) (ap₂ made len (or_false s.multiline))
    go (Some i) e takes inline trailing =
        let made : ℕ → Bool → Survey = λ k b. record { len = k; depth = deepen d t.kind; multiline = b; comment = Some (i - first); body_depth = s.body_depth; assign = option_map (λ j. j - first) s.assign; sign_depth = s.sign_depth } in
        rw (takes, inline, trailing, e) (ap₂ made len (or_false s.multiline))

-- a token of a kind that isn't a cell and tears none
pub seen_noted : (s : LineState) (t : Lexeme) (d first n : ℕ) → first ≤ n → marks t.kind ≡ false → survey_of s (deepen d t.kind) first (n + 1) ≡ survey_step (survey_of s d first n) t
seen_noted s t d first n le m =
    let parts = unmarked (is LineComment t.kind) (is InlineComment t.kind) (is Assign t.kind) m in
    seen_kept s t d first n le (rw parts.0 refl) (rw parts.1 refl) (rw parts.2 refl)

-- the newline that ends the line
end_unmarked : (t : Lexeme) → ends_line t ≡ true → marks t.kind ≡ false
end_unmarked t e = go (is Newline t.kind) refl e
  where
    go : (v : Bool) → is Newline t.kind ≡ v → (v && not t.inside_heredoc) ≡ true → marks t.kind ≡ false
    go true q h = passes (not (is Newline t.kind)) (marks t.kind) (each (λ j. not (is Newline j) || not (marks j)) refl t.kind) (ap not q)
    go false q h = cc

pub seen_end : (s : LineState) (t : Lexeme) (d first n : ℕ) → first ≤ n → ends_line t ≡ true → survey_of s d first (n + 1) ≡ survey_step (survey_of s d first n) t
seen_end s t d first n le e = ap (λ k. survey_of s k first (n + 1)) (sym (stopped_level t.kind d (end_stops t e))) ∙ seen_noted s t d first n le (end_unmarked t e)

-- the line that was read
pub line_read : (ts : List Lexeme) (first d : ℕ) (t : Lexeme) (l : Line) (s : Survey) → slice_get ts first ≡ Some t → length ts ≤ 2 ^ 22 → BalancedFrom d (drop first ts) → d ≤ max_open
    → facts_in l ≡ facts_of s → s ≡ survey_rest (survey_start d t) t (drop (first + 1) ts) → IsLine ts first d (facts_in l)
line_read ts first d t l s e few p low f q = subst (IsLine ts first d) (sym f) (is_line ts first d t s e few p low q)
