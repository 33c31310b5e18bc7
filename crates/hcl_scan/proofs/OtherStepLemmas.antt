-- One token of a text, read in a text of the same tokens with other gaps.
use Rattle.std.proofs.Common.{◌≡◌, ℕ, ◌+◌, ◌≤◌, ◌||◌, ◌==◌, not, Bool, true, false, cond, IsTrue, List, [], ◌∷◌, length, drop, inl, inr, refl, sym, ap, subst, ◌∙◌, arith}
use Rattle.std.proofs.lemmas.Bool.Decides.{nat_tests}
use Rattle.std.specs.List.{prefix_len}
use Rattle.hcl_tokens.specs.Lexemes.{Lexeme, Opener, Heredoc, open_after, in_heredoc, max_open}
use Rattle.hcl_tokens.specs.Spelling.{is_blank, context, Context, Template, Expression}
use Rattle.hcl_tokens.specs.Kinds.{is}
use Rattle.hcl_tokens.specs.Scans.{State, Hidden, gap_in, has_gaps_in, offsets_of, IsLongest, Leaves, Run, IsComplete}
use Rattle.hcl_tokens.specs.Regapped.{is_template, touches, gap_fits}
use Rattle.hcl_tokens.specs.declared.token.Kind.{Kind}
use Rattle.hcl_tokens.specs.declared.token.Kind.TheVariants.{HeredocClose, LineComment, Dot}
use Rattle.hcl_tokens.proofs.BooleanLemmas.{or_true}

-- from here the tokens are read to the end
abbrev pub Again : State → List Lexeme → Type 0
Again s ts = (end : State) × Run s ts end × IsComplete end

-- in a heredoc, no gap
pub zero_gap : (b : Bool) (gap : ℕ) (other : Bool) → b ≡ true → cond b (gap == 0) other ≡ true → gap ≡ 0
zero_gap true gap other h k = grind (arith, nat_tests)
zero_gap false gap other h k = absurd (cc)

pub touching : (before : Kind) (t : Lexeme) → t.inside_heredoc ≡ true → touches before t ≡ true
touching LineComment t h = refl
touching _ t h = ap (λ b. is_template t.kind || b) h ∙ or_true (is_template t.kind)

pub no_gap : (dot : Bool) (before : Kind) (t : Lexeme) (gap : ℕ) → t.inside_heredoc ≡ true → IsTrue (gap_fits dot before t gap) → gap ≡ 0
no_gap dot before t gap h k = zero_gap (touches before t) gap _ (touching before t h) k

no_gaps_in : (c : Context) (inside : Bool) (n : ℕ) → inside ≡ true → cond (has_gaps_in c inside) n 0 ≡ 0
no_gaps_in (Template quoted) inside n h = refl
no_gaps_in Expression inside n h = ap (λ b. cond (not b) n 0) h

pub gap_in_heredoc : (opens : List Opener) (seen : List ℕ) → in_heredoc opens ≡ true → gap_in opens seen ≡ 0
gap_in_heredoc opens seen h = no_gaps_in (context opens) (in_heredoc opens) (prefix_len is_blank seen) h

pub gap_of_nothing : (c : Context) (inside : Bool) → ◌≡◌ {A = ℕ} (cond (has_gaps_in c inside) 0 0) 0
gap_of_nothing (Template quoted) inside = refl
gap_of_nothing Expression true = refl
gap_of_nothing Expression false = refl

abbrev pub moved_on : Lexeme → ℕ → Lexeme
moved_on t start = record { kind = t.kind; text = t.text; start = start; inside_heredoc = t.inside_heredoc }

-- one token in the other text
module _ (at : ℕ) (opens : List Opener) (offsets : List ℕ) (dot : Bool) (seen : List ℕ) (hidden : List Hidden) (gap : ℕ) (t : Lexeme) (rest seen' : List ℕ) (hidden' : List Hidden) where
  abbrev pub went : State
  went = record { at = at + gap + length t.text; opens = open_after t.kind opens; offsets = offsets_of (at + gap) opens (open_after t.kind opens) offsets; after_dot = is Dot t.kind; seen = seen'; hidden = hidden' }

  pub push_reads : (ts : List Lexeme) → gap_in opens seen ≡ gap → IsLongest opens dot (drop gap seen) t.kind t.text rest → t.inside_heredoc ≡ in_heredoc opens → length (open_after t.kind opens) ≤ max_open → Leaves t.kind t.text rest hidden seen' hidden' → Again went ts → Again (record { at = at; opens = opens; offsets = offsets; after_dot = dot; seen = seen; hidden = hidden }) (moved_on t (at + gap) ∷ ts)
  push_reads ts gap_is longest inside room shows again = (
    again.0,
    (
      went,
      inl (record {
        rest = rest;
        longest = subst (λ n. IsLongest opens dot (drop n seen) t.kind t.text rest) (sym gap_is) longest;
        start = ap (λ n. at + n) (sym gap_is);
        inside = inside;
        at = refl;
        opens = refl;
        offsets = refl;
        room = room;
        after_dot = refl;
        leaves = shows;
      }),
      again.1,
    ),
    again.2,
  )

-- a heredoc that is closed in the other text
pub push_closes : (at gap : ℕ) (opens below : List Opener) (offsets : List ℕ) (dot : Bool) (seen rest : List ℕ) (above : List Hidden) (t : Lexeme) (ts : List Lexeme) → opens ≡ Heredoc ∷ below → seen ≡ [] → gap ≡ 0 → t.kind ≡ HeredocClose → t.inside_heredoc ≡ true → Again (record { at = at + gap + length t.text; opens = below; offsets = drop 1 offsets; after_dot = false; seen = rest; hidden = above }) ts →
    Again (record { at = at; opens = opens; offsets = offsets; after_dot = dot; seen = seen; hidden = record { closer = t.text; after = rest } ∷ above }) (moved_on t (at + gap) ∷ ts)
push_closes at gap opens below offsets dot seen rest above t ts top read no_gap kind inside again = (
  again.0,
  (
    record { at = at + gap + length t.text; opens = below; offsets = drop 1 offsets; after_dot = false; seen = rest; hidden = above },
    inr (record {
      below = below;
      top = top;
      read = read;
      rest = rest;
      above = above;
      line = refl;
      kind = kind;
      start = omega (arith, no_gap);
      inside = inside;
      next_is = ap (λ (n : ℕ). record { at = n; opens = below; offsets = drop 1 offsets; after_dot = false; seen = rest; hidden = above }) (omega (arith, no_gap));
    }),
    again.1,
  ),
  again.2,
)
