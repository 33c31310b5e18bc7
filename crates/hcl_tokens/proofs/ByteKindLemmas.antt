-- The first byte of an expression's token, and the kinds that it allows, row by row.
use Rattle.std.proofs.Common.{◌≡◌, ℕ, ◌==◌, ◌||◌, true, false, subst, arith}
use Rattle.std.specs.Char.{is_ascii_digit}
use Rattle.std.proofs.lemmas.Bool.Decides.{nat_tests}
use Rattle.hcl_tokens.specs.Kinds.{is}
use Rattle.hcl_tokens.specs.SideBySide.{begins_as, may_begin_ident}
use Rattle.hcl_tokens.specs.declared.token.Kind.{Kind}
use Rattle.hcl_tokens.specs.declared.token.Kind.TheVariants.{LineComment, InlineComment, Ident, Number, HeredocOpen, SeqClose, Dot, Ellipsis, Colon, ColonColon, Assign, Arrow, Minus, Star, Slash, Equal, Less, Greater, LessEqual, GreaterEqual}

pub record Says (kind : Kind) (b : ℕ) : Type 0 where
  pub letter : may_begin_ident b ≡ true → is Ident kind ≡ true
  pub digit : is_ascii_digit b ≡ true → is Number kind ≡ true
  pub minus : (b == 45) ≡ true → is Minus kind ≡ true
  pub point : (b == 46) ≡ true → (is Dot kind || is Ellipsis kind) ≡ true
  pub colons : (b == 58) ≡ true → (is Colon kind || is ColonColon kind) ≡ true
  pub equals : (b == 61) ≡ true → (is Assign kind || is Arrow kind || is Equal kind) ≡ true
  pub greater : (b == 62) ≡ true → (is Greater kind || is GreaterEqual kind) ≡ true
  pub less : (b == 60) ≡ true → (is Less kind || is LessEqual kind || is HeredocOpen kind) ≡ true
  pub slashed : (b == 47) ≡ true → (is Slash kind || is LineComment kind || is InlineComment kind) ≡ true
  pub star : (b == 42) ≡ true → is Star kind ≡ true
  pub tilde : (b == 126) ≡ true → is SeqClose kind ≡ true

pub says : (kind : Kind) (b : ℕ) → begins_as kind b ≡ true → Says kind b
says kind b h = record {
  letter = λ l. rw l at h;
  digit = λ d. let l : may_begin_ident b ≡ false = grind (arith, nat_tests) in rw (l, d) at h;
  minus = λ e. row 45 e;
  point = λ e. row 46 e;
  colons = λ e. row 58 e;
  equals = λ e. row 61 e;
  greater = λ e. row 62 e;
  less = λ e. row 60 e;
  slashed = λ e. row 47 e;
  star = λ e. row 42 e;
  tilde = λ e. row 126 e;
}
  where
    same : (c : ℕ) → (b == c) ≡ true → b ≡ c
    same c e = grind (arith, nat_tests)

    row : (c : ℕ) → (b == c) ≡ true → begins_as kind c ≡ true
    row c e = subst (λ x. begins_as kind x ≡ true) (same c e) h
