use Rattle.std.proofs.Common.{◌∙◌, ◌≡◌, Bool, false, Option, Some, None, sym}
use Rattle.std.specs.Prelude.{IfNone, IfSome}
use Rattle.hcl_tokens.specs.Lexemes.{Lexeme}
use Rattle.hcl_tokens.specs.Scanned.{lexeme}
use Rattle.hcl_tokens.specs.declared.token.Kind.{Kind}
use Rattle.hcl_spacing.specs.Inner.KindPairs.{space_by_texts, pair_space}
use Rattle.hcl_spacing.specs.Spacing.{AreUndecided, has_blank}
use Rattle.hcl_spacing.proofs.KindPairLemmas.{asked_is, given, untold}
use Rattle.hcl_spacing.proofs.spacing.kinds_space.Goals as goal

all_given : (o : Option Bool) (subject after : Lexeme) → after.inside_heredoc ≡ false → o ≡ pair_space subject.kind after.kind → IfSome o (λ space. (before : Option Lexeme) → space ≡ has_blank before subject after)
all_given None subject after e f = tt
all_given (Some space) subject after e f = given space subject after e (sym f)

all_asked : (o : Option Bool) (subject after : Lexeme) → after.inside_heredoc ≡ false → o ≡ pair_space subject.kind after.kind → IfNone o ((before : Option Lexeme) → space_by_texts before subject after ≡ has_blank before subject after)
all_asked None subject after e f = λ before. asked_is before subject after e (sym f)
all_asked (Some space) subject after e f = tt

all_untold : (o : Option Bool) (l r : Kind) → o ≡ pair_space l r → IfNone o (AreUndecided l r)
all_untold None l r g = untold l r (sym g)
all_untold (Some space) l r g = tt

pub returns-clause-given : goal.returns-clause-given
returns-clause-given c = all_given c.pair_space.result (lexeme c.args.subject) (lexeme c.args.after) (sym c.is_kept.ensures.inside ∙ c.if-is_kept.false) c.pair_space.ensures

pub returns-clause-asked : goal.returns-clause-asked
returns-clause-asked c = all_asked c.pair_space.result (lexeme c.args.subject) (lexeme c.args.after) (sym c.is_kept.ensures.inside ∙ c.if-is_kept.false) c.pair_space.ensures

pub returns-clause-untold : goal.returns-clause-untold
returns-clause-untold c = all_untold c.pair_space.result c.args.subject.kind c.args.after.kind c.pair_space.ensures
