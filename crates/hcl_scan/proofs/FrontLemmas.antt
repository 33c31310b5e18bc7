-- The token at the front of a text, by its first bytes.
use Rattle.std.proofs.Common.{◌≡◌, ℕ, Bool, List, take, refl, subst, ◌∙◌, IsUtf8}
use Rattle.std.specs.Prelude.{IfSome, IfNone}
use Rattle.std.specs.Str.{IsCharBoundary}
use Rattle.hcl_tokens.specs.Spelling.{punctuation}
use Rattle.hcl_tokens.specs.declared.token.Kind.{Kind}
use Rattle.hcl_scan.specs.Inner.Found.{FindsAt, HasNoneAt, IsLongestPunctuation, HasNoPunctuation}
use Rattle.hcl_scan.specs.Inner.Fronts.{IsFront}
use Rattle.hcl_scan.specs.Inner.Prefixes.{prefix_of}
use Rattle.hcl_scan.specs.declared.front.Front.{Front}
use Rattle.hcl_scan.specs.declared.front.Front.TheVariants.{Mark, Led}
use Rattle.hcl_scan.specs.declared.front.Prefix.{Prefix}
use Rattle.hcl_scan.specs.declared.front.Prefix.TheVariants.{LineEnd, Space, Letter, Digit, HashOrSlashes, SlashStar, OneSlash, LessLess, Closer, Sign}
use Rattle.hcl_scan.proofs.PunctuationOrderLemmas.{first_found, first_none}
use Rattle.hcl_scan.proofs.TextCutLemmas.{low_cut, mark_low}
use Rattle.hcl_scan.proofs.ExpressionTextLemmas.{mark_found, mark_nothing}

pub led_by : (seen : List ℕ) (prefix l : Prefix) → IsFront seen (Led prefix) → prefix ≡ l → prefix_of seen ≡ l
led_by seen LineEnd l is e = is ∙ e
led_by seen Space l is e = is ∙ e
led_by seen Letter l is e = is ∙ e
led_by seen Digit l is e = is ∙ e
led_by seen HashOrSlashes l is e = is ∙ e
led_by seen SlashStar l is e = is ∙ e
led_by seen OneSlash l is e = is ∙ e
led_by seen LessLess l is e = is ∙ e
led_by seen Closer l is e = is ∙ e
led_by seen Sign l is e = is.0 ∙ e

longest : (seen : List ℕ) (kind : Kind) (len : ℕ) → IsFront seen (Mark kind len) → IsLongestPunctuation punctuation seen kind len
longest seen kind len is = subst (λ o. IfSome o (λ m. IsLongestPunctuation punctuation seen m.0 m.1)) is.1 (first_found seen _ refl)

pub mark_at : (seen bytes : List ℕ) (front : Front) (kind : Kind) (len : ℕ) → bytes ≡ seen → front ≡ Mark kind len → IsFront bytes front → IsFront seen (Mark kind len)
mark_at seen bytes front kind len e same is = subst (λ s. IsFront s (Mark kind len)) e (subst (λ f. IsFront bytes f) same is)

pub some_mark : (dot inside closes : Bool) (seen : List ℕ) (kind : Kind) (len : ℕ) → IsFront seen (Mark kind len) → FindsAt dot inside closes seen kind len
some_mark dot inside closes seen kind len is = mark_found dot inside closes seen kind len is.0 (longest seen kind len is)

pub mark_cut : (seen : List ℕ) (kind : Kind) (len : ℕ) → IsUtf8 seen → IsFront seen (Mark kind len) → IsCharBoundary seen len
mark_cut seen kind len utf8 is = let m = longest seen kind len is in low_cut seen len utf8 m.within (mark_low (take len seen) kind m.formed)

pub no_mark : (dot inside closes : Bool) (seen : List ℕ) (prefix : Prefix) → IsFront seen (Led prefix) → prefix ≡ Sign → HasNoneAt dot inside closes seen
no_mark dot inside closes seen prefix is e =
    let sign : IsFront seen (Led Sign) = subst (λ l. IsFront seen (Led l)) e is in
    mark_nothing dot inside closes seen sign.0 (subst (λ o. IfNone o (HasNoPunctuation punctuation seen)) sign.1 (first_none seen _ refl))
