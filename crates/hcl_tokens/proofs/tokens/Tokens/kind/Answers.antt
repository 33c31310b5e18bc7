use Rattle.std.proofs.Common.{◌≡◌, ℕ, List, Option, Some, None, slice_get, refl, sym, ap, ◌∙◌}
use Rattle.std.specs.Prelude.{option_map}
use Rattle.std.proofs.lemmas.Option.{slice_get-map}
use Rattle.hcl_tokens.specs.Lexemes.{Lexeme}
use Rattle.hcl_tokens.specs.Entries.{lexeme_of}
use Rattle.hcl_tokens.specs.declared.token.TokenEntry.{TokenEntry}
use Rattle.hcl_tokens.specs.declared.token.Kind.{Kind}
use Rattle.hcl_tokens.proofs.tokens.Tokens.kind.Goals as goal

-- a token has the kind of its entry
kind_of_entry : (text : List ℕ) (o : Option TokenEntry) (k : Kind) → ((e : TokenEntry) → o ≡ Some e → k ≡ e.kind) → (t : Lexeme) → option_map (lexeme_of text) o ≡ Some t → k ≡ t.kind
kind_of_entry text None k is t at = absurd (cc)
kind_of_entry text (Some e) k is t at = let same = is e refl in cc

pub returns : goal.returns
returns c = λ t at.
    let text = c.self.inside.origin.now in
    let es = c.self.inside.entries in
    let found = sym (slice_get-map (lexeme_of text) es c.args.i) ∙ ap (λ s. slice_get s.tokens c.args.i) c.self.view_is ∙ at in
    kind_of_entry text (slice_get es c.args.i) c.kind.result c.kind.ensures t found
