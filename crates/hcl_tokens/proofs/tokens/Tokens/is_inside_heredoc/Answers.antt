use Rattle.std.proofs.Common.{◌≡◌, ℕ, Bool, List, Option, Some, None, slice_get, refl, sym, ap, ◌∙◌}
use Rattle.std.specs.Prelude.{option_map}
use Rattle.std.proofs.lemmas.Option.{slice_get-map}
use Rattle.hcl_tokens.specs.Lexemes.{Lexeme}
use Rattle.hcl_tokens.specs.Entries.{lexeme_of}
use Rattle.hcl_tokens.specs.declared.token.TokenEntry.{TokenEntry}
use Rattle.hcl_tokens.proofs.tokens.Tokens.is_inside_heredoc.Goals as goal

-- a token is inside a heredoc if and only if its entry is
inside_of_entry : (text : List ℕ) (o : Option TokenEntry) (b : Bool) → ((e : TokenEntry) → o ≡ Some e → b ≡ e.inside_heredoc) → (t : Lexeme) → option_map (lexeme_of text) o ≡ Some t → b ≡ t.inside_heredoc
inside_of_entry text None b is t at = absurd (cc)
inside_of_entry text (Some e) b is t at = let same = is e refl in cc

pub returns : goal.returns
returns c = λ t at.
    let text = c.self.inside.origin.now in
    let es = c.self.inside.entries in
    let found = sym (slice_get-map (lexeme_of text) es c.args.i) ∙ ap (λ s. slice_get s.tokens c.args.i) c.self.view_is ∙ at in
    inside_of_entry text (slice_get es c.args.i) c.is_inside_heredoc.result c.is_inside_heredoc.ensures t found
