-- The scan as a whole: a run grows by each token read, and a fault at its end is the fault of the text.
use Rattle.std.proofs.Common.{◌≡◌, ℕ, List, [], ◌∷◌, ◌++◌, Result, Ok, Err, sym, ap, subst, ◌∙◌, arith}
use Rattle.std.specs.Prelude.{All, IfOk, IfErr}
use Rattle.std.proofs.lemmas.List.{map_push}
use Rattle.std.proofs.lemmas.List.Elements.{All-push}
use Rattle.hcl_tokens.specs.Lexemes.{Lexeme}
use Rattle.hcl_tokens.specs.Scans.{Run, Next, Scans, begin}
use Rattle.hcl_tokens.specs.Faults.{IsScanFault}
use Rattle.hcl_tokens.specs.Entries.{lexeme_of, lexemes_of, IsEntry}
use Rattle.hcl_scan.specs.Inner.Scanners.{state_of, IsStopped, Moves}
use Rattle.hcl_source.specs.declared.fault.FaultKind.{FaultKind}
use Rattle.hcl_tokens.specs.declared.token.TokenEntry.{TokenEntry}
use Rattle.hcl_scan.specs.declared.scanner.Scanner.{Scanner}
use Rattle.hcl_scan.specs.declared.scanner.FaultAt.{FaultAt}
use Rattle.hcl_tokens.proofs.OneReadingLemmas.{no_fault}
use Rattle.hcl_scan.proofs.AllContextLemmas.{one_kind, lacks_stuck, Run-push}
use Rattle.hcl_scan.proofs.ExpressionLawLemmas.{one_expression}
use Rattle.hcl_tokens.proofs.NonemptyLemmas.{nonempty}

-- the result of the scanner
pub token_read : (read : Result TokenEntry FaultAt) (s next : Scanner) (e : TokenEntry) → read ≡ Ok e → IfOk read (λ x. Moves s x next) → Moves s e next
token_read read s next e is h = subst (λ (r : Result TokenEntry FaultAt). IfOk r (λ x. Moves s x next)) is h

pub stopped_there : (read : Result TokenEntry FaultAt) (s : Scanner) (fault : FaultAt) → read ≡ Err fault → IfErr read (λ x. IsStopped s x) → IsStopped s fault
stopped_there read s fault is h = subst (λ (r : Result TokenEntry FaultAt). IfErr r (λ x. IsStopped s x)) is h

pub none_yet : (text : List ℕ) (es : List TokenEntry) → es ≡ [] → All (IsEntry text) es
none_yet text es is = subst (λ (l : List TokenEntry). All (IsEntry text) l) (sym is) (λ k d h. absurd (omega arith))

module _ (text : List ℕ) (es new : List TokenEntry) (s next : Scanner) (e : TokenEntry) (same : s.text.now ≡ text) (moved : Moves s e next) (new_is : new ≡ es ++ e ∷ []) where
  pub more_parts : All (IsEntry text) es → All (IsEntry text) new
  more_parts parts = subst (λ (l : List TokenEntry). All (IsEntry text) l) (sym new_is) (All-push (IsEntry text) es e parts (subst (λ t. IsEntry t e) same moved.entry))

  pub same_still : next.text.now ≡ text
  same_still = ap (λ t. t.now) moved.same_text ∙ same

  pub more_run : Run (begin text) (lexemes_of text es) (state_of s) → Run (begin text) (lexemes_of text new) (state_of next)
  more_run run =
      let tokens_are : lexemes_of text new ≡ lexemes_of text es ++ lexeme_of text e ∷ [] = ap (lexemes_of text) new_is ∙ map_push (lexeme_of text) es e in
      let one : Next (state_of s) (lexeme_of text e) (state_of next) = subst (λ t. Next (state_of s) (lexeme_of t e) (state_of next)) same moved.read in
      subst (λ (ts : List Lexeme). Run (begin text) ts (state_of next)) (sym tokens_are) (Run-push (begin text) (lexemes_of text es) (state_of s) (lexeme_of text e) (state_of next) run one)

-- it is the fault of the text
pub scan_fault : (text : List ℕ) (ts : List Lexeme) (s : Scanner) (fault : FaultAt) → s.text.now ≡ text → Run (begin text) ts (state_of s) → IsStopped s fault → IsScanFault text fault.kind fault.at
scan_fault text ts s fault same run stopped = record {
  tokens = ts;
  end = state_of s;
  read = run;
  longest = lacks_stuck (one_kind one_expression) nonempty (state_of s) fault.kind stopped.lacks;
  lacks = stopped.lacks;
  at_is = stopped.at;
}

-- a text with a fault has no tokens
pub no_tokens : (text : List ℕ) (kind : FaultKind) (at : ℕ) → IsScanFault text kind at → (ts : List Lexeme) → ¬ Scans text ts
no_tokens text kind at fault ts scans = no_fault (one_kind one_expression) nonempty text ts kind at scans fault
