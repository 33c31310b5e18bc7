use Rattle.std.proofs.Common.{◌≡◌, ℕ, List, [], ◌∷◌, ◌++◌, ap, sym, subst, ◌∙◌, inl, inr}
use Rattle.hcl_tokens.specs.Lexemes.{Lexeme}
use Rattle.hcl_tokens.specs.Scans.{Next, Run, begin}
use Rattle.hcl_tokens.specs.Entries.{lexeme_of}
use Rattle.hcl_scan.specs.Inner.Scanners.{state_of, Moves}
use Rattle.hcl_tokens.specs.declared.token.TokenEntry.{TokenEntry}
use Rattle.hcl_scan.specs.declared.scanner.Scanner.{Scanner}
use Rattle.hcl_scan.proofs.AllContextLemmas.{Run-push}
use Rattle.hcl_scan.proofs.ScanLemmas.{token_read, stopped_there, scan_fault}
use Rattle.hcl_scan.proofs.laws.list_or_fault.Goals as goal

abbrev Read : List ℕ → Scanner → Type 0
Read text s = (ts : List Lexeme) × Run (begin text) ts (state_of s)

still : (text : List ℕ) (s next : Scanner) (e : TokenEntry) → s.text.now ≡ text → Moves s e next → next.text.now ≡ text
still text s next e same moved = ap (λ t. t.now) moved.same_text ∙ same

-- one more token
read_on : (text : List ℕ) (s next : Scanner) (e : TokenEntry) → s.text.now ≡ text → Moves s e next → Read text s → Read text next
read_on text s next e same moved (ts, run) = (
  ts ++ lexeme_of text e ∷ [],
  Run-push (begin text) ts (state_of s) (lexeme_of text e) (state_of next) run
      (subst (λ t. Next (state_of s) (lexeme_of t e) (state_of next)) same moved.read),
)

pub loop-read-init : goal.loop-read-init
loop-read-init c = record {
  same_text = ap (λ t. t.now) c.new-scanner.ensures.text;
  sound = c.new-scanner.ensures.sound;
  read = ([], sym c.new-scanner.ensures.state);
}

pub next_token-requires : goal.next_token-requires
next_token-requires c = c.loop-read.invariant.sound

pub loop-read-preserved : goal.loop-read-preserved
loop-read-preserved c =
    let moved = token_read c.in-Some.read c.loop-read.scanner c.next_token.new.self c.in-Ok.field-0 c.in-Ok.is c.in-Some.ensures.read in
    record {
      same_text = still c.args.text.now c.loop-read.scanner c.next_token.new.self c.in-Ok.field-0 c.loop-read.invariant.same_text moved;
      sound = moved.sound;
      read = read_on c.args.text.now c.loop-read.scanner c.next_token.new.self c.in-Ok.field-0 c.loop-read.invariant.same_text moved c.loop-read.invariant.read;
    }

pub returns : goal.returns
returns c = inl (c.loop-read.invariant.read.0, (state_of c.loop-read.scanner, c.loop-read.invariant.read.1, c.in_default.ensures.complete))

pub returns-in-Err : goal.returns-in-Err
returns-in-Err c =
    let fault = scan_fault c.args.text.now c.loop-read.invariant.read.0 c.loop-read.scanner c.in-Err.field-0 c.loop-read.invariant.same_text c.loop-read.invariant.read.1 (stopped_there c.in-Some.read c.loop-read.scanner c.in-Err.field-0 c.in-Err.is c.in-Some.ensures.stopped) in
    inr (c.in-Err.field-0.kind, c.in-Err.field-0.at, fault)
