-- The earlier tables scan a text without `::` to the same tokens: a spelling of theirs is one now, so the longest now
-- is the longest then.
use Rattle.std.proofs.Common.{◌≢◌, ℕ, List, [], ◌∷◌, inl, inr}
use Rattle.hcl_tokens.specs.Lexemes.{Lexeme}
use Rattle.hcl_tokens.specs.Scans.{State, begin, Next, Run, Scans}
use Rattle.hcl_tokens.specs.declared.token.Kind.TheVariants.{ColonColon}
use Rattle.text_format.specs.Older.Tokens.{HasNoPath, WasNext, WasRun, WasScanned}

next_before : (s : State) (t : Lexeme) (next : State) → (t.kind ≢ ColonColon) → Next s t next → WasNext s t next
next_before s t next pathless (inr closes) = inr closes
next_before s t next pathless (inl reads) = inl (record {
  rest = reads.rest;
  longest = record {
    whole = reads.longest.whole;
    spelled = (pathless, reads.longest.spelled);
    longest = λ other longer left all further was. reads.longest.longest other longer left all further was.1;
  };
  start = reads.start;
  inside = reads.inside;
  at = reads.at;
  opens = reads.opens;
  offsets = reads.offsets;
  room = reads.room;
  after_dot = reads.after_dot;
  leaves = reads.leaves;
})

run_before : (s : State) (ts : List Lexeme) (end : State) → HasNoPath ts → Run s ts end → WasRun s ts end
run_before s [] end pathless run = run
run_before s (t ∷ ts) end pathless run = (run.0, next_before s t run.0 pathless.0 run.1, run_before run.0 ts end pathless.1 run.2)

pub scanned_before : (text : List ℕ) (ts : List Lexeme) → Scans text ts → HasNoPath ts → WasScanned text ts
scanned_before text ts scans pathless = (scans.0, run_before (begin text) ts scans.0 pathless scans.1, scans.2)
