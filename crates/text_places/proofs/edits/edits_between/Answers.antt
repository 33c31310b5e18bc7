use Rattle.std.proofs.Common.{◌≡◌, ◌∙◌, ◌≤◌, ◌++◌, ◌⊎◌, [], ap, arith, inl, inr, length, map, subst, sym, true, false}
use Rattle.std.proofs.lemmas.Str.{IsCharBoundary-start}
use Rattle.std.specs.Str.{bytes_eq}
use Rattle.text_places.specs.Edits.{EditsAscend, edit_of, line_edits, with_edit}
use Rattle.text_places.specs.Inner.Cuts.{between, change, CutsLine}
use Rattle.text_places.proofs.CutLemmas.{cut_bounds}
use Rattle.text_places.proofs.EditLemmas.{ascends, part_ends, part_grows, parts_done}
use Rattle.text_places.proofs.edits.edits_between.Goals as goal
use Rattle.text_places.proofs.edits.edits_between.Goals.{then-loop-at-test+else-at-bytes, else-loop-at-test}

pub loop-at-init : goal.loop-at-init
loop-at-init c = record {
  old = omega arith;
  new = omega arith;
  start = IsCharBoundary-start c.args.new.now c.utf8.new;
  at = IsCharBoundary-start c.args.new.now c.utf8.new;
  edits = ap (λ es. map edit_of es ++ line_edits c.args.old.now c.args.new.now) c.new-edits.ensures.items;
}

pub loop-at-preserved-then-not-is_same : goal.loop-at-preserved-then-not-is_same
loop-at-preserved-then-not-is_same c =
    let cut_new : CutsLine c.args.new.now c.loop-at.at.new c.line_end-in-loop-at.result = subst (λ t. CutsLine t c.loop-at.at.new c.line_end-in-loop-at.result) c.as_bytes-bytes.ensures.value c.line_end-in-loop-at.ensures in
    let differ : bytes_eq (between c.args.old.now c.loop-at.at.old c.line_end.result) (between c.args.new.now c.loop-at.at.new c.line_end-in-loop-at.result) ≡ false =
    subst (λ t. bytes_eq (between c.args.old.now c.loop-at.at.old c.line_end.result) (between t c.loop-at.at.new c.line_end-in-loop-at.result) ≡ false) c.as_bytes-bytes.ensures.value (sym c.is_same.ensures ∙ c.if-not-is_same.true) in
    record {
      old = c.line_end.ensures.within;
      new = omega (arith, cut_new.after, c.loop-at.invariant.new);
      start = c.loop-at.invariant.start;
      at = cut_bounds c.args.new.now c.loop-at.at.new c.line_end-in-loop-at.result c.utf8.new cut_new;
      edits = part_grows (map edit_of c.loop-at.edits.items) (line_edits c.args.old.now c.args.new.now) c.args.old.now c.args.new.now c.loop-at.start.old c.loop-at.start.new c.loop-at.at.old c.loop-at.at.new c.line_end.result c.line_end-in-loop-at.result
          c.loop-at.invariant.new c.line_end.ensures cut_new differ c.loop-at.invariant.edits;
    }

pub loop-at-preserved : goal.loop-at-preserved
loop-at-preserved c =
    let cut_new : CutsLine c.args.new.now c.loop-at.at.new c.line_end-in-loop-at.result = subst (λ t. CutsLine t c.loop-at.at.new c.line_end-in-loop-at.result) c.as_bytes-bytes.ensures.value c.line_end-in-loop-at.ensures in
    let same : bytes_eq (between c.args.old.now c.loop-at.at.old c.line_end.result) (between c.args.new.now c.loop-at.at.new c.line_end-in-loop-at.result) ≡ true =
    subst (λ t. bytes_eq (between c.args.old.now c.loop-at.at.old c.line_end.result) (between t c.loop-at.at.new c.line_end-in-loop-at.result) ≡ true) c.as_bytes-bytes.ensures.value (sym c.is_same.ensures ∙ c.if-not-is_same.false) in
    let bound = cut_bounds c.args.new.now c.loop-at.at.new c.line_end-in-loop-at.result c.utf8.new cut_new in
    record {
      old = c.line_end.ensures.within;
      new = omega arith;
      start = bound;
      at = bound;
      edits = part_ends (map edit_of c.loop-at.edits.items) (map edit_of c.push_change.new.edits.items) (line_edits c.args.old.now c.args.new.now) c.args.old.now c.args.new.now c.loop-at.start.old c.loop-at.start.new c.loop-at.at.old c.loop-at.at.new c.line_end.result c.line_end-in-loop-at.result
          c.line_end.ensures cut_new same c.in_ok-push_change.ensures c.loop-at.invariant.edits;
    }

pub returns-clause-edits : goal.returns-clause-edits
returns-clause-edits c =
    parts_done (map edit_of c.loop-at.edits.items) (map edit_of c.push_change-2.new.edits.items) (line_edits c.args.old.now c.args.new.now) c.args.old.now c.args.new.now c.loop-at.start.old c.loop-at.start.new c.loop-at.at.old c.loop-at.at.new
    done c.loop-at.invariant.new c.loop-at.invariant.old c.loop-at.invariant.at.0
    (subst (λ n. map edit_of c.push_change-2.new.edits.items ≡ map edit_of c.loop-at.edits.items ++ with_edit (change c.loop-at.start.old (length c.args.old.now) c.args.new.now c.loop-at.start.new n) []) c.as_bytes-bytes.ensures.len c.in_ok-push_change-2.ensures)
    c.loop-at.invariant.edits
  where
    done : (length c.args.old.now ≤ c.loop-at.at.old) ⊎ (length c.args.new.now ≤ c.loop-at.at.new)
    done = elim c.loop-at-test.branch [ then-loop-at-test+else-at-bytes w ↦ inr (omega (arith, w.if-at-bytes.false, c.as_bytes-bytes.ensures.len)) | else-loop-at-test w ↦ inl (omega (arith, w.loop-at-test.false)) ]

pub returns-clause-ascend : goal.returns-clause-ascend
returns-clause-ascend c = subst (λ es. EditsAscend 0 (length c.args.old.now) es) (sym (returns-clause-edits c)) (ascends c.args.old.now c.args.new.now)
