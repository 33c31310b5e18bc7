use Rattle.std.proofs.Common.{◌+◌, ◌<◌, ◌≤◌, ◌^◌, [], ◌∷◌, length, Ok, ◌*◌}
use Rattle.hcl_grammar.specs.Grammar.{◌at◌, expr, after, args, tuple_item, object_item, parts, inside}
use Rattle.hcl_syntax.specs.Inner.Parsing.{Advances, pending_choices}
use Rattle.hcl_grammar.specs.declared.expected.Newlines.TheVariants.{Seen, Dropped}
use Rattle.hcl_syntax.proofs.cursor.Cursor.+parser.Given as goal

abbrev pub decreases-args : goal.decreases-args
decreases-args l = 10 * length l.self.now.left + 7

abbrev pub decreases-call : goal.decreases-call
decreases-call l = 10 * length l.self.now.left

abbrev pub decreases-expr : goal.decreases-expr
decreases-expr l = 10 * length l.self.now.left + 6

abbrev pub decreases-whole_expr : goal.decreases-whole_expr
decreases-whole_expr l = 10 * length l.self.now.left + 1

abbrev pub decreases-index : goal.decreases-index
decreases-index l = 10 * length l.self.now.left + 7

abbrev pub decreases-operand : goal.decreases-operand
decreases-operand l = 10 * length l.self.now.left

abbrev pub decreases-parts : goal.decreases-parts
decreases-parts l = 10 * length l.self.now.left

abbrev pub decreases-follow : goal.decreases-follow
decreases-follow l = 10 * length l.self.now.left

abbrev pub decreases-directive : goal.decreases-directive
decreases-directive l = 10 * length l.self.now.left

abbrev pub decreases-sequence : goal.decreases-sequence
decreases-sequence l = 10 * length l.self.now.left + 7

abbrev pub decreases-section : goal.decreases-section
decreases-section l = 10 * length l.self.now.left

abbrev pub invariant-section-loop-token : goal.invariant-section-loop-token
invariant-section-loop-token l = record {
  leads : Advances (l.directives + 1) (inside l.fn.section at Dropped ∷ []) l.fn.self.left (Ok (tt {0})) (inside l.section at Dropped ∷ []) l.self.left;
  shorter : length l.self.left ≤ length l.fn.self.left;
}

abbrev pub decreases-section-loop-token : goal.decreases-section-loop-token
decreases-section-loop-token l = length l.self.left

abbrev pub decreases-tuple_items : goal.decreases-tuple_items
decreases-tuple_items l = 10 * length l.self.now.left + 7

abbrev pub invariant-args-loop-directives : goal.invariant-args-loop-directives
invariant-args-loop-directives l = record {
  leads : Advances l.directives (args at Dropped ∷ []) l.fn.self.left (Ok (tt {0})) (args at Dropped ∷ []) l.self.left;
  shorter : length l.self.left ≤ length l.fn.self.left;
}

abbrev pub decreases-args-loop-directives : goal.decreases-args-loop-directives
decreases-args-loop-directives l = length l.self.left

abbrev pub invariant-whole_expr-loop-self : goal.invariant-whole_expr-loop-self
invariant-whole_expr-loop-self l = record {
  leads : Advances l.directives (expr at l.newlines ∷ []) l.fn.self.left (Ok (tt {0})) (expr at l.newlines ∷ pending_choices l.newlines l.waiting []) l.self.left;
  shorter : length l.self.left ≤ length l.fn.self.left;
  room : l.waiting + length l.self.left < 2 ^ 64;
}

abbrev pub decreases-whole_expr-loop-self : goal.decreases-whole_expr-loop-self
decreases-whole_expr-loop-self l = length l.self.left

abbrev pub invariant-parts-loop-token : goal.invariant-parts-loop-token
invariant-parts-loop-token l = record {
  leads : Advances l.directives (parts at l.newlines ∷ []) l.fn.self.left (Ok (tt {0})) (parts at l.newlines ∷ []) l.self.left;
  shorter : length l.self.left ≤ length l.fn.self.left;
}

abbrev pub decreases-parts-loop-token : goal.decreases-parts-loop-token
decreases-parts-loop-token l = length l.self.left

abbrev pub invariant-follow-loop-token : goal.invariant-follow-loop-token
invariant-follow-loop-token l = record {
  leads : Advances l.directives (after at l.newlines ∷ []) l.fn.self.left (Ok (tt {0})) (after at l.newlines ∷ []) l.self.left;
  shorter : length l.self.left ≤ length l.fn.self.left;
}

abbrev pub decreases-follow-loop-token : goal.decreases-follow-loop-token
decreases-follow-loop-token l = length l.self.left

abbrev pub invariant-tuple_items-loop-directives : goal.invariant-tuple_items-loop-directives
invariant-tuple_items-loop-directives l = record {
  leads : Advances l.directives (tuple_item at Dropped ∷ []) l.fn.self.left (Ok (tt {0})) (tuple_item at Dropped ∷ []) l.self.left;
  shorter : length l.self.left ≤ length l.fn.self.left;
}

abbrev pub decreases-tuple_items-loop-directives : goal.decreases-tuple_items-loop-directives
decreases-tuple_items-loop-directives l = length l.self.left

abbrev pub decreases-tuple : goal.decreases-tuple
decreases-tuple l = 10 * length l.self.now.left + 8

abbrev pub decreases-tuple_condition : goal.decreases-tuple_condition
decreases-tuple_condition l = 10 * length l.self.now.left

abbrev pub decreases-generator : goal.decreases-generator
decreases-generator l = 10 * length l.self.now.left

abbrev pub decreases-object : goal.decreases-object
decreases-object l = 10 * length l.self.now.left + 9

abbrev pub decreases-entries : goal.decreases-entries
decreases-entries l = 10 * length l.self.now.left + 8

abbrev pub invariant-entries-loop-directives : goal.invariant-entries-loop-directives
invariant-entries-loop-directives l = record {
  leads : Advances l.directives (object_item at Seen ∷ []) l.fn.self.left (Ok (tt {0})) (object_item at Seen ∷ []) l.self.left;
  shorter : length l.self.left ≤ length l.fn.self.left;
}

abbrev pub decreases-entries-loop-directives : goal.decreases-entries-loop-directives
decreases-entries-loop-directives l = length l.self.left

abbrev pub decreases-entry : goal.decreases-entry
decreases-entry l = 10 * length l.self.now.left + 7

abbrev pub decreases-object_for : goal.decreases-object_for
decreases-object_for l = 10 * length l.self.now.left + 1

abbrev pub decreases-object_condition : goal.decreases-object_condition
decreases-object_condition l = 10 * length l.self.now.left
