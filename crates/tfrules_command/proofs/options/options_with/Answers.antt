use Rattle.std.proofs.Common.{◌∙◌, inr, map, sym, List, ℕ}
use Rattle.std.specs.Borrow.{Bor}
use Rattle.std.specs.Prelude.{option_map}
use Rattle.clap.specs.Words.{found_of, rows_of}
use Rattle.rule_set.specs.RuleSets.{rules_of}
use Rattle.tfrules_command.specs.Line.{asking_for}
use Rattle.tfrules_command.proofs.AskedRuleLemmas.{with_parts}
use Rattle.command_line.proofs.AskedLemmas.{asked_more}
use Rattle.tfrules_command.proofs.options.options_with.Goals as goal

pub returns-in-Some-minimum : goal.returns-in-Some-minimum
returns-in-Some-minimum c =
    let files = map (λ (name : Bor (List ℕ)). name.now) c.args.given.now in
    let whole = with_parts (rows_of (found_of c.args.matches.now)) c.args.given.now c.is_empty.result c.is_flag_set-force.result c.value_or.result.now c.value_or-2.result.now c.value_or-3.result.now
    c.rules_asked-rules.result c.naming_of_text-naming.result c.severity_of_text-minimum.result c.is_empty.ensures c.if-is_empty.false c.is_flag_set-force.ensures c.value_or.ensures c.value_or-2.ensures c.value_or-3.ensures
    c.rules_asked-rules.ensures c.naming_of_text-naming.ensures c.severity_of_text-minimum.ensures in
    asked_more c.options_for.ensures
    ((λ i. asking_for c.is_flag_set-force.result files (option_map rules_of (sym c.in-Some.is i)) (sym c.in-Some-naming.is i) (sym c.in-Some-minimum.is i)) ∙ whole)

pub returns-in-None-minimum : goal.returns-in-None-minimum
returns-in-None-minimum c =
    let files = map (λ (name : Bor (List ℕ)). name.now) c.args.given.now in
    let whole = with_parts (rows_of (found_of c.args.matches.now)) c.args.given.now c.is_empty.result c.is_flag_set-force.result c.value_or.result.now c.value_or-2.result.now c.value_or-3.result.now
    c.rules_asked-rules.result c.naming_of_text-naming.result c.severity_of_text-minimum.result c.is_empty.ensures c.if-is_empty.false c.is_flag_set-force.ensures c.value_or.ensures c.value_or-2.ensures c.value_or-3.ensures
    c.rules_asked-rules.ensures c.naming_of_text-naming.ensures c.severity_of_text-minimum.ensures in
    inr ((λ i. asking_for c.is_flag_set-force.result files (option_map rules_of (sym c.in-Some.is i)) (sym c.in-Some-naming.is i) (sym c.in-None-minimum.is i)) ∙ whole)

pub returns-in-None-naming : goal.returns-in-None-naming
returns-in-None-naming c =
    let files = map (λ (name : Bor (List ℕ)). name.now) c.args.given.now in
    let whole = with_parts (rows_of (found_of c.args.matches.now)) c.args.given.now c.is_empty.result c.is_flag_set-force.result c.value_or.result.now c.value_or-2.result.now c.value_or-3.result.now
    c.rules_asked-rules.result c.naming_of_text-naming.result c.severity_of_text-minimum.result c.is_empty.ensures c.if-is_empty.false c.is_flag_set-force.ensures c.value_or.ensures c.value_or-2.ensures c.value_or-3.ensures
    c.rules_asked-rules.ensures c.naming_of_text-naming.ensures c.severity_of_text-minimum.ensures in
    inr ((λ i. asking_for c.is_flag_set-force.result files (option_map rules_of (sym c.in-Some.is i)) (sym c.in-None-naming.is i) c.severity_of_text-minimum.result) ∙ whole)

pub returns-in-None : goal.returns-in-None
returns-in-None c =
    let files = map (λ (name : Bor (List ℕ)). name.now) c.args.given.now in
    let whole = with_parts (rows_of (found_of c.args.matches.now)) c.args.given.now c.is_empty.result c.is_flag_set-force.result c.value_or.result.now c.value_or-2.result.now c.value_or-3.result.now
    c.rules_asked-rules.result c.naming_of_text-naming.result c.severity_of_text-minimum.result c.is_empty.ensures c.if-is_empty.false c.is_flag_set-force.ensures c.value_or.ensures c.value_or-2.ensures c.value_or-3.ensures
    c.rules_asked-rules.ensures c.naming_of_text-naming.ensures c.severity_of_text-minimum.ensures in
    inr ((λ i. asking_for c.is_flag_set-force.result files (option_map rules_of (sym c.in-None.is i)) c.naming_of_text-naming.result c.severity_of_text-minimum.result) ∙ whole)
