use Rattle.std.proofs.Common.{◌∙◌, OnOk, Some, None, true, false, ap, refl, rules, subst, sym}
use Rattle.file_tree.specs.Choices.{is_wanted}
use Rattle.file_tree.specs.Inner.Chosen.{chooser_view}
use Rattle.file_tree.specs.Inner.Walking.{Adds, walk_view}
use Rattle.file_tree.specs.declared.fault.TreeFault.TheVariants.{OtherKind}
use Rattle.file_tree.proofs.HearLemmas.{real_enters, real_heard, real_other}
use Rattle.file_tree.proofs.TreeWalkLemmas.{named_given}
use Rattle.file_tree.proofs.walk.Walk.take_kind_given.Goals as goal

pub returns-then-eq-clause-hears : goal.returns-then-eq-clause-hears
returns-then-eq-clause-hears g c =
    real_enters c.add_folder.result (g.T.Tree.files c.args.tree.now) (chooser_view c.args.chooser.now) c.args.operand.path.now _ (walk_view c.args.self.now) (walk_view c.add_folder.new.self) _ _ c.add_folder.ensures refl

pub returns-then-not-is_wanted-clause-takes : goal.returns-then-not-is_wanted-clause-takes
returns-then-not-is_wanted-clause-takes g c =
    named_given c.add.result false (g.T.Tree.files c.args.tree.now) (chooser_view c.args.chooser.now) c.args.kind c.args.operand.path.now (walk_view c.args.self.now) (walk_view c.add.new.self) (λ e. search rules)
    (ap (is_wanted (chooser_view c.args.chooser.now)) (sym (c.as_slice.ensures.value ∙ c.requires.tidied)) ∙ sym c.is_wanted.ensures ∙ c.if-not-is_wanted.true)
    (subst (λ n. OnOk c.add.result (Adds n (Some OtherKind) None (walk_view c.args.self.now) (walk_view c.add.new.self))) c.requires.tidied c.add.ensures)

pub returns-then-not-is_wanted-clause-hears : goal.returns-then-not-is_wanted-clause-hears
returns-then-not-is_wanted-clause-hears g c =
    real_other c.add.result (g.T.Tree.files c.args.tree.now) (chooser_view c.args.chooser.now) c.args.kind c.args.operand.path.now c.args.operand.tidied.items (walk_view c.args.self.now) (walk_view c.add.new.self) _ _ c.requires.told (λ e. search rules)
    c.requires.allowed (ap (is_wanted (chooser_view c.args.chooser.now)) (sym (c.as_slice.ensures.value ∙ c.requires.tidied)) ∙ sym c.is_wanted.ensures ∙ c.if-not-is_wanted.true) c.requires.tidied c.add.ensures refl

pub returns-clause-takes : goal.returns-clause-takes
returns-clause-takes g c =
    named_given c.take_wanted.result true (g.T.Tree.files c.args.tree.now) (chooser_view c.args.chooser.now) c.args.kind c.args.operand.path.now (walk_view c.args.self.now) (walk_view c.take_wanted.new.self) (λ e. search rules)
    (ap (is_wanted (chooser_view c.args.chooser.now)) (sym (c.as_slice.ensures.value ∙ c.requires.tidied)) ∙ sym c.is_wanted.ensures ∙ c.if-not-is_wanted.false) c.take_wanted.ensures.takes

pub returns-clause-hears : goal.returns-clause-hears
returns-clause-hears g c =
    real_heard c.take_wanted.result (g.T.Tree.files c.args.tree.now) (chooser_view c.args.chooser.now) c.args.operand.path.now (walk_view c.args.self.now).found (walk_view c.take_wanted.new.self).found _ _ c.take_wanted.ensures.hears
