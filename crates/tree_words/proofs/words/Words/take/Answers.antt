use Rattle.std.proofs.Common.{ap, map, refl}
use Rattle.std.specs.Prelude.{not}
use Rattle.std.specs.Str.{is_utf8}
use Rattle.std.proofs.lemmas.Str.{is_utf8-from_IsUtf8}
use Rattle.tree_words.proofs.WordLemmas.{none_more, not_utf8, one_more}
use Rattle.tree_words.proofs.words.Words.take.Goals as goal

pub returns-in-Ok-push-clause-texts : goal.returns-in-Ok-push-clause-texts
returns-in-Ok-push-clause-texts c =
    one_more c.args.self.now.texts.items c.push.new.self.items c.in-Ok.text c.args.word.now (is_utf8 c.args.word.now) c.in-Ok-push.ensures.items c.in-Ok.ensures.cases.0
    (is_utf8-from_IsUtf8 c.args.word.now c.in-Ok.ensures.cases.1)

pub returns-in-Ok-push-clause-others : goal.returns-in-Ok-push-clause-others
returns-in-Ok-push-clause-others c =
    none_more (map (λ word. word.now) c.args.self.now.others.items) c.args.word.now (not (is_utf8 c.args.word.now)) (ap not (is_utf8-from_IsUtf8 c.args.word.now c.in-Ok.ensures.cases.1))

pub returns-in-Ok-push-2-clause-texts : goal.returns-in-Ok-push-2-clause-texts
returns-in-Ok-push-2-clause-texts c =
    none_more (map (λ text. text.now) c.args.self.now.texts.items) c.args.word.now (is_utf8 c.args.word.now) (not_utf8 c.args.word.now c.in-Err.ensures.cases.0)

pub returns-in-Ok-push-2-clause-others : goal.returns-in-Ok-push-2-clause-others
returns-in-Ok-push-2-clause-others c =
    one_more c.args.self.now.others.items c.push-in-Err.new.self.items c.args.word c.args.word.now (not (is_utf8 c.args.word.now)) c.in-Ok-push-2.ensures.items refl
    (ap not (not_utf8 c.args.word.now c.in-Err.ensures.cases.0))
