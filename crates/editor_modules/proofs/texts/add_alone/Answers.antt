use Rattle.editor_modules.proofs.TextLemmas.{added_one}
use Rattle.editor_modules.proofs.texts.add_alone.Goals.{in-Err, in-Ok}
use Rattle.editor_modules.proofs.texts.add_alone.Goals as goal

pub returns : goal.returns
returns c =
    elim c.match-push.branch [
      | in-Ok w ↦ rw w.result-is (added_one c.args.units c.args.documents.now c.args.uri.now c.args.all.now.items c.push.new.self.items c.in_ok-message.message c.in_ok-message.ensures w.in-Ok.ensures.items)
      | in-Err w ↦ rw w.result-is tt
    ]
