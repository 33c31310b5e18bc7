use Rattle.std.proofs.Common.{◌∙◌, ◌+◌, ◌≤◌, ap, arith, length, map, map-id, subst, sym}
use Rattle.std.specs.Prelude.{encode_utf8, encode_utf8_all}
use Rattle.std.proofs.lemmas.Iterator.{YieldsList-from_chars}
use Rattle.std.proofs.lemmas.Iterator.Consumers.{YieldsList-end, YieldsList-so_far, YieldsList-turn}
use Rattle.source_snippet.specs.Snippets.{shown_char}
use Rattle.source_snippet.proofs.ShownLemmas.{next_fits, shown_more}
use Rattle.source_snippet.proofs.visible.visible_part.Goals as goal

pub push-requires : goal.push-requires
push-requires c =
    let road = YieldsList-from_chars c.args.part.now c.utf8.part cc in
    let so_far = YieldsList-so_far road c.loop-c.yielded _ c.loop-c.yielded_by in
    let turn = YieldsList-turn road c.loop-c.yielded _ c.loop-c.yielded_by _ _ c.in-Some.c c.in-Some.is c.next.ensures.steps in
    let room = next_fits c.args.part.now c.loop-c.text.bytes c.loop-c.yielded c.in-Some.c 960 c.utf8.part c.requires (sym (map-id c.loop-c.yielded) ∙ so_far) c.loop-c.invariant turn.0 turn.1 in (omega arith, subst (λ d. length c.loop-c.text.bytes + length (encode_utf8 d) ≤ 960) (sym c.visible_char.ensures) room)

pub loop-c-preserved : goal.loop-c-preserved
loop-c-preserved c = shown_more c.loop-c.yielded c.loop-c.text.bytes c.push.new.self.bytes c.in-Some.c c.visible_char.result c.loop-c.invariant c.visible_char.ensures c.push.ensures.bytes

pub returns : goal.returns
returns c =
    let end = YieldsList-end (YieldsList-from_chars c.args.part.now c.utf8.part cc) c.loop-c.yielded _ c.loop-c.yielded_by _ _ c.in-None.is c.next.ensures.steps in
    c.loop-c.invariant ∙ ap (λ cs. encode_utf8_all (map shown_char cs)) (sym (map-id c.loop-c.yielded) ∙ end.0)
