use Rattle.std.proofs.Common.{IfErr, refl, subst, arith}
use Rattle.sage_outside.specs.Held.{never_device}
use Rattle.triple_store.specs.Stores.{View}
use Rattle.pattern_page.specs.PagesOf.{MayRefuse}
use Rattle.sage.specs.Answers.{AnswersOr}
use Rattle.sage.proofs.Opened.{told_whole, never_failed, memory_alone}
use Rattle.sage.proofs.answer.answer_image.Goals as goal

pub memory_of-requires : goal.memory_of-requires
memory_of-requires c =
    let L = c.requires.held.0 in
    let select = c.args.select.now in
    let held = c.in-Ok.ensures.holds L 2 c.args.image.now (told_whole L 2 c.args.image.now c.requires.held.1 (never_device c.new.result) c.new.ensures.image) c.requires.held.1 in
    let after : View = record { header = c.in-Ok.store.header; device = never_device c.answer_opened-answer.result.1 } in
    memory_alone L select.names select.pattern c.args.quanta.now c.in-Err-answer.fault c.in-Ok.store after held refl
    (subst (λ r. IfErr r (λ e. MayRefuse e c.in-Ok.store after)) c.in-Err-answer.is c.answer_opened-answer.ensures.refused)
    (subst (AnswersOr L select.names select.pattern c.args.quanta.now) c.in-Err-answer.is (c.answer_opened-answer.ensures.answered L held))

pub want_of-requires : goal.want_of-requires
want_of-requires c =
    let L = c.requires.held.0 in
    let outside = c.in-Err.ensures.holds L 2 c.args.image.now (told_whole L 2 c.args.image.now c.requires.held.1 (never_device c.new.result) c.new.ensures.image) c.requires.held.1 in
    never_failed c.in-Err.unopened.fault (never_device c.new.result).faults (never_device c.in-Err.unopened.blocks).faults outside refl c.in-Err.ensures.failed

pub returns-in-Ok-answer : goal.returns-in-Ok-answer
returns-in-Ok-answer c = λ L holds.
    let held = c.in-Ok.ensures.holds L 2 c.args.image.now (told_whole L 2 c.args.image.now holds (never_device c.new.result) c.new.ensures.image) holds in
    subst (AnswersOr L c.args.select.now.names c.args.select.now.pattern c.args.quanta.now) c.in-Ok-answer.is (c.answer_opened-answer.ensures.answered L held)
