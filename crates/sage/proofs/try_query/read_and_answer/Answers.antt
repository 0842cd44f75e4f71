use Rattle.std.proofs.Common.{string_bytes}
use Rattle.sage.proofs.Tries.{answer_of, unanswered}
use Rattle.sage.proofs.try_query.read_and_answer.Goals as goal

pub returns-in-Ok-answer_query-clause-answer : goal.returns-in-Ok-answer_query-clause-answer
returns-in-Ok-answer_query-clause-answer g c =
    answer_of (g.S.Shelf.files c.args.shelf.now) c.args.document.now c.args.query.now c.args.quanta.now c.in-Ok.inputs.document.items c.in-Ok.inputs.query.items c.in-Ok.ensures.read
    c.in-Ok-answer_query.answer.text.items (string_bytes c.in-Ok-answer_query.answer.counts) c.in-Ok-answer_query.ensures

pub returns-in-Err-answer_query-clause-why : goal.returns-in-Err-answer_query-clause-why
returns-in-Err-answer_query-clause-why g c =
    unanswered (g.S.Shelf.files c.args.shelf.now) c.args.document.now c.args.query.now c.args.quanta.now c.in-Ok.inputs.document.items c.in-Ok.inputs.query.items c.in-Ok.ensures.read
    c.in-Err-answer_query.refusal _ _ c.in-Err-answer_query.ensures
