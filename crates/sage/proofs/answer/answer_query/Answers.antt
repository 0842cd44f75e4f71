use Rattle.std.proofs.Common.{Err, subst}
use Rattle.sage.specs.Answers.{ReadsQuery}
use Rattle.sage.proofs.Answering.{not_selected}
use Rattle.sage.proofs.answer.answer_query.Goals as goal

pub returns-in-Ok : goal.returns-in-Ok
returns-in-Ok c =
    not_selected c.in-Err-read_select.refusal c.args.document.items c.args.query.items c.args.quanta.now c.in-Ok.triples c.in-Ok.ensures.is_data
    (subst (ReadsQuery (Err c.in-Err-read_select.refusal)) c.deref.ensures.value c.in-Err-read_select.ensures)
