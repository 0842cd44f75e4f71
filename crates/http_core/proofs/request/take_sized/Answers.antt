use Rattle.std.proofs.Common.{◌≡◌, ◌++◌, ◌+◌, ◌≤◌, ◌<◌, length, Ok, IfOk, ap, ◌∙◌, subst, append-nil}
use Rattle.std.specs.List.{slice_range}
use Rattle.http_core.proofs.Outcomes.{taken_whole, taken_cut}
use Rattle.http_core.proofs.request.take_sized.Goals as goal

pub returns-in-Ok-true-clause-taken : goal.returns-in-Ok-true-clause-taken
returns-in-Ok-true-clause-taken g c = λ more told.
    let piece = c.in-Ok-true.ensures.gave in
    let came = piece.2 more told in
    let awaits = c.requires.awaits in
    let text : c.deref.result.now ≡ c.args.buf.items ++ piece.0 = c.deref.ensures.value ∙ piece.1 in
    let fits : c.args.from + c.args.size ≤ length (c.args.buf.items ++ piece.0) =
    subst (λ xs. c.args.from + c.args.size ≤ length xs) piece.1 (c.in-Ok-true.ensures.whole (ap Ok c.in-Ok-true.field-0-test)) in
    taken_whole c.args.buf.items piece.0 came.0 more awaits.0 awaits.1 c.args.from c.args.size c.args.expects c.page_request.result awaits.2 awaits.3 awaits.4 came.1 fits
    (subst (λ xs. IfOk c.page_request.result (λ r. r.body ≡ slice_range xs c.args.from (c.args.from + c.args.size))) text c.page_request.ensures.body)
    c.page_request.ensures.path c.page_request.ensures.err

pub returns-in-Ok-false-clause-taken : goal.returns-in-Ok-false-clause-taken
returns-in-Ok-false-clause-taken g c = λ more told.
    let piece = c.in-Ok-false.ensures.gave in
    let came = piece.2 more told in
    let awaits = c.requires.awaits in
    let ended = c.in-Ok-false.ensures.end (ap Ok c.in-Ok-false.field-0-test) in
    let all : more ≡ piece.0 = came.1 ∙ ap (λ left. piece.0 ++ left) (ended.1 came.0 came.2) ∙ append-nil piece.0 in
    taken_cut c.args.buf.items piece.0 more awaits.0 awaits.1 c.args.from c.args.size c.args.expects c.refused.result awaits.2 awaits.3 awaits.4 all
    (subst (λ xs. length xs < c.args.from + c.args.size) piece.1 ended.0) c.refused.ensures
