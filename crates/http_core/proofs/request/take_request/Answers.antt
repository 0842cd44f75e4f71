use Rattle.std.proofs.Common.{Ok, Err, ap}
use Rattle.sage_outside.proofs.Answered.{if_some}
use Rattle.http_core.proofs.Outcomes.{taken_none, writes_behind, writes_nothing}
use Rattle.http_core.proofs.request.take_request.Goals as goal

pub returns-in-Ok-None-clause-taken : goal.returns-in-Ok-None-clause-taken
returns-in-Ok-None-clause-taken g c = λ coming told.
    taken_none coming c.refused.result (c.in-Ok-None.ensures.none (ap Ok c.in-Ok-None.field-0-is) coming told) c.refused.ensures

pub returns-in-Ok-None-clause-wrote : goal.returns-in-Ok-None-clause-wrote
returns-in-Ok-None-clause-wrote g c =
    writes_nothing _ _ _ (Err c.refused.result) (c.in-Ok-None.ensures.none (ap Ok c.in-Ok-None.field-0-is)) c.in-Ok-None.ensures.wrote

pub returns-in-Ok-Some-clause-wrote : goal.returns-in-Ok-Some-clause-wrote
returns-in-Ok-Some-clause-wrote g c =
    let found = c.in-Ok-Some in
    let some = if_some _ _ _ c.in-Ok-Some.field-0-is found.ensures.some in
    writes_behind _ _ _ _ _ _ c.take_rest.result some.0 some.1 found.ensures.wrote c.take_rest.ensures.wrote
