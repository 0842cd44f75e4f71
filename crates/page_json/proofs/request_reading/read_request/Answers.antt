use Rattle.std.proofs.Common.{option_and_then, ap, ◌∙◌}
use Rattle.std.proofs.lemmas.Result.{IfOk-weaker}
use Rattle.page_json.specs.Requests.{asked_by}
use Rattle.page_json.proofs.Asked.{next_sound, bad_plan}
use Rattle.page_json.proofs.request_reading.read_request.Goals as goal

pub returns-in-Ok-clause-ok : goal.returns-in-Ok-clause-ok
returns-in-Ok-clause-ok c =
    let text = c.in-Ok.ensures.ok in
    IfOk-weaker c.read_value.result _ _ (λ r e.
    (e.0, record { utf8 = text.0; value = ap (option_and_then asked_by) text.1 ∙ e.1 }, next_sound e.0 r.next e.2)) c.read_value.ensures.ok

pub returns-in-Ok-clause-base64 : goal.returns-in-Ok-clause-base64
returns-in-Ok-clause-base64 c = λ is.
    let text = c.in-Ok.ensures.ok in
    let bad = bad_plan _ (c.read_value.ensures.base64 is) in
    (bad.0, bad.1, record { utf8 = text.0; value = ap (option_and_then asked_by) text.1 ∙ bad.2 }, bad.3)
