use Rattle.std.proofs.Common.{Some, sym, ap, ◌∙◌}
use Rattle.std.proofs.lemmas.Result.{IfOk-weaker}
use Rattle.serde_json.specs.View.{view}
use Rattle.page_json.specs.Replies.{reply_json}
use Rattle.page_json.specs.Reading.{found_reply}
use Rattle.std.proofs.lemmas.Option.{same_Some}
use Rattle.page_json.proofs.Replies.{reply_sound, reply_back, shape_same, whole_of, range_of, tagged_of}
use Rattle.page_json.proofs.reply_reading.read_reply.Goals as goal

pub returns-in-Ok-clause-ok : goal.returns-in-Ok-clause-ok
returns-in-Ok-clause-ok c =
    let text = c.in-Ok.ensures.ok in
    IfOk-weaker c.read_value.result _ _ (λ r e. let s = reply_sound (view c.in-Ok.value) r e in
    record { utf8 = text.0; value = text.1 ∙ ap Some s.0; range = range_of r s.1; tagged = tagged_of r s.1 }) c.read_value.ensures.ok

pub returns-in-Ok-clause-only : goal.returns-in-Ok-clause-only
returns-in-Ok-clause-only c =
    let text = c.in-Ok.ensures.ok in
    IfOk-weaker c.read_value.result _ _ (λ r e other h.
    let d = same_Some (view c.in-Ok.value) (reply_json other) (sym text.1 ∙ h.value) in
    let back = reply_back other (whole_of other h.range h.tagged) in
    shape_same r other (same_Some _ _ (sym e ∙ ap found_reply d ∙ back))) c.read_value.ensures.ok

pub returns-in-Ok-clause-bad : goal.returns-in-Ok-clause-bad
returns-in-Ok-clause-bad c = λ is r h.
    let d = same_Some (view c.in-Ok.value) (reply_json r) (sym c.in-Ok.ensures.ok.1 ∙ h.value) in
    let none = c.read_value.ensures.bad is in
    let some = ap found_reply d ∙ reply_back r (whole_of r h.range h.tagged) in
    absurd (let no = sym none ∙ some in cc)
