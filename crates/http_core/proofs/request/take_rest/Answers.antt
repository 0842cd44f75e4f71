use Rattle.std.proofs.Common.{◌≡◌, ◌++◌, Some, sym, ap, ◌∙◌, subst}
use Rattle.httparse.specs.Grammar.{ReadsRequest}
use Rattle.http_core.specs.PageRequests.{await, verdict_of, interim}
use Rattle.http_core.specs.Views.{verdict_view}
use Rattle.http_core.proofs.Outcomes.{taken_refused, always}
use Rattle.http_core.proofs.request.take_rest.Goals as goal

pub returns-in-Refused-default-clause-taken : goal.returns-in-Refused-default-clause-taken
returns-in-Refused-default-clause-taken g c = λ more told.
    let has = c.requires in
    let found = c.in-Refused-default in
    let reads = subst (λ xs. ReadsRequest xs has.0 has.1) (sym c.deref.ensures.value) has.2.reads in
    let on = c.check_head.ensures has.0 has.1 reads has.2.few in
    taken_refused c.args.buf.items more _ _ c.refused.result has.0 has.1 has.2 (sym on.verdict ∙ ap verdict_view found.is-0) c.refused.ensures

pub returns-in-Ok-clause-wrote : goal.returns-in-Ok-clause-wrote
returns-in-Ok-clause-wrote g c = λ head rest wrote begins told.
    let found = c.in-Awaits-default in
    let reads = subst (λ xs. ReadsRequest xs head rest) (sym c.deref.ensures.value) begins.reads in
    let on = c.check_head.ensures head rest reads begins.few in
    let answer : await found.size found.expects ≡ verdict_of head = sym (ap verdict_view found.is-0) ∙ on.verdict in
    always c.take_sized.result _ (c.take_sized.ensures.wrote ∙ c.in-Ok.ensures.wrote wrote found.size told ∙ ap (λ v. Some (wrote ++ interim v)) answer)
