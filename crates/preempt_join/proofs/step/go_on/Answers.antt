use Rattle.std.proofs.Common.{refl, subst}
use Rattle.preempt_scan.specs.Scans.{FoundBelow}
use Rattle.preempt_join.proofs.Found.{is_shown, ends_here, goes_here}
use Rattle.preempt_join.proofs.step.go_on.Goals as goal

pub returns-in-Ok-End-clause-turn : goal.returns-in-Ok-End-clause-turn
returns-in-Ok-End-clause-turn g c = λ D k shown before is given.
    ends_here D.ids c.args.pattern.now c.args.row.now c.args.held.now c.in-Some.opened before c.probe.new.self k c.in-Ok-End.field-0 c.args.out.now c.in-Some.is is given
    (c.in-Ok-End.ensures.found D.terms D.ids k (is_shown c.args.store.now D shown)) c.in-Ok-End.field-0-is

pub returns-then-extend_into-clause-cells : goal.returns-then-extend_into-clause-cells
returns-then-extend_into-clause-cells g c = λ given made h.
    c.extend_into.ensures.within _ given made h (subst (FoundBelow c.args.store.now.header.terms) c.in-Ok-Triple.field-0-is c.in-Ok-Triple.ensures.named)

pub returns-then-extend_into-clause-turn : goal.returns-then-extend_into-clause-turn
returns-then-extend_into-clause-turn g c = λ D k shown before is given.
    goes_here D.ids c.args.pattern.now c.args.row.now c.args.held.now c.in-Some.opened before c.probe.new.self k c.in-Ok-Triple.field-0 c.in-Ok-Triple.ids _ c.extend_into.new.out c.in-Some.is is given
    (c.in-Ok-Triple.ensures.found D.terms D.ids k (is_shown c.args.store.now D shown)) c.in-Ok-Triple.field-0-is c.in-Ok-Triple.ensures.order c.in-Ok-Triple.ensures.prefix
    (c.if-extend_into.ensures.bound refl)

pub returns-else-extend_into-clause-turn : goal.returns-else-extend_into-clause-turn
returns-else-extend_into-clause-turn g c = λ D k shown before is given.
    goes_here D.ids c.args.pattern.now c.args.row.now c.args.held.now c.in-Some.opened before c.probe.new.self k c.in-Ok-Triple.field-0 c.in-Ok-Triple.ids _ c.extend_into.new.out c.in-Some.is is given
    (c.in-Ok-Triple.ensures.found D.terms D.ids k (is_shown c.args.store.now D shown)) c.in-Ok-Triple.field-0-is c.in-Ok-Triple.ensures.order c.in-Ok-Triple.ensures.prefix
    (c.if-extend_into.ensures.other refl)
