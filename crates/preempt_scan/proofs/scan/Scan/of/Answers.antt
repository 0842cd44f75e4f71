use Rattle.std.proofs.Common.{sym, subst}
use Rattle.preempt_scan.specs.Scans.{IsScanOf}
use Rattle.preempt_scan.proofs.Asked.{scan_of, scan_none, scan_ok}
use Rattle.preempt_scan.proofs.scan.Scan.of.Goals as goal

pub returns-in-None-clause-found : goal.returns-in-None-clause-found
returns-in-None-clause-found g c = λ L terms ids p row table shown asked.
    subst (IsScanOf L terms ids p row) (sym c.nothing.ensures.is)
    (scan_none L terms ids c.order-order.result c.args.asked.now p row c.in-None.ensures.nothing c.order-order.ensures.is table asked)

pub returns-in-Some-clause-found : goal.returns-in-Some-clause-found
returns-in-Some-clause-found g c = λ L terms ids p row table shown asked.
    scan_ok L terms ids p row c.order-order.result c.in-Some.prefix c.open.result
    (λ place. scan_of ids c.order-order.result c.in-Some.prefix c.args.asked.now c.in-Some.ensures.asks c.order-order.ensures.is L terms p row place table asked) c.open.ensures.is
