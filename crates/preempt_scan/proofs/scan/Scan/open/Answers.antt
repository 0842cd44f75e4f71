use Rattle.std.proofs.Common.{ap, Err}
use Rattle.triple_store.proofs.Opened.{handed_read}
use Rattle.preempt_scan.proofs.Scanned.{opened}
use Rattle.preempt_scan.proofs.scan.Scan.open.Goals as goal

pub returns-in_err-place-clause-whole : goal.returns-in_err-place-clause-whole
returns-in_err-place-clause-whole g c = λ terms ids block shown e. c.in_err-place.ensures.whole terms ids block shown (ap Err (handed_read _ _ block c.from_residual.ensures e))

pub returns-clause-given : goal.returns-clause-given
returns-clause-given g c = λ terms ids shown.
    opened ids c.args.order c.args.prefix.now c.triple_of-first.result c.least.result c.in_ok-place.place c.triple_of-first.ensures.is c.least.ensures (c.in_ok-place.ensures.found terms ids shown)
