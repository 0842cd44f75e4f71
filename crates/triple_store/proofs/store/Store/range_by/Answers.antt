use Rattle.std.proofs.Common.{ap, sym, arith, Err, ◌∙◌}
use Rattle.triple_store.proofs.Opened.{handed_read}
use Rattle.triple_store.proofs.Matches.{stretch_from, stretch_none, range_from}
use Rattle.triple_store.proofs.store.Store.range_by.Goals as goal

pub returns-in-None-clause-stretch : goal.returns-in-None-clause-stretch
returns-in-None-clause-stretch g c = λ terms ids shown. stretch_none c.args.asked.now ids c.order-order.result c.in-None.ensures.nothing

pub returns-in-None-clause-found : goal.returns-in-None-clause-found
returns-in-None-clause-found g c = λ L terms ids p row table shown asked.
    range_from L terms ids p row c.args.asked.now _ table (c.order-order.ensures.is ∙ asked.index) (returns-in-None-clause-stretch g c terms ids shown) asked.same

pub returns-in_ok-first-in-Some-clause-stretch : goal.returns-in_ok-first-in-Some-clause-stretch
returns-in_ok-first-in-Some-clause-stretch g c = λ terms ids shown.
    stretch_from c.args.asked.now c.in-Some.prefix ids c.order-order.result c.in_ok-first-in-Some.first c.in_ok-first-in-Some.end
    (shown.shows.lists c.order-order.result c.order-order.ensures.few).sorted
    c.in_ok-first-in-Some.ensures.within.0
    (omega (arith, c.in_ok-first-in-Some.ensures.within.1, (shown.shows.lists c.order-order.result c.order-order.ensures.few).entries))
    (c.in_ok-first-in-Some.ensures.found terms ids shown) c.in-Some.ensures.asks c.order-order.ensures.is

pub returns-in_ok-first-in-Some-clause-found : goal.returns-in_ok-first-in-Some-clause-found
returns-in_ok-first-in-Some-clause-found g c = λ L terms ids p row table shown asked.
    range_from L terms ids p row c.args.asked.now _ table (c.order-order.ensures.is ∙ asked.index) (returns-in_ok-first-in-Some-clause-stretch g c terms ids shown) asked.same

pub returns-in_err-first-in-Some-clause-whole : goal.returns-in_err-first-in-Some-clause-whole
returns-in_err-first-in-Some-clause-whole g c = λ terms ids block shown e. c.in_err-first-in-Some.ensures.whole terms ids block shown (ap Err (handed_read _ _ block c.from_residual.ensures e))
