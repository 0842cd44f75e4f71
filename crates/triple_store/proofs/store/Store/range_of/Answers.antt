use Rattle.std.proofs.Common.{ap, Err}
use Rattle.term_core.specs.Patterns.{pattern_of}
use Rattle.triple_store.proofs.Opened.{handed_on, same_fault, shown_kept}
use Rattle.std.specs.FinMap as finmap
use Rattle.triple_store.proofs.store.Store.range_of.Goals as goal

pub returns-in_err-asked-clause-whole : goal.returns-in_err-asked-clause-whole
returns-in_err-asked-clause-whole g c = λ terms ids block shown e. c.in_err-asked.ensures.whole terms ids block shown (ap Err (handed_on _ _ block c.from_residual.ensures e))

pub returns-in-Ok-clause-found : goal.returns-in-Ok-clause-found
returns-in-Ok-clause-found g c = λ L terms ids table shown.
    c.in-Ok.ensures.found L terms ids (pattern_of c.args.p.now) finmap.empty table (shown_kept _ _ terms ids c.asked_of.ensures.kept shown)
    record { index = c.in_ok-asked.ensures.index; same = λ i below. c.in_ok-asked.ensures.found terms ids i shown below }

pub returns-in-Err-clause-whole : goal.returns-in-Err-clause-whole
returns-in-Err-clause-whole g c = λ terms ids block shown e.
    c.in-Err.ensures.whole terms ids block (shown_kept _ _ terms ids c.asked_of.ensures.kept shown) (ap Err (c.store_fault.ensures.damaged block (same_fault _ _ e)))
