use Rattle.std.proofs.Common.{ap, Err, ◌∙◌}
use Rattle.term_core.specs.Patterns.{pattern_of}
use Rattle.triple_store.proofs.Opened.{handed_on}
use Rattle.triple_store.proofs.Matches.{counted}
use Rattle.triple_store.proofs.store.Store.count.Goals as goal

pub returns-in_err-range-clause-whole : goal.returns-in_err-range-clause-whole
returns-in_err-range-clause-whole g c = λ terms ids block shown e. c.in_err-range.ensures.whole terms ids block shown (ap Err (handed_on _ _ block c.from_residual.ensures e))

pub returns-clause-found : goal.returns-clause-found
returns-clause-found g c = λ L terms ids table shown.
    c.len.ensures.count ∙ counted L terms ids (pattern_of c.args.p.now) c.in_ok-range.range (c.in_ok-range.ensures.found L terms ids table shown)
