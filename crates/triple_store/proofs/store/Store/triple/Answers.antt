use Rattle.std.proofs.Common.{ap, Err}
use Rattle.triple_store.proofs.Opened.{same_fault}
use Rattle.triple_store.proofs.Places.{triple_at_place}
use Rattle.triple_store.proofs.store.Store.triple.Goals as goal

pub returns-in-Ok-clause-found : goal.returns-in-Ok-clause-found
returns-in-Ok-clause-found g c = λ terms ids shown. triple_at_place c.args.range.now ids c.in-Ok.triple c.args.place c.requires.within (c.in-Ok.ensures.found terms ids shown)

pub returns-in-Err-clause-whole : goal.returns-in-Err-clause-whole
returns-in-Err-clause-whole g c = λ terms ids block shown e. c.in-Err.ensures.whole terms ids block shown (ap Err (c.store_fault.ensures.damaged block (same_fault _ _ e)))
