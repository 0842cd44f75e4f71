use Rattle.std.proofs.Common.{subst, ap, Err}
use Rattle.store_image.specs.Table.{IsFound}
use Rattle.store_image.specs.Keys.{index_numbered, key_in, keys_by}
use Rattle.triple_store.proofs.Opened.{keys_rise, same_fault}
use Rattle.triple_store.proofs.Places.{place_there, nowhere}
use Rattle.triple_store.proofs.store.Store.place_of.Goals as goal

pub returns-in-Some-clause-found : goal.returns-in-Some-clause-found
returns-in-Some-clause-found g c = λ terms ids shown.
    let r = c.args.range.now in
    place_there r ids c.args.t.now c.in-Some.place c.place_at.result (keys_rise c.args.self.now terms ids r.order shown c.requires.range.order) c.requires.range.rises
    (subst (IsFound (keys_by (index_numbered r.order) ids) (key_in (index_numbered r.order) c.args.t.now)) c.in-Some.is (c.in-Ok.ensures.found terms ids shown)) c.place_at.ensures.at c.place_at.ensures.none

pub returns-in-None-clause-found : goal.returns-in-None-clause-found
returns-in-None-clause-found g c = λ terms ids shown.
    let r = c.args.range.now in
    nowhere r ids c.args.t.now (keys_rise c.args.self.now terms ids r.order shown c.requires.range.order)
    (subst (IsFound (keys_by (index_numbered r.order) ids) (key_in (index_numbered r.order) c.args.t.now)) c.in-None.is (c.in-Ok.ensures.found terms ids shown))

pub returns-in-Err-clause-whole : goal.returns-in-Err-clause-whole
returns-in-Err-clause-whole g c = λ terms ids block shown e. c.in-Err.ensures.whole terms ids block shown (ap Err (c.store_fault.ensures.damaged block (same_fault _ _ e)))
