use Rattle.std.proofs.Common.{subst, sym, ◌↔◌}
use Rattle.std.specs.Prelude.{IsTrue}
use Rattle.btree_scan.specs.Cuts.{HasPrefix}
use Rattle.store_image.specs.Keys.{ids_of_key}
use Rattle.triple_store.specs.Asked.{asks_for, index_for}
use Rattle.triple_store.proofs.Fronts.{front_asks, refuted}
use Rattle.triple_store.proofs.asked.Asked.prefix.Goals as goal

pub returns-clause-asks : goal.returns-clause-asks
returns-clause-asks c = λ key. subst (λ x. HasPrefix x key ↔ IsTrue (asks_for c.args.self.now (ids_of_key (index_for c.args.self.now) key))) (sym c.front.ensures.is)
    (front_asks c.args.self.now key
    (refuted c.is_nothing.result _ c.is_nothing.ensures c.if-is_nothing.false)
    (refuted c.is_nothing-2.result _ c.is_nothing-2.ensures c.if-is_nothing-2.false)
    (refuted c.is_nothing-3.result _ c.is_nothing-3.ensures c.if-is_nothing-3.false))
