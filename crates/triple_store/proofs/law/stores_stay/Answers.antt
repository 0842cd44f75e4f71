use Rattle.triple_store.proofs.Opened.{store_kept}
use Rattle.triple_store.proofs.law.stores_stay.Goals as goal

pub returns : goal.returns
returns c = store_kept
