use Rattle.block_cache.proofs.Entries.{kept_more}
use Rattle.block_cache.proofs.store.keep.Goals as goal

pub returns-in-Ok : goal.returns-in-Ok
returns-in-Ok c = record { kept = λ image is are. rw c.in-Ok.ensures.entries (kept_more image c.args.kept.now c.args.n c.args.block is are) }
