use Rattle.std.proofs.Common.{ap, ◌∙◌, drop}
use Rattle.std.specs.Prelude.{Some}
use Rattle.sage_outside.proofs.Pieces.{taken_more}
use Rattle.sage_outside.proofs.conn_in_memory.MemConnConn.take.Goals as goal

pub returns-clause-takes : goal.returns-clause-takes
returns-clause-takes c = ap Some (taken_more _ _ _ _ _ (c.rest_of-rest.ensures ∙ ap (drop _) c.deref.ensures.value) c.fill_piece-count.ensures.filled.filled)
