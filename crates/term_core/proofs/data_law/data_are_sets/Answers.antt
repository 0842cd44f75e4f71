use Rattle.term_core.proofs.data_law.data_are_sets.Goals as goal
use Rattle.term_core.proofs.Sets.{one_set}

pub returns : goal.returns
returns c = record { same = one_set }
