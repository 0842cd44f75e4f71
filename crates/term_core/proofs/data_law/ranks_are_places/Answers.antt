use Rattle.term_core.proofs.data_law.ranks_are_places.Goals as goal
use Rattle.term_core.proofs.Ranked.{ranks_are_places, ranks_exact}

pub returns-clause-places : goal.returns-clause-places
returns-clause-places c = ranks_are_places

pub returns-clause-exact : goal.returns-clause-exact
returns-clause-exact c = ranks_exact
