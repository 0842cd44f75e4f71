use Rattle.term_core.proofs.data_law.range_is.Goals as goal
use Rattle.term_core.proofs.Ranges.{range_is}
use Rattle.term_core.proofs.Stretches.{stretch}

pub returns-clause-range : goal.returns-clause-range
returns-clause-range c = range_is

pub returns-clause-stretch : goal.returns-clause-stretch
returns-clause-stretch c = stretch
