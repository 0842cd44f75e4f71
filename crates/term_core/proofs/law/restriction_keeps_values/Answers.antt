use Rattle.term_core.proofs.Merges.{value-kept, value-dropped}
use Rattle.term_core.proofs.law.restriction_keeps_values.Goals as goal

pub returns-clause-kept : goal.returns-clause-kept
returns-clause-kept c = value-kept

pub returns-clause-dropped : goal.returns-clause-dropped
returns-clause-dropped c = value-dropped
