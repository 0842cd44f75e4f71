use Rattle.sage_outside.proofs.Places.{nowhere_or_place}
use Rattle.sage_outside.proofs.files_in_memory.place.Goals as goal

pub returns-clause-missing : goal.returns-clause-missing
returns-clause-missing c = (nowhere_or_place _ _ _ c.position_of.ensures).0

pub returns-clause-found : goal.returns-clause-found
returns-clause-found c = (nowhere_or_place _ _ _ c.position_of.ensures).1
