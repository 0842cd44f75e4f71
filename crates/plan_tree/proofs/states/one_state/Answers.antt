use Rattle.plan_tree.proofs.states.one_state.Goals as goal
use Rattle.plan_tree.proofs.Standing.{one_state, one_state_at, stands_below}
use Rattle.plan_tree.proofs.Apart.{other_places_at}

pub returns-clause-one : goal.returns-clause-one
returns-clause-one c = one_state

pub returns-clause-whole : goal.returns-clause-whole
returns-clause-whole c = one_state_at

pub returns-clause-below : goal.returns-clause-below
returns-clause-below c = stands_below

pub returns-clause-apart : goal.returns-clause-apart
returns-clause-apart c = other_places_at
