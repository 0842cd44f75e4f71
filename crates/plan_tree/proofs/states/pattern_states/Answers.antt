use Rattle.plan_tree.proofs.states.pattern_states.Goals as goal
use Rattle.plan_tree.proofs.Single.{pattern_trace, pattern_states, state_is}

pub returns-clause-entries : goal.returns-clause-entries
returns-clause-entries c = pattern_trace

pub returns-clause-stand : goal.returns-clause-stand
returns-clause-stand c = pattern_states

pub returns-clause-others : goal.returns-clause-others
returns-clause-others c = state_is
