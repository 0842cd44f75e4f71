use Rattle.preempt_join.proofs.Saved.{state_is}
use Rattle.preempt_join.proofs.states.states_stand.Goals as goal

pub returns : goal.returns
returns c = state_is
