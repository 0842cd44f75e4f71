use Rattle.preempt_join.proofs.Rooted.{state_after}
use Rattle.preempt_join.proofs.node.Node.state.Goals as goal

pub returns-in-Ok-clause-stands : goal.returns-in-Ok-clause-stands
returns-in-Ok-clause-stands c = λ D n there. state_after D c.args.self.now n _ c.in-Ok.ensures there
