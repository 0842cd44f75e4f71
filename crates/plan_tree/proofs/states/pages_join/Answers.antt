use Rattle.plan_tree.proofs.states.pages_join.Goals as goal
use Rattle.plan_tree.proofs.Runs.{pages_join}

pub returns : goal.returns
returns c = record { join = λ D plan text quanta pages some run. pages_join D plan text quanta some pages run }
