use Rattle.plan_tree.proofs.law.bag_is_kept.Goals as goal
use Rattle.plan_tree.proofs.Algebras.{bag_kept}

pub returns : goal.returns
returns c = record { bag = bag_kept }
