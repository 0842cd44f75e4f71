use Rattle.plan_tree.proofs.states.bytes_of_shapes.Goals as goal
use Rattle.plan_tree.proofs.Spelled.{one_shape, shapes_short}

pub returns-clause-spelling : goal.returns-clause-spelling
returns-clause-spelling c = one_shape

pub returns-clause-bounded : goal.returns-clause-bounded
returns-clause-bounded c = shapes_short
