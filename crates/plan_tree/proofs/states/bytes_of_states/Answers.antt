use Rattle.plan_tree.proofs.states.bytes_of_states.Goals as goal
use Rattle.plan_tree.proofs.Spelled.{bounded, parts_are, names_told, one_spelling, next_placed}

pub returns-clause-bounded : goal.returns-clause-bounded
returns-clause-bounded c = bounded

pub returns-clause-parts : goal.returns-clause-parts
returns-clause-parts c = parts_are

pub returns-clause-names : goal.returns-clause-names
returns-clause-names c = names_told

pub returns-clause-spelling : goal.returns-clause-spelling
returns-clause-spelling c = one_spelling

pub returns-clause-placed : goal.returns-clause-placed
returns-clause-placed c = next_placed
