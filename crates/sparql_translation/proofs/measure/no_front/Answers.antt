use Rattle.sparql_tree.specs.Translation.{unit}
use Rattle.sparql_translation.proofs.measure.no_front.Goals as goal

pub returns : goal.returns
returns c = c.front_of.ensures unit c.of_unit.ensures
