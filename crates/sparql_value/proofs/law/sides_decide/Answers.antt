use Rattle.sparql_value.proofs.Sides.{or_decides, and_decides, in_decides}
use Rattle.sparql_value.proofs.law.sides_decide.Goals as goal

pub returns : goal.returns
returns c = record { by_or = or_decides; by_and = and_decides; by_in = in_decides }
