use Rattle.sparql_algebra.specs.SplitTrees.{pure_split}
use Rattle.sage.proofs.Selecting.{read_of}
use Rattle.sage.proofs.select.read_select.Goals as goal

pub returns-in-Ok : goal.returns-in-Ok
returns-in-Ok c = read_of c.args.query.now (pure_split c.in-Ok.split) c.in-Ok.ensures.found c.select_of.result c.select_of.ensures
