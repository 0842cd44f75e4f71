use Rattle.std.proofs.Common.{sym, subst}
use Rattle.sparql_tree.specs.Refusals.{AreSymbols}
use Rattle.sparql_read.proofs.Texts.{why-refused}
use Rattle.sparql_read.proofs.tree.read_tree.Goals as goal

pub returns-clause-why : goal.returns-clause-why
returns-clause-why c = why-refused _ _ _ (subst (AreSymbols _) (sym c.as_slice.ensures) c.in_ok-found.ensures.found) c.read_symbols.ensures.why
