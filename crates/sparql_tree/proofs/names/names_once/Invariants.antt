use Rattle.std.proofs.Common.{◌≡◌, take}
use Rattle.term_core.specs.Bags.{distinct}
use Rattle.term_core.specs.Mappings.{same_name}
use Rattle.sparql_tree.specs.NameSets.{HasNames}
use Rattle.sparql_tree.proofs.names.names_once.Given as goal

-- the names so far, each once, and the set of them
abbrev pub invariant-loop-name : goal.invariant-loop-name
invariant-loop-name l = record {
  added : l.found ≡ distinct same_name (take l.name-index l.names);
  seen : HasNames l.seen (take l.name-index l.names);
}
