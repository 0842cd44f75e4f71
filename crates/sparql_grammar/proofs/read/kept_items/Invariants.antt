use Rattle.std.proofs.Common.{◌≡◌, []}
use Rattle.std.specs.Prelude.{map}
use Rattle.sparql_tree.specs.GroupTrees.{item_of}
use Rattle.sparql_tree.specs.Queries.{variables, with_items}
use Rattle.sparql_tree.specs.NameSets.{HasNames}
use Rattle.sparql_grammar.proofs.read.kept_items.Given as goal

-- what is left gives, behind what is kept so far, what all gives
abbrev pub invariant-loop-item : goal.invariant-loop-item
invariant-loop-item l = record {
  kept : with_items (map item_of l.found) (map item_of l.item-iterator.rest.items) ≡ with_items [] (map item_of l.fn.written.items);
  seen : HasNames l.seen (variables (map item_of l.found));
}
