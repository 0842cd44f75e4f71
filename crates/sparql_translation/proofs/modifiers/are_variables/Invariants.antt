use Rattle.std.proofs.Common.{◌≡◌, drop, map}
use Rattle.std.specs.List.{list_all}
use Rattle.sparql_tree.specs.GroupTrees.{item_of}
use Rattle.sparql_translation.specs.Modifiers.{is_alone}
use Rattle.sparql_translation.proofs.modifiers.are_variables.Given as goal

-- what is left decides
abbrev pub invariant-loop-item : goal.invariant-loop-item
invariant-loop-item l = list_all is_alone (map item_of (drop l.item-index l.items)) ≡ list_all is_alone (map item_of l.items)
