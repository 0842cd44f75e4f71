use Rattle.std.proofs.Common.{◌≡◌, ◌++◌, take, map}
use Rattle.std.specs.Prelude.{filter, option_map}
use Rattle.std.specs.List.{filter_map}
use Rattle.std.specs.Option.{option_copied}
use Rattle.term_core.specs.Mappings.{joined}
use Rattle.sparql_tree.specs.ExprTrees.{tree_of}
use Rattle.sparql_value.specs.Solutions.{holds}
use Rattle.row_bag.specs.Rows.{has_row}
use Rattle.row_bag.proofs.left.match_each.Given as goal

abbrev pub invariant-loop-b : goal.invariant-loop-b
invariant-loop-b l =
    (l.out ≡ l.initial.out ++ filter (holds (option_map tree_of (option_copied l.condition))) (filter_map (joined l.a) (map (λ r. r.now) (take l.b-index l.rows))))
    × (l.any ≡ has_row (filter (holds (option_map tree_of (option_copied l.condition))) (filter_map (joined l.a) (map (λ r. r.now) (take l.b-index l.rows)))))
