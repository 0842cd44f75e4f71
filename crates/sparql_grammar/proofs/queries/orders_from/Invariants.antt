use Rattle.std.proofs.Common.{◌≡◌, [], ◌∷◌, ◌-◌}
use Rattle.std.specs.Prelude.{map}
use Rattle.sparql_tree.specs.GroupTrees.{order_of}
use Rattle.sparql_grammar.specs.Parser.{more}
use Rattle.sparql_grammar.specs.QueryReading as spec
use Rattle.sparql_grammar.proofs.queries.orders_from.Given as goal

abbrev pub invariant-loop-turn : goal.invariant-loop-turn
invariant-loop-turn l = spec.orders_from l.room (order_of l.fn.first ∷ []) l.fn.cursor ≡ more (spec.order_turn l.room) (l._turn-end - l._turn) (map order_of l.found) l.cursor
