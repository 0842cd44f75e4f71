use Rattle.std.proofs.Common.{◌≡◌, [], ◌∷◌, ◌-◌}
use Rattle.std.specs.Prelude.{map}
use Rattle.sparql_tree.specs.GroupTrees.{item_of}
use Rattle.sparql_grammar.specs.Parser.{more}
use Rattle.sparql_grammar.specs.QueryReading as spec
use Rattle.sparql_grammar.proofs.queries.items_from.Given as goal

abbrev pub invariant-loop-turn : goal.invariant-loop-turn
invariant-loop-turn l = spec.items_from l.room (item_of l.fn.first ∷ []) l.fn.cursor ≡ more (spec.item_turn l.room) (l._turn-end - l._turn) (map item_of l.found.items) l.cursor
