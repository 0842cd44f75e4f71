use Rattle.std.proofs.Common.{◌≡◌, [], ◌∷◌, ◌-◌}
use Rattle.sparql_tree.specs.ExprTrees.{tree_of, trees_of}
use Rattle.sparql_grammar.specs.Parser.{more}
use Rattle.sparql_grammar.specs.QueryReading as spec
use Rattle.sparql_grammar.proofs.queries.having_from.Given as goal

abbrev pub invariant-loop-turn : goal.invariant-loop-turn
invariant-loop-turn l = spec.having_from l.room (tree_of l.fn.first ∷ []) l.fn.cursor ≡ more (spec.having_turn l.room) (l._turn-end - l._turn) (trees_of l.found) l.cursor
