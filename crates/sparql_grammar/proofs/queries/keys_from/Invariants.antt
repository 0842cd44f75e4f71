use Rattle.std.proofs.Common.{◌≡◌, [], ◌∷◌, ◌-◌}
use Rattle.std.specs.Prelude.{map}
use Rattle.sparql_tree.specs.GroupTrees.{key_of}
use Rattle.sparql_grammar.specs.Parser.{more}
use Rattle.sparql_grammar.specs.QueryReading as spec
use Rattle.sparql_grammar.proofs.queries.keys_from.Given as goal

abbrev pub invariant-loop-turn : goal.invariant-loop-turn
invariant-loop-turn l = spec.keys_from l.room (key_of l.fn.first ∷ []) l.fn.cursor ≡ more (spec.key_turn l.room) (l._turn-end - l._turn) (map key_of l.found) l.cursor
