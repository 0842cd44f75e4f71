use Rattle.std.proofs.Common.{◌≡◌, [], ◌∷◌, ◌+◌, ◌*◌, ◌-◌}
use Rattle.sparql_grammar.specs.Parser.{more, repeat}
use Rattle.sparql_tree.specs.GroupTrees.{elements_of, group_of, groups_of}
use Rattle.sparql_grammar.specs.ExprReading.{expr}
use Rattle.sparql_grammar.specs.GroupReading as spec
use Rattle.sparql_grammar.proofs.groups.+group.Given as goal

abbrev pub decreases-group : goal.decreases-group
decreases-group l = 10 * l.room

abbrev pub decreases-union_from : goal.decreases-union_from
decreases-union_from l = 10 * l.room + 1

abbrev pub decreases-element : goal.decreases-element
decreases-element l = 10 * l.room + 2

abbrev pub decreases-step : goal.decreases-step
decreases-step l = 10 * l.room + 3

abbrev pub decreases-body : goal.decreases-body
decreases-body l = 10 * l.room + 4

abbrev pub decreases-braced : goal.decreases-braced
decreases-braced l = 10 * l.room + 5

abbrev pub invariant-body-loop-turn : goal.invariant-body-loop-turn
invariant-body-loop-turn l = spec.body (expr l.room) (spec.group l.room) (elements_of l.fn.found.items) l.fn.cursor ≡ repeat (spec.body_turn (expr l.room) (spec.group l.room)) (l._turn-end - l._turn) (elements_of l.found.items) l.cursor

abbrev pub invariant-union_from-loop-turn : goal.invariant-union_from-loop-turn
invariant-union_from-loop-turn l = spec.union_from (expr l.room) (spec.group l.room) (group_of l.fn.first ∷ []) l.fn.cursor ≡ more (spec.union_turn (expr l.room) (spec.group l.room)) (l._turn-end - l._turn) (groups_of l.found.items) l.cursor
