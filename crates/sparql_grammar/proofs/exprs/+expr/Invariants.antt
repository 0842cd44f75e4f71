use Rattle.std.proofs.Common.{◌≡◌, [], ◌∷◌, ◌+◌, ◌*◌, ◌-◌}
use Rattle.sparql_tree.specs.ExprTrees.{tree_of, trees_of, signs_of, factors_of}
use Rattle.sparql_grammar.specs.Parser.{more}
use Rattle.sparql_grammar.specs.ExprReading as spec
use Rattle.sparql_grammar.proofs.exprs.+expr.Given as goal

abbrev pub decreases-expr : goal.decreases-expr
decreases-expr l = 20 * l.room + 0

abbrev pub decreases-aggregate : goal.decreases-aggregate
decreases-aggregate l = 20 * l.room + 1

abbrev pub decreases-list_from : goal.decreases-list_from
decreases-list_from l = 20 * l.room + 1

abbrev pub decreases-list : goal.decreases-list
decreases-list l = 20 * l.room + 2

abbrev pub decreases-call : goal.decreases-call
decreases-call l = 20 * l.room + 3

abbrev pub decreases-atom : goal.decreases-atom
decreases-atom l = 20 * l.room + 4

abbrev pub decreases-unary : goal.decreases-unary
decreases-unary l = 20 * l.room + 5

abbrev pub decreases-product_rest : goal.decreases-product_rest
decreases-product_rest l = 20 * l.room + 6

abbrev pub decreases-product : goal.decreases-product
decreases-product l = 20 * l.room + 7

abbrev pub decreases-sum_rest : goal.decreases-sum_rest
decreases-sum_rest l = 20 * l.room + 8

abbrev pub decreases-sum : goal.decreases-sum
decreases-sum l = 20 * l.room + 9

abbrev pub decreases-rel : goal.decreases-rel
decreases-rel l = 20 * l.room + 10

abbrev pub decreases-and_from : goal.decreases-and_from
decreases-and_from l = 20 * l.room + 11

abbrev pub decreases-and : goal.decreases-and
decreases-and l = 20 * l.room + 12

abbrev pub decreases-or_from : goal.decreases-or_from
decreases-or_from l = 20 * l.room + 13

abbrev pub decreases-or : goal.decreases-or
decreases-or l = 20 * l.room + 14

abbrev pub invariant-or_from-loop-turn : goal.invariant-or_from-loop-turn
invariant-or_from-loop-turn l = spec.or_from (spec.expr l.room) l.aggregates (tree_of l.fn.first ∷ []) l.fn.cursor ≡ more (spec.or_turn (spec.expr l.room) l.aggregates) (l._turn-end - l._turn) (trees_of l.found.items) l.cursor

abbrev pub invariant-and_from-loop-turn : goal.invariant-and_from-loop-turn
invariant-and_from-loop-turn l = spec.and_from (spec.expr l.room) l.aggregates (tree_of l.fn.first ∷ []) l.fn.cursor ≡ more (spec.and_turn (spec.expr l.room) l.aggregates) (l._turn-end - l._turn) (trees_of l.found.items) l.cursor

abbrev pub invariant-list_from-loop-turn : goal.invariant-list_from-loop-turn
invariant-list_from-loop-turn l = spec.list_from (spec.expr l.room) l.aggregates (tree_of l.fn.first ∷ []) l.fn.cursor ≡ more (spec.list_turn (spec.expr l.room) l.aggregates) (l._turn-end - l._turn) (trees_of l.found.items) l.cursor

abbrev pub invariant-sum_rest-loop-turn : goal.invariant-sum_rest-loop-turn
invariant-sum_rest-loop-turn l = spec.sum_rest (spec.expr l.room) l.aggregates l.fn.cursor ≡ more (spec.sum_turn (spec.expr l.room) l.aggregates) (l._turn-end - l._turn) (signs_of l.found.items) l.cursor

abbrev pub invariant-product_rest-loop-turn : goal.invariant-product_rest-loop-turn
invariant-product_rest-loop-turn l = spec.product_rest (spec.expr l.room) l.aggregates l.fn.cursor ≡ more (spec.product_turn (spec.expr l.room) l.aggregates) (l._turn-end - l._turn) (factors_of l.found.items) l.cursor
