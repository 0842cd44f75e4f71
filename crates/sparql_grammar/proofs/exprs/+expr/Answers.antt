use Rattle.std.proofs.Common.{◌≡◌, ◌-◌, suc, ap, arith, rules}
use Rattle.std.proofs.lemmas.Grind.{common_steps}
use Rattle.sparql_tree.specs.ExprTrees.{trees_of, signs_of, factors_of}
use Rattle.sparql_grammar.specs.Parser.{more, all_more}
use Rattle.sparql_grammar.specs.ExprReading as spec
use Rattle.sparql_grammar.specs.ExprReading.{expr, or_from, and_from, list_from, sum_rest, product_rest}
use Rattle.sparql_grammar.proofs.Turns.{turn_left, no_turn_left}
use Rattle.sparql_grammar.proofs.exprs.+expr.Goals as goal

pub expr-returns-then-room-eq0 : goal.expr-returns-then-room-eq0
unfolding expr
expr-returns-then-room-eq0 t c = let none : c.args.room ≡ 0 = omega arith in ap (λ n. expr n c.args.aggregates c.args.cursor.now) none

pub expr-returns : goal.expr-returns
unfolding expr
expr-returns t c =
    let e : c.args.room ≡ suc (c.args.room - 1) = omega arith in
    rw (ap (λ n. expr n c.args.aggregates c.args.cursor.now) e) c.or.ensures

pub or_from-loop-turn-init : goal.or_from-loop-turn-init
unfolding or_from all_more
or_from-loop-turn-init t c = first_of (search rules, grind (arith, common_steps))

pub or_from-returns-in_err-and-in-Some-Or : goal.or_from-returns-in_err-and-in-Some-Or
unfolding more
or_from-returns-in_err-and-in-Some-Or t c =
    let e = turn_left (λ n. more (spec.or_turn (expr c.args.room) c.args.aggregates) n (trees_of c.loop-turn.found.items) c.loop-turn.cursor) _ c.loop-turn._turn c.loop-turn-test.true c.loop-turn.invariant in
    first_of (search rules, grind (arith, common_steps))

pub or_from-returns-in_default : goal.or_from-returns-in_default
unfolding more
or_from-returns-in_default t c =
    let e = turn_left (λ n. more (spec.or_turn (expr c.args.room) c.args.aggregates) n (trees_of c.loop-turn.found.items) c.loop-turn.cursor) _ c.loop-turn._turn c.loop-turn-test.true c.loop-turn.invariant in
    first_of (search rules, grind (arith, common_steps))

pub or_from-loop-turn-preserved : goal.or_from-loop-turn-preserved
unfolding more
or_from-loop-turn-preserved t c =
    let e = turn_left (λ n. more (spec.or_turn (expr c.args.room) c.args.aggregates) n (trees_of c.loop-turn.found.items) c.loop-turn.cursor) _ c.loop-turn._turn c.loop-turn-test.true c.loop-turn.invariant in
    first_of (search rules, grind (arith, common_steps))

pub or_from-returns : goal.or_from-returns
unfolding more
or_from-returns t c =
    let e = no_turn_left (λ n. more (spec.or_turn (expr c.args.room) c.args.aggregates) n (trees_of c.loop-turn.found.items) c.loop-turn.cursor) _ c.loop-turn._turn c.loop-turn-test.false c.loop-turn.invariant in
    first_of (search rules, grind (arith, common_steps))

pub and_from-loop-turn-init : goal.and_from-loop-turn-init
unfolding and_from all_more
and_from-loop-turn-init t c = first_of (search rules, grind (arith, common_steps))

pub and_from-returns-in_err-rel-in-Some-And : goal.and_from-returns-in_err-rel-in-Some-And
unfolding more
and_from-returns-in_err-rel-in-Some-And t c =
    let e = turn_left (λ n. more (spec.and_turn (expr c.args.room) c.args.aggregates) n (trees_of c.loop-turn.found.items) c.loop-turn.cursor) _ c.loop-turn._turn c.loop-turn-test.true c.loop-turn.invariant in
    first_of (search rules, grind (arith, common_steps))

pub and_from-returns-in_default : goal.and_from-returns-in_default
unfolding more
and_from-returns-in_default t c =
    let e = turn_left (λ n. more (spec.and_turn (expr c.args.room) c.args.aggregates) n (trees_of c.loop-turn.found.items) c.loop-turn.cursor) _ c.loop-turn._turn c.loop-turn-test.true c.loop-turn.invariant in
    first_of (search rules, grind (arith, common_steps))

pub and_from-loop-turn-preserved : goal.and_from-loop-turn-preserved
unfolding more
and_from-loop-turn-preserved t c =
    let e = turn_left (λ n. more (spec.and_turn (expr c.args.room) c.args.aggregates) n (trees_of c.loop-turn.found.items) c.loop-turn.cursor) _ c.loop-turn._turn c.loop-turn-test.true c.loop-turn.invariant in
    first_of (search rules, grind (arith, common_steps))

pub and_from-returns : goal.and_from-returns
unfolding more
and_from-returns t c =
    let e = no_turn_left (λ n. more (spec.and_turn (expr c.args.room) c.args.aggregates) n (trees_of c.loop-turn.found.items) c.loop-turn.cursor) _ c.loop-turn._turn c.loop-turn-test.false c.loop-turn.invariant in
    first_of (search rules, grind (arith, common_steps))

pub list_from-loop-turn-init : goal.list_from-loop-turn-init
unfolding list_from all_more
list_from-loop-turn-init t c = first_of (search rules, grind (arith, common_steps))

pub list_from-returns-in_err-expr-in-Some-Comma : goal.list_from-returns-in_err-expr-in-Some-Comma
unfolding more
list_from-returns-in_err-expr-in-Some-Comma t c =
    let e = turn_left (λ n. more (spec.list_turn (expr c.args.room) c.args.aggregates) n (trees_of c.loop-turn.found.items) c.loop-turn.cursor) _ c.loop-turn._turn c.loop-turn-test.true c.loop-turn.invariant in
    first_of (search rules, grind (arith, common_steps))

pub list_from-returns-in_default : goal.list_from-returns-in_default
unfolding more
list_from-returns-in_default t c =
    let e = turn_left (λ n. more (spec.list_turn (expr c.args.room) c.args.aggregates) n (trees_of c.loop-turn.found.items) c.loop-turn.cursor) _ c.loop-turn._turn c.loop-turn-test.true c.loop-turn.invariant in
    first_of (search rules, grind (arith, common_steps))

pub list_from-loop-turn-preserved : goal.list_from-loop-turn-preserved
unfolding more
list_from-loop-turn-preserved t c =
    let e = turn_left (λ n. more (spec.list_turn (expr c.args.room) c.args.aggregates) n (trees_of c.loop-turn.found.items) c.loop-turn.cursor) _ c.loop-turn._turn c.loop-turn-test.true c.loop-turn.invariant in
    first_of (search rules, grind (arith, common_steps))

pub list_from-returns : goal.list_from-returns
unfolding more
list_from-returns t c =
    let e = no_turn_left (λ n. more (spec.list_turn (expr c.args.room) c.args.aggregates) n (trees_of c.loop-turn.found.items) c.loop-turn.cursor) _ c.loop-turn._turn c.loop-turn-test.false c.loop-turn.invariant in
    first_of (search rules, grind (arith, common_steps))

pub sum_rest-loop-turn-init : goal.sum_rest-loop-turn-init
unfolding sum_rest all_more
sum_rest-loop-turn-init t c = first_of (search rules, grind (arith, common_steps))

pub sum_rest-returns-in_err-value-in-Some-Plus : goal.sum_rest-returns-in_err-value-in-Some-Plus
unfolding more
sum_rest-returns-in_err-value-in-Some-Plus t c =
    let e = turn_left (λ n. more (spec.sum_turn (expr c.args.room) c.args.aggregates) n (signs_of c.loop-turn.found.items) c.loop-turn.cursor) _ c.loop-turn._turn c.loop-turn-test.true c.loop-turn.invariant in
    first_of (search rules, grind (arith, common_steps))

pub sum_rest-returns-in_err-value-in-Some-Minus : goal.sum_rest-returns-in_err-value-in-Some-Minus
unfolding more
sum_rest-returns-in_err-value-in-Some-Minus t c =
    let e = turn_left (λ n. more (spec.sum_turn (expr c.args.room) c.args.aggregates) n (signs_of c.loop-turn.found.items) c.loop-turn.cursor) _ c.loop-turn._turn c.loop-turn-test.true c.loop-turn.invariant in
    first_of (search rules, grind (arith, common_steps))

pub sum_rest-returns-in_default : goal.sum_rest-returns-in_default
unfolding more
sum_rest-returns-in_default t c =
    let e = turn_left (λ n. more (spec.sum_turn (expr c.args.room) c.args.aggregates) n (signs_of c.loop-turn.found.items) c.loop-turn.cursor) _ c.loop-turn._turn c.loop-turn-test.true c.loop-turn.invariant in
    first_of (search rules, grind (arith, common_steps))

pub sum_rest-loop-turn-preserved : goal.sum_rest-loop-turn-preserved
unfolding more
sum_rest-loop-turn-preserved t c =
    let e = turn_left (λ n. more (spec.sum_turn (expr c.args.room) c.args.aggregates) n (signs_of c.loop-turn.found.items) c.loop-turn.cursor) _ c.loop-turn._turn c.loop-turn-test.true c.loop-turn.invariant in
    first_of (search rules, grind (arith, common_steps))

pub sum_rest-returns : goal.sum_rest-returns
unfolding more
sum_rest-returns t c =
    let e = no_turn_left (λ n. more (spec.sum_turn (expr c.args.room) c.args.aggregates) n (signs_of c.loop-turn.found.items) c.loop-turn.cursor) _ c.loop-turn._turn c.loop-turn-test.false c.loop-turn.invariant in
    first_of (search rules, grind (arith, common_steps))

pub product_rest-loop-turn-init : goal.product_rest-loop-turn-init
unfolding product_rest all_more
product_rest-loop-turn-init t c = first_of (search rules, grind (arith, common_steps))

pub product_rest-returns-in_err-value-in-Some-Star : goal.product_rest-returns-in_err-value-in-Some-Star
unfolding more
product_rest-returns-in_err-value-in-Some-Star t c =
    let e = turn_left (λ n. more (spec.product_turn (expr c.args.room) c.args.aggregates) n (factors_of c.loop-turn.found.items) c.loop-turn.cursor) _ c.loop-turn._turn c.loop-turn-test.true c.loop-turn.invariant in
    first_of (search rules, grind (arith, common_steps))

pub product_rest-returns-in_err-value-in-Some-Slash : goal.product_rest-returns-in_err-value-in-Some-Slash
unfolding more
product_rest-returns-in_err-value-in-Some-Slash t c =
    let e = turn_left (λ n. more (spec.product_turn (expr c.args.room) c.args.aggregates) n (factors_of c.loop-turn.found.items) c.loop-turn.cursor) _ c.loop-turn._turn c.loop-turn-test.true c.loop-turn.invariant in
    first_of (search rules, grind (arith, common_steps))

pub product_rest-returns-in_default : goal.product_rest-returns-in_default
unfolding more
product_rest-returns-in_default t c =
    let e = turn_left (λ n. more (spec.product_turn (expr c.args.room) c.args.aggregates) n (factors_of c.loop-turn.found.items) c.loop-turn.cursor) _ c.loop-turn._turn c.loop-turn-test.true c.loop-turn.invariant in
    first_of (search rules, grind (arith, common_steps))

pub product_rest-loop-turn-preserved : goal.product_rest-loop-turn-preserved
unfolding more
product_rest-loop-turn-preserved t c =
    let e = turn_left (λ n. more (spec.product_turn (expr c.args.room) c.args.aggregates) n (factors_of c.loop-turn.found.items) c.loop-turn.cursor) _ c.loop-turn._turn c.loop-turn-test.true c.loop-turn.invariant in
    first_of (search rules, grind (arith, common_steps))

pub product_rest-returns : goal.product_rest-returns
unfolding more
product_rest-returns t c =
    let e = no_turn_left (λ n. more (spec.product_turn (expr c.args.room) c.args.aggregates) n (factors_of c.loop-turn.found.items) c.loop-turn.cursor) _ c.loop-turn._turn c.loop-turn-test.false c.loop-turn.invariant in
    first_of (search rules, grind (arith, common_steps))
