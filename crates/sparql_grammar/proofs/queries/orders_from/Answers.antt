use Rattle.std.proofs.Common.{arith, rules}
use Rattle.std.proofs.lemmas.Grind.{common_steps}
use Rattle.sparql_grammar.specs.Parser.{more, all_more}
use Rattle.sparql_grammar.proofs.Turns.{turn_left, no_turn_left}
use Rattle.std.specs.Prelude.{map}
use Rattle.sparql_tree.specs.GroupTrees.{order_of}
use Rattle.sparql_grammar.specs.QueryReading as spec
use Rattle.sparql_grammar.proofs.queries.orders_from.Goals as goal

pub loop-turn-init : goal.loop-turn-init
unfolding spec.orders_from all_more
loop-turn-init c = first_of (search rules, grind (arith, common_steps))

pub returns-in_err-one_order-in-Some-Asc : goal.returns-in_err-one_order-in-Some-Asc
unfolding more
returns-in_err-one_order-in-Some-Asc c =
    let e = turn_left (λ n. more (spec.order_turn c.args.room) n (map order_of c.loop-turn.found) c.loop-turn.cursor) _ c.loop-turn._turn c.loop-turn-test.true c.loop-turn.invariant in
    first_of (search rules, grind (arith, common_steps))

pub returns-in_err-one_order-in-Some-Desc : goal.returns-in_err-one_order-in-Some-Desc
unfolding more
returns-in_err-one_order-in-Some-Desc c =
    let e = turn_left (λ n. more (spec.order_turn c.args.room) n (map order_of c.loop-turn.found) c.loop-turn.cursor) _ c.loop-turn._turn c.loop-turn-test.true c.loop-turn.invariant in
    first_of (search rules, grind (arith, common_steps))

pub returns-in_err-one_order-in-Some-Var : goal.returns-in_err-one_order-in-Some-Var
unfolding more
returns-in_err-one_order-in-Some-Var c =
    let e = turn_left (λ n. more (spec.order_turn c.args.room) n (map order_of c.loop-turn.found) c.loop-turn.cursor) _ c.loop-turn._turn c.loop-turn-test.true c.loop-turn.invariant in
    first_of (search rules, grind (arith, common_steps))

pub returns-in_err-one_order-in-Some-Open : goal.returns-in_err-one_order-in-Some-Open
unfolding more
returns-in_err-one_order-in-Some-Open c =
    let e = turn_left (λ n. more (spec.order_turn c.args.room) n (map order_of c.loop-turn.found) c.loop-turn.cursor) _ c.loop-turn._turn c.loop-turn-test.true c.loop-turn.invariant in
    first_of (search rules, grind (arith, common_steps))

pub returns-in_err-one_order-in-Some-Function : goal.returns-in_err-one_order-in-Some-Function
unfolding more
returns-in_err-one_order-in-Some-Function c =
    let e = turn_left (λ n. more (spec.order_turn c.args.room) n (map order_of c.loop-turn.found) c.loop-turn.cursor) _ c.loop-turn._turn c.loop-turn-test.true c.loop-turn.invariant in
    first_of (search rules, grind (arith, common_steps))

pub returns-in_err-one_order-in-Some-Aggregate : goal.returns-in_err-one_order-in-Some-Aggregate
unfolding more
returns-in_err-one_order-in-Some-Aggregate c =
    let e = turn_left (λ n. more (spec.order_turn c.args.room) n (map order_of c.loop-turn.found) c.loop-turn.cursor) _ c.loop-turn._turn c.loop-turn-test.true c.loop-turn.invariant in
    first_of (search rules, grind (arith, common_steps))

pub returns-in_default : goal.returns-in_default
unfolding more
returns-in_default c =
    let e = turn_left (λ n. more (spec.order_turn c.args.room) n (map order_of c.loop-turn.found) c.loop-turn.cursor) _ c.loop-turn._turn c.loop-turn-test.true c.loop-turn.invariant in
    first_of (search rules, grind (arith, common_steps))

pub loop-turn-preserved : goal.loop-turn-preserved
unfolding more
loop-turn-preserved c =
    let e = turn_left (λ n. more (spec.order_turn c.args.room) n (map order_of c.loop-turn.found) c.loop-turn.cursor) _ c.loop-turn._turn c.loop-turn-test.true c.loop-turn.invariant in
    first_of (search rules, grind (arith, common_steps))

pub returns : goal.returns
unfolding more
returns c =
    let e = no_turn_left (λ n. more (spec.order_turn c.args.room) n (map order_of c.loop-turn.found) c.loop-turn.cursor) _ c.loop-turn._turn c.loop-turn-test.false c.loop-turn.invariant in
    first_of (search rules, grind (arith, common_steps))
