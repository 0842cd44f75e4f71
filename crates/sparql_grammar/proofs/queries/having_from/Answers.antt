use Rattle.std.proofs.Common.{arith, rules}
use Rattle.std.proofs.lemmas.Grind.{common_steps}
use Rattle.sparql_grammar.specs.Parser.{more, all_more}
use Rattle.sparql_grammar.proofs.Turns.{turn_left, no_turn_left}
use Rattle.sparql_tree.specs.ExprTrees.{trees_of}
use Rattle.sparql_grammar.specs.QueryReading as spec
use Rattle.sparql_grammar.proofs.queries.having_from.Goals as goal

pub loop-turn-init : goal.loop-turn-init
unfolding spec.having_from all_more
loop-turn-init c = first_of (search rules, grind (arith, common_steps))

pub returns-in_err-constraint-in-Some-Open : goal.returns-in_err-constraint-in-Some-Open
unfolding more
returns-in_err-constraint-in-Some-Open c =
    let e = turn_left (λ n. more (spec.having_turn c.args.room) n (trees_of c.loop-turn.found) c.loop-turn.cursor) _ c.loop-turn._turn c.loop-turn-test.true c.loop-turn.invariant in
    first_of (search rules, grind (arith, common_steps))

pub returns-in_err-constraint-in-Some-Function : goal.returns-in_err-constraint-in-Some-Function
unfolding more
returns-in_err-constraint-in-Some-Function c =
    let e = turn_left (λ n. more (spec.having_turn c.args.room) n (trees_of c.loop-turn.found) c.loop-turn.cursor) _ c.loop-turn._turn c.loop-turn-test.true c.loop-turn.invariant in
    first_of (search rules, grind (arith, common_steps))

pub returns-in_err-constraint-in-Some-Aggregate : goal.returns-in_err-constraint-in-Some-Aggregate
unfolding more
returns-in_err-constraint-in-Some-Aggregate c =
    let e = turn_left (λ n. more (spec.having_turn c.args.room) n (trees_of c.loop-turn.found) c.loop-turn.cursor) _ c.loop-turn._turn c.loop-turn-test.true c.loop-turn.invariant in
    first_of (search rules, grind (arith, common_steps))

pub returns-in_default : goal.returns-in_default
unfolding more
returns-in_default c =
    let e = turn_left (λ n. more (spec.having_turn c.args.room) n (trees_of c.loop-turn.found) c.loop-turn.cursor) _ c.loop-turn._turn c.loop-turn-test.true c.loop-turn.invariant in
    first_of (search rules, grind (arith, common_steps))

pub loop-turn-preserved : goal.loop-turn-preserved
unfolding more
loop-turn-preserved c =
    let e = turn_left (λ n. more (spec.having_turn c.args.room) n (trees_of c.loop-turn.found) c.loop-turn.cursor) _ c.loop-turn._turn c.loop-turn-test.true c.loop-turn.invariant in
    first_of (search rules, grind (arith, common_steps))

pub returns : goal.returns
unfolding more
returns c =
    let e = no_turn_left (λ n. more (spec.having_turn c.args.room) n (trees_of c.loop-turn.found) c.loop-turn.cursor) _ c.loop-turn._turn c.loop-turn-test.false c.loop-turn.invariant in
    first_of (search rules, grind (arith, common_steps))
