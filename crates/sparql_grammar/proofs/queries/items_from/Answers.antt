use Rattle.std.proofs.Common.{arith, rules}
use Rattle.std.proofs.lemmas.Grind.{common_steps}
use Rattle.sparql_grammar.specs.Parser.{more, all_more}
use Rattle.sparql_grammar.proofs.Turns.{turn_left, no_turn_left}
use Rattle.std.specs.Prelude.{map}
use Rattle.sparql_tree.specs.GroupTrees.{item_of}
use Rattle.sparql_grammar.specs.QueryReading as spec
use Rattle.sparql_grammar.proofs.queries.items_from.Goals as goal

pub loop-turn-init : goal.loop-turn-init
unfolding spec.items_from all_more
loop-turn-init c = first_of (search rules, grind (arith, common_steps))

pub returns-in_err-one_item-in-Some-Var : goal.returns-in_err-one_item-in-Some-Var
unfolding more
returns-in_err-one_item-in-Some-Var c =
    let e = turn_left (λ n. more (spec.item_turn c.args.room) n (map item_of c.loop-turn.found.items) c.loop-turn.cursor) _ c.loop-turn._turn c.loop-turn-test.true c.loop-turn.invariant in
    first_of (search rules, grind (arith, common_steps))

pub returns-in_err-one_item-in-Some-Open : goal.returns-in_err-one_item-in-Some-Open
unfolding more
returns-in_err-one_item-in-Some-Open c =
    let e = turn_left (λ n. more (spec.item_turn c.args.room) n (map item_of c.loop-turn.found.items) c.loop-turn.cursor) _ c.loop-turn._turn c.loop-turn-test.true c.loop-turn.invariant in
    first_of (search rules, grind (arith, common_steps))

pub returns-in_default : goal.returns-in_default
unfolding more
returns-in_default c =
    let e = turn_left (λ n. more (spec.item_turn c.args.room) n (map item_of c.loop-turn.found.items) c.loop-turn.cursor) _ c.loop-turn._turn c.loop-turn-test.true c.loop-turn.invariant in
    first_of (search rules, grind (arith, common_steps))

pub loop-turn-preserved : goal.loop-turn-preserved
unfolding more
loop-turn-preserved c =
    let e = turn_left (λ n. more (spec.item_turn c.args.room) n (map item_of c.loop-turn.found.items) c.loop-turn.cursor) _ c.loop-turn._turn c.loop-turn-test.true c.loop-turn.invariant in
    first_of (search rules, grind (arith, common_steps))

pub returns : goal.returns
unfolding more
returns c =
    let e = no_turn_left (λ n. more (spec.item_turn c.args.room) n (map item_of c.loop-turn.found.items) c.loop-turn.cursor) _ c.loop-turn._turn c.loop-turn-test.false c.loop-turn.invariant in
    first_of (search rules, grind (arith, common_steps))
