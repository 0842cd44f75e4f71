use Rattle.std.proofs.Common.{arith, rules}
use Rattle.std.proofs.lemmas.Grind.{common_steps}
use Rattle.sparql_grammar.proofs.Turns.{turn_left, no_turn_left}
use Rattle.sparql_grammar.specs.TripleReading as spec
use Rattle.sparql_grammar.specs.TripleReading.{object_rest, property_rest, block, block_within}
use Rattle.sparql_grammar.proofs.triples.block.Goals as goal

pub loop-turn-init : goal.loop-turn-init
unfolding block
loop-turn-init c = first_of (search rules, grind (arith, common_steps))

pub returns-in_err-same_subject : goal.returns-in_err-same_subject
unfolding block_within
returns-in_err-same_subject c =
    let e = turn_left (λ n. spec.block_within n c.loop-turn.found c.loop-turn.cursor) _ c.loop-turn._turn c.loop-turn-test.true c.loop-turn.invariant in
    first_of (search rules, grind (arith, common_steps))

pub returns-then-not-begins_node : goal.returns-then-not-begins_node
unfolding block_within
returns-then-not-begins_node c =
    let e = turn_left (λ n. spec.block_within n c.loop-turn.found c.loop-turn.cursor) _ c.loop-turn._turn c.loop-turn-test.true c.loop-turn.invariant in
    first_of (search rules, grind (arith, common_steps))

pub returns-in_default : goal.returns-in_default
unfolding block_within
returns-in_default c =
    let e = turn_left (λ n. spec.block_within n c.loop-turn.found c.loop-turn.cursor) _ c.loop-turn._turn c.loop-turn-test.true c.loop-turn.invariant in
    first_of (search rules, grind (arith, common_steps))

pub loop-turn-preserved : goal.loop-turn-preserved
unfolding block_within
loop-turn-preserved c =
    let e = turn_left (λ n. spec.block_within n c.loop-turn.found c.loop-turn.cursor) _ c.loop-turn._turn c.loop-turn-test.true c.loop-turn.invariant in
    first_of (search rules, grind (arith, common_steps))

pub returns : goal.returns
unfolding block_within
returns c =
    let e = no_turn_left (λ n. spec.block_within n c.loop-turn.found c.loop-turn.cursor) _ c.loop-turn._turn c.loop-turn-test.false c.loop-turn.invariant in
    first_of (search rules, grind (arith, common_steps))
