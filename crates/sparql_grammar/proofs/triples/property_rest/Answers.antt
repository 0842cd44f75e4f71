use Rattle.std.proofs.Common.{arith, rules}
use Rattle.std.proofs.lemmas.Grind.{common_steps}
use Rattle.sparql_grammar.specs.Parser.{repeat, all_steps}
use Rattle.sparql_grammar.proofs.Turns.{turn_left, no_turn_left}
use Rattle.sparql_grammar.specs.TripleReading as spec
use Rattle.sparql_grammar.specs.TripleReading.{object_rest, property_rest, block, block_within}
use Rattle.sparql_grammar.proofs.triples.property_rest.Goals as goal

pub loop-turn-init : goal.loop-turn-init
unfolding property_rest all_steps
loop-turn-init c = first_of (search rules, grind (arith, common_steps))

pub returns-in_err-property-in-Some-Semicolon : goal.returns-in_err-property-in-Some-Semicolon
unfolding repeat
returns-in_err-property-in-Some-Semicolon c =
    let e = turn_left (λ n. repeat (spec.property_turn c.args.subject.now) n c.loop-turn.found c.loop-turn.cursor) _ c.loop-turn._turn c.loop-turn-test.true c.loop-turn.invariant in
    first_of (search rules, grind (arith, common_steps))

pub returns-in_default : goal.returns-in_default
unfolding repeat
returns-in_default c =
    let e = turn_left (λ n. repeat (spec.property_turn c.args.subject.now) n c.loop-turn.found c.loop-turn.cursor) _ c.loop-turn._turn c.loop-turn-test.true c.loop-turn.invariant in
    first_of (search rules, grind (arith, common_steps))

pub returns-in_default-2 : goal.returns-in_default-2
unfolding repeat
returns-in_default-2 c =
    let e = turn_left (λ n. repeat (spec.property_turn c.args.subject.now) n c.loop-turn.found c.loop-turn.cursor) _ c.loop-turn._turn c.loop-turn-test.true c.loop-turn.invariant in
    first_of (search rules, grind (arith, common_steps))

pub loop-turn-preserved : goal.loop-turn-preserved
unfolding repeat
loop-turn-preserved c =
    let e = turn_left (λ n. repeat (spec.property_turn c.args.subject.now) n c.loop-turn.found c.loop-turn.cursor) _ c.loop-turn._turn c.loop-turn-test.true c.loop-turn.invariant in
    first_of (search rules, grind (arith, common_steps))

pub returns : goal.returns
unfolding repeat
returns c =
    let e = no_turn_left (λ n. repeat (spec.property_turn c.args.subject.now) n c.loop-turn.found c.loop-turn.cursor) _ c.loop-turn._turn c.loop-turn-test.false c.loop-turn.invariant in
    first_of (search rules, grind (arith, common_steps))
