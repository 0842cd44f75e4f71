use Rattle.std.proofs.Common.{arith, rules}
use Rattle.std.proofs.lemmas.Grind.{common_steps}
use Rattle.sparql_grammar.specs.Parser.{more, all_more}
use Rattle.sparql_grammar.proofs.Turns.{turn_left, no_turn_left}
use Rattle.sparql_grammar.specs.ValueReading as spec
use Rattle.sparql_grammar.specs.ValueReading.{row, row_with, one_rows, names, full_rows}
use Rattle.sparql_grammar.proofs.values.one_rows.Goals as goal

pub loop-turn-init : goal.loop-turn-init
unfolding one_rows all_more
loop-turn-init c = first_of (search rules, grind (arith, common_steps))

pub returns-in-Some-CloseBrace : goal.returns-in-Some-CloseBrace
unfolding more
returns-in-Some-CloseBrace c =
    let e = turn_left (λ n. more (spec.one_turn c.args.variables.now) n c.loop-turn.found c.loop-turn.cursor) _ c.loop-turn._turn c.loop-turn-test.true c.loop-turn.invariant in
    first_of (search rules, grind (arith, common_steps))

pub returns-in_err-row-in_default : goal.returns-in_err-row-in_default
unfolding more
returns-in_err-row-in_default c =
    let e = turn_left (λ n. more (spec.one_turn c.args.variables.now) n c.loop-turn.found c.loop-turn.cursor) _ c.loop-turn._turn c.loop-turn-test.true c.loop-turn.invariant in
    first_of (search rules, grind (arith, common_steps))

pub loop-turn-preserved : goal.loop-turn-preserved
unfolding more
loop-turn-preserved c =
    let e = turn_left (λ n. more (spec.one_turn c.args.variables.now) n c.loop-turn.found c.loop-turn.cursor) _ c.loop-turn._turn c.loop-turn-test.true c.loop-turn.invariant in
    first_of (search rules, grind (arith, common_steps))

pub returns : goal.returns
unfolding more
returns c =
    let e = no_turn_left (λ n. more (spec.one_turn c.args.variables.now) n c.loop-turn.found c.loop-turn.cursor) _ c.loop-turn._turn c.loop-turn-test.false c.loop-turn.invariant in
    first_of (search rules, grind (arith, common_steps))
