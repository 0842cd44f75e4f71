use Rattle.std.proofs.Common.{arith, rules, Some, sym, ap, ◌∙◌}
use Rattle.std.proofs.lemmas.Grind.{common_steps}
use Rattle.sparql_grammar.specs.ValueReading.{row}
use Rattle.sparql_grammar.proofs.RowTurns.{row_turn, row_over}
use Rattle.sparql_grammar.proofs.values.row.Goals as goal

pub loop-name-init : goal.loop-name-init
unfolding row
loop-name-init c = first_of (search rules, grind (arith, common_steps))

pub loop-name-preserved : goal.loop-name-preserved
loop-name-preserved c =
    let e = row_turn _ _ _ _ _ c.loop-name-test.true c.name-item.is c.loop-name.invariant in
    first_of (search rules, grind (arith, common_steps))

pub returns-in_err-found : goal.returns-in_err-found
returns-in_err-found c =
    let e = row_turn _ _ _ _ _ c.loop-name-test.true c.name-item.is c.loop-name.invariant in
    first_of (search rules, grind (arith, common_steps))

pub returns : goal.returns
returns c = row_over _ _ _ _ c.loop-name-test.false c.loop-name.invariant ∙ ap (λ row. Some (row, c.loop-name.cursor)) (sym c.in_ok-build.ensures)
