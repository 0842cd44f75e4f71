use Rattle.std.proofs.Common.{[], List, sym, subst}
use Rattle.plan_course.specs.declared.course.Placed.{Placed}
use Rattle.plan_course.specs.Meanings.{AreRows, no_rows}
use Rattle.plan_course.proofs.Grows.{grown_itself, grown_twice}
use Rattle.plan_course.proofs.Loops.{rows_next}
use Rattle.plan_course.proofs.table.number_rows.Goals as goal

pub loop-row-init : goal.loop-row-init
loop-row-init c = record {
  grown = grown_itself c.requires.tells;
  rows = subst (λ (w : List (List Placed)). AreRows c.args.numbering.now w []) (sym c.new-placed.ensures) no_rows;
}

pub loop-row-preserved : goal.loop-row-preserved
loop-row-preserved c = record {
  grown = grown_twice c.loop-row.invariant.grown c.in_ok-number_row.ensures.grown;
  rows = rows_next c.args.rows.now c.loop-row.row-index c.row-item.result c.loop-row.placed c.push.new.self c.in_ok-number_row.field-0 c.loop-row-test.true c.row-item.is c.in_ok-push.ensures.ok
      c.in_ok-number_row.ensures.grown c.loop-row.invariant.rows c.in_ok-number_row.ensures.entries;
}
