use Rattle.std.proofs.Common.{take}
use Rattle.plan_course.specs.Meanings.{Grown, AreRows}
use Rattle.plan_course.proofs.table.number_rows.Given as goal

-- the rows so far have these numbers
abbrev pub invariant-loop-row : goal.invariant-loop-row
invariant-loop-row l = record {
  grown : Grown l.fn.numbering l.numbering;
  rows : AreRows l.numbering l.placed (take l.row-index l.rows);
}
