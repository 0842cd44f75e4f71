use Rattle.std.proofs.Common.{take}
use Rattle.std.specs.FinMap as finmap
use Rattle.plan_course.specs.Meanings.{Grown, AreEntries}
use Rattle.plan_course.proofs.table.number_row.Given as goal

-- the entries so far have these numbers
abbrev pub invariant-loop-entry : goal.invariant-loop-entry
invariant-loop-entry l = record {
  grown : Grown l.fn.numbering l.numbering;
  entries : AreEntries l.numbering l.placed (take l.entry-index (finmap.entries l.row));
}
