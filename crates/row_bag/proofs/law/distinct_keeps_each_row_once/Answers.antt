use Rattle.term_core.proofs.Distinct.{AreDistinct-distinct, In-distinct, from_In-distinct, distinct-append}
use Rattle.row_bag.specs.Rows.{same_row}
use Rattle.row_bag.proofs.Equal.{rows_same, row_itself}
use Rattle.row_bag.proofs.law.distinct_keeps_each_row_once.Goals as goal

pub returns-clause-rows : goal.returns-clause-rows
returns-clause-rows c = AreDistinct-distinct same_row rows_same row_itself

pub returns-clause-same_rows : goal.returns-clause-same_rows
returns-clause-same_rows c xs x =
    (from_In-distinct same_row rows_same row_itself xs x, In-distinct same_row rows_same row_itself xs x)

pub returns-clause-first_rows : goal.returns-clause-first_rows
returns-clause-first_rows c = distinct-append same_row
