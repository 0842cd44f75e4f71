use Rattle.row_bag.proofs.Firsts.{first_next}
use Rattle.row_bag.proofs.distinct_rows.distinct.Goals as goal

pub loop-row-preserved : goal.loop-row-preserved
loop-row-preserved c = (
  first_next c.args.rows.now c.loop-row.row-index c.row-item.result c.loop-row.out c.keep_first.new.out c.loop-row-test.true c.row-item.is c.loop-row.invariant.0 c.in_ok-keep_first.ensures.rows,
  c.in_ok-keep_first.ensures.index,
)
