use Rattle.std.proofs.Common.{◌≡◌, drop, map}
use Rattle.term_core.specs.Bags.{is_new}
use Rattle.row_bag.specs.Rows.{same_row}
use Rattle.row_bag.proofs.distinct_rows.is_new_among.Given as goal

abbrev pub invariant-loop-other : goal.invariant-loop-other
invariant-loop-other l = is_new same_row (map (λ r. r.now) (drop l.other-index l.rows)) l.row ≡ is_new same_row (map (λ r. r.now) l.rows) l.row
