use Rattle.std.proofs.Common.{◌∙◌, ap}
use Rattle.std.specs.FinMap.{from_sorted}
use Rattle.term_core.specs.Order.{bytes_cmp}
use Rattle.term_core.proofs.Puts.{empty_row}
use Rattle.term_core.proofs.row.Row.empty.Goals as goal

pub returns : goal.returns
returns c = ap (from_sorted {R = bytes_cmp}) c.new.ensures.items ∙ empty_row
