use Rattle.std.proofs.Common.{◌∙◌, ap}
use Rattle.row_bag.specs.Rows.{same_row}
use Rattle.row_bag.proofs.Equal.{rows_same, row_itself}
use Rattle.row_bag.proofs.law.row_equality_is_exact.Goals as goal

pub returns : goal.returns
returns c a b = (rows_same a b, λ e. ap (λ w. same_row w b) e ∙ row_itself b)
