use Rattle.row_cells.proofs.Rows.{same_made}
use Rattle.row_cells.proofs.law.others_make_no_odds.Goals as goal

pub returns : goal.returns
returns c = same_made
