use Rattle.std.proofs.Common.{length}
use Rattle.term_core.proofs.row.+find.Given as goal

abbrev pub decreases-find : goal.decreases-find
decreases-find l = length l.entries.now
