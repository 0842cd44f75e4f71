use Rattle.std.proofs.Common.{length}
use Rattle.preempt_join.proofs.step.+free_others.Given as goal

abbrev pub decreases-free_others : goal.decreases-free_others
decreases-free_others l = length l.row.now
