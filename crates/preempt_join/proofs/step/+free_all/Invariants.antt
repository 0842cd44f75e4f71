use Rattle.std.proofs.Common.{length}
use Rattle.preempt_join.proofs.step.+free_all.Given as goal

abbrev pub decreases-free_all : goal.decreases-free_all
decreases-free_all l = length l.row.now
