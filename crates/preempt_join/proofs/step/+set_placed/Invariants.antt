use Rattle.std.proofs.Common.{length}
use Rattle.preempt_join.proofs.step.+set_placed.Given as goal

abbrev pub decreases-set_placed : goal.decreases-set_placed
decreases-set_placed l = length l.entries.now
