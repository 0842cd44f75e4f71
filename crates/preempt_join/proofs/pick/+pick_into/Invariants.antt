use Rattle.std.proofs.Common.{length}
use Rattle.preempt_join.proofs.pick.+pick_into.Given as goal

abbrev pub decreases-pick_into : goal.decreases-pick_into
decreases-pick_into g l = length l.reads.now
