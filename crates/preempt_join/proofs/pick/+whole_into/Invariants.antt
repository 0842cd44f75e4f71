use Rattle.std.proofs.Common.{length}
use Rattle.preempt_join.proofs.pick.+whole_into.Given as goal

abbrev pub decreases-whole_into : goal.decreases-whole_into
decreases-whole_into g l = length l.names.now
