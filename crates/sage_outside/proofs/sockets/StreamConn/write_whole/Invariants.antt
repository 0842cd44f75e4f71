use Rattle.std.proofs.Common.{◌≡◌, length}
use Rattle.sage_outside.proofs.sockets.StreamConn.write_whole.Given as goal

abbrev pub invariant-parts : goal.invariant-parts
invariant-parts g l = l.self.faults ≡ l.fn.self.faults

abbrev pub decreases-parts : goal.decreases-parts
decreases-parts g l = length l.rest
