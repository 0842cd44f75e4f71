use Rattle.std.proofs.Common.{◌≤◌, ◌-◌}
use Rattle.sage_outside.proofs.file_blocks.fill_from.Given as goal

abbrev pub invariant-pieces : goal.invariant-pieces
invariant-pieces g l = record {
  within : l.done ≤ 4096;
}

abbrev pub decreases-pieces : goal.decreases-pieces
decreases-pieces g l = 4096 - l.done
