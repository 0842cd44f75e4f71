use Rattle.std.proofs.Common.{◌≡◌, take}
use Rattle.term_core.specs.Mappings.{joins}
use Rattle.row_bag.proofs.inner.join.Given as goal

abbrev pub invariant-loop-a : goal.invariant-loop-a
invariant-loop-a l = l.out ≡ joins (take l.a-index l.left) l.right
