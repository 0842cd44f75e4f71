use Rattle.std.proofs.Common.{◌≡◌, ◌++◌, ◌-◌, replicate}
use Rattle.btree_build.proofs.level.put_zeros.Given as goal

abbrev pub invariant-loop-place : goal.invariant-loop-place
invariant-loop-place l = record {
  done : l.out.items ++ replicate (l.count - l.place) 0 ≡ l.initial.out.items ++ replicate l.count 0;
}
