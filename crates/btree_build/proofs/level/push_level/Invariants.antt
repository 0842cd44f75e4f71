use Rattle.std.proofs.Common.{◌≡◌, ◌++◌, length}
use Rattle.btree_build.specs.Trees.{level_of, above}
use Rattle.btree_build.proofs.level.push_level.Given as goal

abbrev pub invariant-filling : goal.invariant-filling
invariant-filling l = record {
  bytes : l.out.items ++ level_of l.per l.rest ≡ l.initial.out.items ++ level_of l.per l.entries;
  up : l.up.items ++ above l.per l.rest ≡ above l.per l.entries;
}

abbrev pub decreases-filling : goal.decreases-filling
decreases-filling l = length l.rest
