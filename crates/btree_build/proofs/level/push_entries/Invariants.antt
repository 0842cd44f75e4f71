use Rattle.std.proofs.Common.{◌≡◌, ◌++◌, drop}
use Rattle.btree_build.specs.Trees.{list_bytes}
use Rattle.btree_build.proofs.level.push_entries.Given as goal

abbrev pub invariant-loop-entry : goal.invariant-loop-entry
invariant-loop-entry l = record {
  done : l.out.items ++ list_bytes (drop l.entry-index l.entries) ≡ l.initial.out.items ++ list_bytes l.entries;
}
