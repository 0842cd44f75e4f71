use Rattle.std.proofs.Common.{◌≡◌, ◌≤◌, ◌<◌, ◌-◌, ◌+◌, ℕ, true, false}
use Rattle.btree_scan.specs.Entries.{entry_of}
use Rattle.btree_scan.specs.Cuts.{stands_before}
use Rattle.btree_scan.proofs.block.cut_in_memory.Given as goal

abbrev pub invariant-halves : goal.invariant-halves
invariant-halves l = record {
  ordered : l.low ≤ l.high;
  high : l.high ≤ l.count;
  lower : (k : ℕ) → k + 1 ≡ l.low → stands_before l.through l.prefix (entry_of l.bytes k) ≡ true;
  upper : l.high < l.count → stands_before l.through l.prefix (entry_of l.bytes l.high) ≡ false;
}

abbrev pub decreases-halves : goal.decreases-halves
decreases-halves l = l.high - l.low
