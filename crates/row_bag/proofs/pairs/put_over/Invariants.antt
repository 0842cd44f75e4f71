use Rattle.std.proofs.Common.{◌≡◌, drop}
use Rattle.term_core.specs.Mappings.{with_entries}
use Rattle.row_bag.proofs.pairs.put_over.Given as goal

abbrev pub invariant-loop-k : goal.invariant-loop-k
invariant-loop-k l = l.builder ≡ with_entries (drop l.k l.entries) l.initial.builder
