use Rattle.std.proofs.Common.{◌≡◌, drop, fold}
use Rattle.std.specs.Hash.FoldHasher as folding
use Rattle.row_bag.specs.Hashes.{fed_entries}
use Rattle.row_bag.proofs.hashes.feed_entries.Given as goal

abbrev pub invariant-loop-entry : goal.invariant-loop-entry
invariant-loop-entry l = fold folding.write l.state (fed_entries (drop l.entry-index l.entries)) ≡ fold folding.write l.initial.state (fed_entries l.entries)
