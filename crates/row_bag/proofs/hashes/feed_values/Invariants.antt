use Rattle.std.proofs.Common.{◌≡◌, drop, fold}
use Rattle.std.specs.Hash.FoldHasher as folding
use Rattle.row_bag.specs.Hashes.{fed_values}
use Rattle.row_bag.proofs.hashes.feed_values.Given as goal

abbrev pub invariant-loop-name : goal.invariant-loop-name
invariant-loop-name l = fold folding.write l.state (fed_values (drop l.name-index l.names) l.row) ≡ fold folding.write l.initial.state (fed_values l.names l.row)
