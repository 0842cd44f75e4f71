use Rattle.std.proofs.Common.{◌≡◌, ◌++◌, length}
use Rattle.store_image.specs.Numbering.{trios}
use Rattle.store_image.proofs.table.grouped.Given as goal

abbrev pub invariant-loop-left : goal.invariant-loop-left
invariant-loop-left l = l.triples.items ++ trios l.left ≡ trios l.fn.numbers

abbrev pub decreases-loop-left : goal.decreases-loop-left
decreases-loop-left l = length l.left
