use Rattle.std.proofs.Common.{◌+◌, ◌*◌}
use Rattle.sparql_tree.specs.AlgebraTrees.{algebra_of}
use Rattle.sparql_tree.specs.Sizes.{weight}
use Rattle.sparql_algebra.proofs.cutting.+cutting.Given as goal

-- each operator weighs more than its operands
abbrev pub decreases-cut : goal.decreases-cut
decreases-cut l = 3 * weight (algebra_of l.a) + 2

abbrev pub decreases-cut_below : goal.decreases-cut_below
decreases-cut_below l = 3 * weight (algebra_of l.a) + 1

abbrev pub decreases-cut_both : goal.decreases-cut_both
decreases-cut_both l = 3 * (weight (algebra_of l.left.value) + weight (algebra_of l.right.value)) + 3
