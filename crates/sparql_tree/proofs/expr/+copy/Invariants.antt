use Rattle.std.proofs.Common.{◌≡◌, take}
use Rattle.sparql_tree.specs.ExprTrees.{trees_of, signs_of, factors_of}
use Rattle.sparql_tree.proofs.expr.+copy.Given as goal

abbrev pub invariant-copy_all-loop-value : goal.invariant-copy_all-loop-value
invariant-copy_all-loop-value l = trees_of l.copy.items ≡ trees_of (take l.value-index l.values)

abbrev pub invariant-copy_signs-loop-signed : goal.invariant-copy_signs-loop-signed
invariant-copy_signs-loop-signed l = signs_of l.copy.items ≡ signs_of (take l.signed-index l.values)

abbrev pub invariant-copy_factors-loop-factor : goal.invariant-copy_factors-loop-factor
invariant-copy_factors-loop-factor l = factors_of l.copy.items ≡ factors_of (take l.factor-index l.values)
