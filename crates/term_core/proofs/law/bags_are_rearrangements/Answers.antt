use Rattle.term_core.proofs.Bags.{same_members}
use Rattle.term_core.proofs.Permuted.{rows_permuted, bag_from_permutation}
use Rattle.term_core.proofs.law.bags_are_rearrangements.Goals as goal

pub returns-clause-rows : goal.returns-clause-rows
returns-clause-rows c xs ys = (rows_permuted xs ys, bag_from_permutation xs ys)

pub returns-clause-members : goal.returns-clause-members
returns-clause-members c xs ys d e h = same_members xs ys d e (λ x. (h x).0) (λ x. (h x).1)
