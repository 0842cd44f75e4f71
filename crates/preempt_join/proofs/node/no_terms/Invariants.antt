use Rattle.std.proofs.Common.{◌≡◌, length}
use Rattle.preempt_join.proofs.node.no_terms.Given as goal

abbrev pub invariant-terms : goal.invariant-terms
invariant-terms l = length l.terms.items ≡ l.counter
