use Rattle.std.proofs.Common.{◌≡◌, ◌≤◌, drop}
use Rattle.sage.specs.Words.{value_on}
use Rattle.sage.proofs.words.value.Given as goal

abbrev pub invariant-loop-b : goal.invariant-loop-b
invariant-loop-b l = (l.n ≤ 10009) × (value_on l.n (drop l.b-index l.digits) ≡ value_on 0 l.digits)
