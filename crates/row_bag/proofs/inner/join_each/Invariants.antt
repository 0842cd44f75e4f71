use Rattle.std.proofs.Common.{◌≡◌, ◌++◌, take, map}
use Rattle.std.specs.List.{filter_map}
use Rattle.term_core.specs.Mappings.{joined}
use Rattle.row_bag.proofs.inner.join_each.Given as goal

abbrev pub invariant-loop-b : goal.invariant-loop-b
invariant-loop-b l = l.out ≡ l.initial.out ++ filter_map (joined l.a) (map (λ r. r.now) (take l.b-index l.rows))
