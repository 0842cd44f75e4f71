use Rattle.std.proofs.Common.{◌≡◌, drop, map}
use Rattle.std.specs.List.{list_any}
use Rattle.sparql_value.specs.Solutions.{rules_out}
use Rattle.row_bag.proofs.difference.does_any_rule_out.Given as goal

abbrev pub invariant-loop-b : goal.invariant-loop-b
invariant-loop-b l = list_any (rules_out l.a) (map (λ r. r.now) (drop l.b-index l.rows)) ≡ list_any (rules_out l.a) (map (λ r. r.now) l.rows)
