use Rattle.std.proofs.Common.{◌≡◌, drop, is_some}
use Rattle.std.specs.List.{list_all}
use Rattle.term_core.specs.Mappings.{value}
use Rattle.row_bag.proofs.names.is_bound.Given as goal

abbrev pub invariant-loop-row : goal.invariant-loop-row
invariant-loop-row l = list_all (λ row. is_some (value row l.name)) (drop l.row-index l.rows) ≡ list_all (λ row. is_some (value row l.name)) l.rows
