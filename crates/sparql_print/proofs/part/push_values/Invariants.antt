use Rattle.std.proofs.Common.{◌≡◌, ◌++◌, take, string_bytes}
use Rattle.std.specs.Prelude.{flat_map}
use Rattle.sparql_print.specs.PartText.{value_before}
use Rattle.sparql_print.proofs.part.push_values.Given as goal

abbrev pub invariant-loop-variable : goal.invariant-loop-variable
invariant-loop-variable l = string_bytes l.out ≡ string_bytes l.initial.out ++ flat_map (value_before l.row) (take l.variable-index l.variables)
