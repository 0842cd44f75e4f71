use Rattle.std.proofs.Common.{◌≡◌, ◌++◌, take, string_bytes}
use Rattle.std.specs.Prelude.{flat_map}
use Rattle.plan_text.specs.PlanText.{variable_behind}
use Rattle.plan_text.proofs.printing.push_variables.Given as goal

abbrev pub invariant-loop-variable : goal.invariant-loop-variable
invariant-loop-variable l = string_bytes l.out ≡ string_bytes l.initial.out ++ flat_map variable_behind (take l.variable-index l.variables)
