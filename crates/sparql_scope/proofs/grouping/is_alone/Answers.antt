use Rattle.std.proofs.Common.{arith}
use Rattle.std.proofs.lemmas.Grind.{common_steps}
use Rattle.std.proofs.lemmas.Map.Text.{is_eq-slice_cmp}
use Rattle.sparql_tree.proofs.ExprViews.{var_view}
use Rattle.sparql_scope.proofs.Alone.{not_alone}
use Rattle.sparql_scope.proofs.grouping.is_alone.Goals as goal

pub returns-in-Var : goal.returns-in-Var
returns-in-Var c = grind (arith, common_steps, var_view, is_eq-slice_cmp)

pub returns-in_default : goal.returns-in_default
returns-in_default c = not_alone c.args.value.now c.args.name.now c.in_default.not-Var
