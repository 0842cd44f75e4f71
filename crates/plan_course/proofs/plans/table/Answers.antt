use Rattle.std.proofs.Common.{arith}
use Rattle.plan_course.proofs.Operators.{table_means}
use Rattle.plan_course.proofs.plans.table.Goals as goal

pub returns-clause-means : goal.returns-clause-means
returns-clause-means c =
    table_means c.args.variables.now c.in_ok-copy.field-0 c.in_ok-rows.rows c.args.rows.now c.in_ok-copy.ensures (omega (arith, c.if-rows.false)) c.in_ok-rows.ensures.rows
