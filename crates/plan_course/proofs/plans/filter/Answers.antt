use Rattle.std.proofs.Common.{ap}
use Rattle.sparql_tree.specs.ExprTrees.{tree_of}
use Rattle.plan_course.specs.Courses.{course_of}
use Rattle.plan_course.proofs.Operators.{filtered_means}
use Rattle.plan_course.proofs.plans.filter.Goals as goal

pub returns-clause-means : goal.returns-clause-means
returns-clause-means c = λ plan m.
    filtered_means (course_of c.args.inner) _ c.in_ok-reads.reads (tree_of c.args.condition.now) _ plan (ap course_of c.in_ok-new.ensures.ok) c.in_ok-condition.ensures c.in_ok-reads.ensures.grown m
    c.in_ok-reads.ensures.named
