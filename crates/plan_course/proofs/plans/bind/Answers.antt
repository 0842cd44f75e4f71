use Rattle.std.proofs.Common.{ap}
use Rattle.sparql_tree.specs.ExprTrees.{tree_of}
use Rattle.plan_course.specs.Courses.{course_of}
use Rattle.plan_course.proofs.Operators.{bound_means}
use Rattle.plan_course.proofs.plans.bind.Goals as goal

pub returns-clause-means : goal.returns-clause-means
returns-clause-means c = λ plan m.
    bound_means (course_of c.args.inner) _ c.in_ok-slot.slot c.in_ok-place.place c.in_ok-reads.reads (tree_of c.args.value.now) _ plan c.args.variable.now
    (ap course_of c.in_ok-new.ensures.ok) c.in_ok-value.ensures c.in_ok-slot.ensures.grown c.in_ok-reads.ensures.grown c.in_ok-place.ensures.grown m c.in_ok-slot.ensures.slot
    c.in_ok-reads.ensures.named c.in_ok-place.ensures.least c.in_ok-place.ensures.below
