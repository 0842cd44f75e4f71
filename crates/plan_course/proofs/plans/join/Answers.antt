use Rattle.std.proofs.Common.{ap}
use Rattle.plan_course.specs.Courses.{course_of}
use Rattle.plan_course.proofs.Operators.{joined_means}
use Rattle.plan_course.proofs.plans.join.Goals as goal

pub returns-clause-means : goal.returns-clause-means
returns-clause-means c = λ plan m.
    joined_means (course_of c.args.left) _ c.in_ok-pattern.pattern plan _ (ap course_of c.in_ok-new.ensures.ok) c.in_ok-pattern.ensures.grown m c.in_ok-pattern.ensures.pattern
