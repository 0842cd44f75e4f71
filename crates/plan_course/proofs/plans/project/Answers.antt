use Rattle.std.proofs.Common.{ap}
use Rattle.plan_course.specs.Courses.{course_of}
use Rattle.plan_course.proofs.Loops.{slots_below}
use Rattle.plan_course.proofs.Operators.{projected_means}
use Rattle.plan_course.proofs.plans.project.Goals as goal

pub marks_of-requires : goal.marks_of-requires
marks_of-requires c = record {
  below = slots_below c.in_ok-slots.slots c.as_slice-2.result.now c.len.result c.len.ensures c.as_slice-2.ensures c.in_ok-slots.ensures.named;
}

pub returns-clause-means : goal.returns-clause-means
returns-clause-means c = λ plan m.
    projected_means (course_of c.args.inner) _ c.args.variables.now _ c.as_slice.result.now c.in_ok-slots.slots c.as_slice-2.result.now _ plan (ap course_of c.in_ok-new.ensures.ok) c.in_ok-variables.ensures
    c.as_slice.ensures c.as_slice-2.ensures c.in_ok-slots.ensures.grown m c.in_ok-slots.ensures.named c.in_ok-kept.ensures
