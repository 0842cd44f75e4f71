use Rattle.std.proofs.Common.{◌≡◌, sym, ap, ◌∙◌, subst}
use Rattle.plan_tree.specs.Trace.{Plan, union_plan}
use Rattle.plan_tree.specs.Trees.{plan_in}
use Rattle.plan_course.specs.Courses.{course_of}
use Rattle.plan_course.specs.Meanings.{Means}
use Rattle.plan_course.proofs.Operators.{both_mean, if_ok_map}
use Rattle.plan_course.proofs.plans.+number_plan.Goals as goal

pub returns-in_ok-second-in-Union-clause-means : goal.returns-in_ok-second-in-Union-clause-means
unfolding plan_in
returns-in_ok-second-in-Union-clause-means t c =
    let e : plan_in c.args.plan.now ≡ union_plan (plan_in c.deref-in-Union.result.now) (plan_in c.deref-in-Union-2.result.now) =
    ap plan_in c.in-Union.is ∙ (λ i. union_plan (plan_in (sym c.deref-in-Union.ensures i)) (plan_in (sym c.deref-in-Union-2.ensures i))) in
    if_ok_map _ _
    (λ course h.
    subst (λ (p : Plan). Means c.number_plan-in-Union-2.new.numbering (course_of course) p) (sym e)
    (both_mean (course_of c.in_ok-first-in-Union.first) (course_of c.in_ok-second-in-Union.second) (course_of course) _ _ h c.in_ok-second-in-Union.ensures.grown c.in_ok-first-in-Union.ensures.means
    c.in_ok-second-in-Union.ensures.means))
    c.union.result c.union.ensures
