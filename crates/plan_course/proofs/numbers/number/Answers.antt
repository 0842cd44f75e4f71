use Rattle.plan_course.proofs.Meant.{told_once, plan_is, wide_is, numbered_is}
use Rattle.plan_course.proofs.numbers.number.Goals as goal

pub returns-clause-plan : goal.returns-clause-plan
returns-clause-plan c = plan_is (told_once c.in_ok-course.ensures.grown.tells) c.in_ok-course.ensures.means

pub returns-clause-once : goal.returns-clause-once
returns-clause-once c = told_once c.in_ok-course.ensures.grown.tells

pub returns-clause-wide : goal.returns-clause-wide
returns-clause-wide c = wide_is c.in_ok-course.ensures.means

pub returns-clause-numbered : goal.returns-clause-numbered
returns-clause-numbered c = numbered_is (told_once c.in_ok-course.ensures.grown.tells) c.in_ok-course.ensures.means
