use Rattle.plan_course.proofs.Grows.{grown_twice, position_on}
use Rattle.plan_course.proofs.pattern.number_pattern.Goals as goal

pub returns-clause-pattern : goal.returns-clause-pattern
returns-clause-pattern c = record {
  subject = position_on (grown_twice c.in_ok-predicate.ensures.grown c.in_ok-object.ensures.grown) c.in_ok-subject.ensures.position;
  predicate = position_on c.in_ok-object.ensures.grown c.in_ok-predicate.ensures.position;
  object = c.in_ok-object.ensures.position;
}
