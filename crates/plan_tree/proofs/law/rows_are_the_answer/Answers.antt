use Rattle.plan_tree.proofs.law.rows_are_the_answer.Goals as goal
use Rattle.plan_tree.proofs.Algebras.{rows_answer}
use Rattle.plan_tree.proofs.Solutions.{pattern_answers}

pub returns-clause-answer : goal.returns-clause-answer
returns-clause-answer c = rows_answer

pub returns-clause-pattern : goal.returns-clause-pattern
returns-clause-pattern c = pattern_answers
