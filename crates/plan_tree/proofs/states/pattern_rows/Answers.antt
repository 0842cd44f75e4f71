use Rattle.plan_tree.proofs.states.pattern_rows.Goals as goal
use Rattle.plan_tree.proofs.Single.{entry_kept, pattern_rows, selected_answer}

pub returns-clause-kept : goal.returns-clause-kept
returns-clause-kept c = entry_kept

pub returns-clause-rows : goal.returns-clause-rows
returns-clause-rows c = pattern_rows

pub returns-clause-answer : goal.returns-clause-answer
returns-clause-answer c = selected_answer
