use Rattle.term_core.proofs.Merges.{from_In-joins, In-joins}
use Rattle.term_core.proofs.Joined.{joins_same, joins_turned, joins_moved, joins_unit}
use Rattle.term_core.proofs.law.joins_are_bags.Goals as goal

pub returns-clause-members : goal.returns-clause-members
returns-clause-members c xs ys k = (from_In-joins xs ys k, λ m. In-joins xs ys k m.a m.b m.left m.right m.join)

pub returns-clause-kept : goal.returns-clause-kept
returns-clause-kept c = joins_same

pub returns-clause-turned : goal.returns-clause-turned
returns-clause-turned c = joins_turned

pub returns-clause-moved : goal.returns-clause-moved
returns-clause-moved c = joins_moved

pub returns-clause-unit : goal.returns-clause-unit
returns-clause-unit c = joins_unit
