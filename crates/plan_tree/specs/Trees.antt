-- The trees of the code's plans and states.
use Rattle.term_core.specs.Patterns.{pattern_of}
use Rattle.sparql_tree.specs.ExprTrees.{tree_of}
use Rattle.plan_tree.specs.Trace as tree
use Rattle.plan_tree.specs.States as states
use Rattle.plan_tree.specs.declared.plan.Plan.{Plan}
use Rattle.plan_tree.specs.declared.plan.Plan.TheVariants as plans
use Rattle.plan_tree.specs.declared.state.Inner.{Inner}
use Rattle.plan_tree.specs.declared.state.Inner.TheVariants as inners
use Rattle.plan_tree.specs.declared.state.State.{State}
use Rattle.plan_tree.specs.declared.state.State.TheVariants as kept

-- the plan that the code holds
unfoldable pub plan_in : Plan → tree.Plan
plan_in (plans.Table variables rows) = tree.rows_plan variables rows
plan_in (plans.Join' p left pattern) = tree.join_plan (plan_in left) (pattern_of pattern)
plan_in (plans.Union' p first q second) = tree.union_plan (plan_in first) (plan_in second)
plan_in (plans.Filter' p inner condition) = tree.filter_plan (plan_in inner) (tree_of condition)
plan_in (plans.Bind' p inner variable value) = tree.bind_plan (plan_in inner) variable (tree_of value)
plan_in (plans.Project' p inner variables) = tree.project_plan (plan_in inner) variables

-- the last part of a join's state that the code holds
abbrev pub inner_in : Inner → states.Inner
inner_in inners.Idle = states.idle
inner_in inners.Opened = states.opened
inner_in (inners.At ids) = states.at_triple ids

-- the state that the code holds
unfoldable pub state_in : State → states.State
state_in kept.Done = states.done
state_in (kept.Table place) = states.table_state place
state_in (kept.Join' p left inner) = states.join_state (state_in left) (inner_in inner)
state_in (kept.Union' side p active) = states.union_state side (state_in active)
