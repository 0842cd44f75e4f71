-- The bytes of a suspended plan.
use Rattle.std.specs.Prelude.{ℕ, ◌+◌, List, [], ◌∷◌, ◌++◌}
use Rattle.sha2.specs.Sha256.{sha256}
use Rattle.term_core.specs.declared.term.Triple.{Triple}
use Rattle.term_core.specs.Data.{data_id}
use Rattle.term_core.specs.Ids.{number_bytes, ids_bytes}
use Rattle.plan_tree.specs.Trace.{Plan, rows_plan, join_plan, union_plan, filter_plan, bind_plan, project_plan}
use Rattle.plan_tree.specs.States.{Inner, idle, opened, at_triple, State, done, table_state, join_state, union_state}

-- a join's last part: 0, or 1, or 2 and the triple
abbrev pub inner_bytes : Inner → List ℕ
inner_bytes idle = 0 ∷ []
inner_bytes opened = 1 ∷ []
inner_bytes (at_triple ids) = 2 ∷ ids_bytes ids

-- A state by cases of the plan. A filter, a value under a variable and a restriction keep no state of their own.
abbrev pub state_bytes : State → List ℕ
state_bytes done = 0 ∷ []
state_bytes (table_state place) = 1 ∷ number_bytes place
state_bytes (join_state left inner) = 2 ∷ (state_bytes left ++ inner_bytes inner)
state_bytes (union_state side active) = 3 ∷ side ∷ state_bytes active

-- A suspended plan: the version, the data's name, the name of the part's text, the state.
abbrev pub plan_bytes : List Triple → List ℕ → State → List ℕ
plan_bytes D text state = 2 ∷ (data_id D ++ (sha256 text ++ state_bytes state))

-- how many parts a plan has
abbrev pub nodes : Plan → ℕ
nodes (rows_plan variables rows) = 1
nodes (join_plan left p) = nodes left + 1
nodes (union_plan first second) = nodes first + nodes second + 1
nodes (filter_plan inner condition) = nodes inner + 1
nodes (bind_plan inner variable e) = nodes inner + 1
nodes (project_plan inner names) = nodes inner + 1
