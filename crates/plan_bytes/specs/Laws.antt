-- What is proved of suspended plans.
use Rattle.std.specs.Prelude.{◌≡◌, ℕ, List, length}
use Rattle.plan_tree.specs.Trace.{Plan}
use Rattle.plan_tree.specs.States.{State}
use Rattle.plan_tree.specs.Reached.{IsWholeShape}
use Rattle.plan_tree.specs.StateLaws.{HasFewRows}
use Rattle.plan_bytes.specs.declared.reading.PlanFault.{PlanFault}
use Rattle.plan_bytes.specs.declared.reading.PlanFault.TheVariants.{Memory}
use Rattle.plan_bytes.specs.Spelled.{spelled}
use Rattle.plan_bytes.specs.Refusals.{IsRefused}

-- the spelling of a state is refused for want of memory alone, and spells no other state
pub record IsReadBack (plan : Plan) (data_name text_name : List ℕ) (state : State) : Type 0 where
  pub accepted : (fault : PlanFault) → IsRefused plan (spelled data_name text_name state) data_name text_name fault → fault ≡ Memory
  pub one : (other : State) → IsWholeShape plan other → spelled data_name text_name state ≡ spelled data_name text_name other → state ≡ other

-- so it is for each state of a plan's shape
abbrev pub SavedAreRead : Type 0
SavedAreRead = (plan : Plan) (data_name text_name : List ℕ) (state : State) → length data_name ≡ 32 → length text_name ≡ 32 → HasFewRows plan → IsWholeShape plan state
    → IsReadBack plan data_name text_name state
