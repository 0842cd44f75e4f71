-- The entry behind a state, the states that a plan reaches, and the states of a plan's shape.
use Rattle.std.specs.Prelude.{◌≡◌, ℕ, zero, suc, ◌<◌, ◌≤◌, ◌^◌, ◌==◌, ◌&&◌, ◌⊎◌, Bool, true, false, List, length, filter, slice_get, Option, Some, None}
use Rattle.term_core.specs.declared.term.Triple.{Triple}
use Rattle.term_core.specs.declared.pattern.IdTriple.{IdTriple}
use Rattle.term_core.specs.Bags.{In}
use Rattle.term_core.specs.Mappings.{Row, restricted}
use Rattle.term_core.specs.Patterns.{Pattern}
use Rattle.term_core.specs.Data.{ids_of}
use Rattle.term_core.specs.Index.{range}
use Rattle.plan_tree.specs.Trace.{Plan, rows_plan, join_plan, union_plan, filter_plan, bind_plan, project_plan, extended, Entries, changed, kept, extended_by, trace}
use Rattle.plan_tree.specs.States.{Inner, idle, opened, at_triple, State, done, table_state, join_state, union_state, Stands}

-- whether two triples of numbers are one
abbrev pub same_ids : IdTriple → IdTriple → Bool
same_ids a b = (a.s == b.s) && ((a.p == b.p) && (a.o == b.o))

-- the triple of the data whose terms have these ranks, if there is one
abbrev pub triple_of : List Triple → IdTriple → Option Triple
triple_of D ids = slice_get (filter (λ t. same_ids (ids_of D t) ids) D) 0

-- the entry of a triple under an entry: nothing where either is nothing
abbrev pub entry_under : Pattern → Option Row → Option Triple → Option Row
entry_under p None t = None
entry_under p (Some row) None = None
entry_under p (Some row) (Some t) = extended p row t

-- the entry behind a join's last part, where this is the entry behind its left side
abbrev pub inner_behind : List Triple → Pattern → Option Row → Inner → Option Row
inner_behind D p entry idle = None
inner_behind D p entry opened = None
inner_behind D p entry (at_triple ids) = entry_under p entry (triple_of D ids)

-- the entry behind a state: what the state itself says of the last entry that was given
abbrev pub behind : List Triple → Plan → State → Option Row
behind D (rows_plan variables rows) (table_state zero) = None
behind D (rows_plan variables rows) (table_state (suc k)) = slice_get rows k
behind D (join_plan left p) (join_state below inner) = inner_behind D p (behind D left below) inner
behind D (union_plan first second) (union_state zero state) = behind D first state
behind D (union_plan first second) (union_state (suc zero) state) = behind D second state
behind D (filter_plan inner condition) state = kept condition (behind D inner state)
behind D (bind_plan inner variable e) state = changed (extended_by variable e) (behind D inner state)
behind D (project_plan inner names) state = changed (restricted names) (behind D inner state)
behind D plan state = None

-- a join's last part can be so, where this is the entry behind its left side: without a row there nothing was taken
abbrev pub InnerReaches : List Triple → Pattern → Option Row → Inner → Type 0
InnerReaches D p entry idle = Unit {0}
InnerReaches D p None opened = ⊥
InnerReaches D p (Some row) opened = Unit {0}
InnerReaches D p None (at_triple ids) = ⊥
InnerReaches D p (Some row) (at_triple ids) = (t : Triple) × In (range D p row) t × (ids ≡ ids_of D t)

-- a state that the plan reaches, without a word of places in the trace
abbrev pub Reaches : List Triple → Plan → State → Type 0
Reaches D (rows_plan variables rows) (table_state place) = place ≤ length rows
Reaches D (join_plan left p) (join_state below inner) = Reaches D left below × InnerReaches D p (behind D left below) inner
Reaches D (union_plan first second) (union_state zero state) = Reaches D first state
Reaches D (union_plan first second) (union_state (suc zero) state) = Reaches D second state
Reaches D (filter_plan inner condition) state = Reaches D inner state
Reaches D (bind_plan inner variable e) state = Reaches D inner state
Reaches D (project_plan inner names) state = Reaches D inner state
Reaches D plan state = ⊥

-- the entry before a place, which at the start is nothing
abbrev pub IsEntryBefore : Entries → ℕ → Option Row → Type 0
IsEntryBefore entries zero entry = entry ≡ None
IsEntryBefore entries (suc n) entry = slice_get entries n ≡ Some entry

-- a place at which a state stands, and the entry before it is the one behind the state
pub record IsPlaced (D : List Triple) (plan : Plan) (state : State) : Type 0 where
  pub place : ℕ
  pub stands : Stands D plan state place
  pub before : IsEntryBefore (trace D plan) place (behind D plan state)

-- what stands is reached, with the entry before its place behind it; and what is reached stands
pub record ReachedIs (D : List Triple) (plan : Plan) (state : State) : Type 0 where
  pub to : (n : ℕ) → Stands D plan state n → Reaches D plan state × IsEntryBefore (trace D plan) n (behind D plan state)
  pub from : Reaches D plan state → IsPlaced D plan state

-- so it is for every state
abbrev pub ReachedStands : Type 0
ReachedStands = (D : List Triple) (plan : Plan) (state : State) → ReachedIs D plan state

-- whether the entry behind a state can be a row, by the state alone
abbrev pub can_end_in_row : State → Bool
can_end_in_row done = false
can_end_in_row (table_state zero) = false
can_end_in_row (table_state (suc k)) = true
can_end_in_row (join_state left idle) = false
can_end_in_row (join_state left opened) = false
can_end_in_row (join_state left (at_triple ids)) = true
can_end_in_row (union_state side active) = can_end_in_row active

-- the numbers fit into four bytes each
abbrev pub AreSmall : IdTriple → Type 0
AreSmall ids = (ids.s < 2 ^ 32) × (ids.p < 2 ^ 32) × (ids.o < 2 ^ 32)

-- a join's last part that has taken a row needs a left state that can end in one
abbrev pub CanFollow : Bool → Inner → Type 0
CanFollow can idle = Unit {0}
CanFollow can opened = can ≡ true
CanFollow can (at_triple ids) = (can ≡ true) × AreSmall ids

-- a state of the plan's shape before its end, whatever the data
abbrev pub IsShape : Plan → State → Type 0
IsShape (rows_plan variables rows) (table_state place) = place ≤ length rows
IsShape (join_plan left p) (join_state below inner) = IsShape left below × CanFollow (can_end_in_row below) inner
IsShape (union_plan first second) (union_state zero state) = IsShape first state
IsShape (union_plan first second) (union_state (suc zero) state) = IsShape second state
IsShape (filter_plan inner condition) state = IsShape inner state
IsShape (bind_plan inner variable e) state = IsShape inner state
IsShape (project_plan inner names) state = IsShape inner state
IsShape plan state = ⊥

-- a state of the plan's shape; the end is one only as the whole
abbrev pub IsWholeShape : Plan → State → Type 0
IsWholeShape plan state = (state ≡ done) ⊎ IsShape plan state
