-- States of plans, and where in the trace each stands. A state speaks of places and triples, never of rows given before.
use Rattle.std.specs.Prelude.{◌≡◌, ℕ, zero, suc, ◌+◌, ◌≤◌, ◌⊎◌, List, [], ◌∷◌, length, slice_get, Some}
use Rattle.term_core.specs.declared.term.Triple.{Triple}
use Rattle.term_core.specs.declared.pattern.IdTriple.{IdTriple}
use Rattle.term_core.specs.Mappings.{Row}
use Rattle.term_core.specs.Patterns.{Pattern}
use Rattle.term_core.specs.Data.{ids_of}
use Rattle.plan_tree.specs.Trace.{Plan, rows_plan, join_plan, union_plan, filter_plan, bind_plan, project_plan, Entries, join_entries, trace, steps}
use Rattle.term_core.specs.Index.{range}

-- A join's last part: it has no row of its left side, or has one and has given no triple of it yet, or has given triples up to this one.
pub data Inner : Type 0 where
  idle : Inner
  opened : Inner
  at_triple : (ids : IdTriple) → Inner

-- what is kept of a plan that was stopped: of a union the side, 0 or 1, and that side's state
pub data State : Type 0 where
  done : State
  table_state : (place : ℕ) → State
  join_state : (left : State) (inner : Inner) → State
  union_state : (side : ℕ) (active : State) → State

-- how many values the pieces of the first m elements have
abbrev pub pieces_before : {X Y : Type 0} → (X → List Y) → List X → ℕ → ℕ
pieces_before f xs zero = 0
pieces_before f [] (suc m) = 0
pieces_before f (x ∷ xs) (suc m) = length (f x) + pieces_before f xs m

-- how many entries a join makes of the first m entries of its left side
abbrev pub made_before : List Triple → Pattern → Entries → ℕ → ℕ
made_before D p entries m = pieces_before (join_entries D p) entries m

-- where a join stands, when its left side stands at m and its last part so
abbrev pub InnerAt : List Triple → Pattern → Entries → ℕ → Inner → ℕ → Type 0
InnerAt D p entries m idle n = n ≡ made_before D p entries m
InnerAt D p entries zero opened n = ⊥
InnerAt D p entries (suc m) opened n =
    (row : Row) × (slice_get entries m ≡ Some (Some row)) × (n ≡ made_before D p entries m + 1)
InnerAt D p entries zero (at_triple ids) n = ⊥
InnerAt D p entries (suc m) (at_triple ids) n =
    (row : Row) × (k : ℕ) × (t : Triple) × (slice_get entries m ≡ Some (Some row)) × (slice_get (range D p row) k ≡ Some t) × (ids ≡ ids_of D t) × (n ≡ made_before D p entries m + 2 + k)

-- the state stands after n entries of the plan, and more are to come
abbrev pub Stands : List Triple → Plan → State → ℕ → Type 0
Stands D (rows_plan variables rows) (table_state place) n = (place ≤ length rows) × (n ≡ place)
Stands D (join_plan left p) (join_state below inner) n = (m : ℕ) × Stands D left below m × InnerAt D p (trace D left) m inner n
Stands D (union_plan first second) (union_state zero state) n = Stands D first state n
Stands D (union_plan first second) (union_state (suc zero) state) n = (k : ℕ) × Stands D second state k × (n ≡ steps D first + k)
Stands D (filter_plan inner condition) state n = Stands D inner state n
Stands D (bind_plan inner variable e) state n = Stands D inner state n
Stands D (project_plan inner names) state n = Stands D inner state n
Stands D plan state n = ⊥

-- the state stands after n entries, which may be all
abbrev pub StandsAt : List Triple → Plan → State → ℕ → Type 0
StandsAt D plan state n = ((state ≡ done) × (n ≡ steps D plan)) ⊎ Stands D plan state n
