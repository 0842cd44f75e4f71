-- The state of a plan under way.
use Rattle.std.specs.Prelude.{◌≡◌, ◌<◌, ℕ, List, Option, Some, None, Bool, true, false, if◌then◌else◌}
use Rattle.term_core.specs.declared.term.Term.{Term}
use Rattle.term_core.specs.declared.pattern.IdTriple.{IdTriple}
use Rattle.term_core.specs.Mappings.{Name}
use Rattle.plan_tree.specs.Trace.{steps}
use Rattle.plan_tree.specs.States.{Inner, idle, opened, at_triple, State, done, table_state, join_state, union_state, Stands}
use Rattle.row_cells.specs.Data.{Data}
use Rattle.plan_course.specs.Courses.{Course, plan_of}
use Rattle.preempt_join.specs.declared.cursor.Cursor.{Cursor}
use Rattle.preempt_join.specs.declared.cursor.Cursor.TheVariants as cursor
use Rattle.preempt_join.specs.Cursors.{CursorAt, is_over}

-- the last part of an open join, by the triple that it gave last
abbrev pub inner_of : Option IdTriple → Inner
inner_of None = opened
inner_of (Some ids) = at_triple ids

-- the state of a cursor
abbrev pub state_of : Cursor → State
state_of (cursor.Table place ended) = if ended then done else table_state place
state_of (cursor.Join' p below row None) = if is_over below then done else join_state (state_of below) idle
state_of (cursor.Join' p below row (Some held)) = join_state (state_of below) (inner_of held.last)
state_of (cursor.Union' p active false) = union_state 0 (state_of active)
state_of (cursor.Union' p active true) = if is_over active then done else union_state 1 (state_of active)

-- it stands where the cursor stands, and at the end it is done
pub record IsStateAt (names : List Name) (D : Data) (given : List Term) (course : Course) (at : Cursor) (n : ℕ) : Type 0 where
  pub stands : n < steps D.triples (plan_of names given course) → Stands D.triples (plan_of names given course) (state_of at) n
  pub over : n ≡ steps D.triples (plan_of names given course) → state_of at ≡ done

-- so it is for every cursor
abbrev pub StatesStand : Type 0
StatesStand = (names : List Name) (D : Data) (given made : List Term) (course : Course) (at : Cursor) (n : ℕ) → CursorAt names D given made course at n → IsStateAt names D given course at n
