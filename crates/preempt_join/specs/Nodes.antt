-- A plan under way, and where it stands.
use Rattle.std.specs.Prelude.{◌≡◌, ℕ, ◌+◌, ◌*◌, ◌<◌, ◌≤◌, List, length, Option, Some, None, false}
use Rattle.term_core.specs.Mappings.{Row}
use Rattle.plan_tree.specs.Trace.{Plan, steps}
use Rattle.plan_tree.specs.States.{State, Stands, done}
use Rattle.plan_tree.specs.Spelling.{nodes}
use Rattle.store_image.specs.declared.header.Header.{Header}
use Rattle.row_cells.specs.Data.{Data}
use Rattle.row_cells.specs.Laws.{IsOnce}
use Rattle.row_cells.specs.Owns.{HasRoom, AreSought}
use Rattle.plan_course.specs.Courses.{Course, rows_course, join_course, union_course, filter_course, bind_course, project_course, course_of, plan_of, IsWide, IsNumbered, cost}
use Rattle.preempt_join.specs.declared.node.Node.{Node}
use Rattle.preempt_join.specs.declared.node.Turn as code
use Rattle.preempt_join.specs.declared.node.Turn.TheVariants as turn
use Rattle.preempt_join.specs.Cursors.{HasShape, CursorAt}

-- the plan that runs
abbrev pub plan_under : Node → Plan
plan_under node = plan_of node.names node.own.given (course_of node.course)

-- each name has one number and each row a cell for each, the plan's numbers are of what there is, and its cursors have the
-- shape of its plan, with places that a store with such a header has
pub record Fits (header : Header) (node : Node) : Type 0 where
  pub once : IsOnce node.names
  pub width : length node.row.items ≡ length node.names
  pub room : HasRoom node.own
  pub wide : IsWide (length node.names) (length node.own.given) (length node.own.made.items) (course_of node.course)
  pub numbered : IsNumbered node.names (course_of node.course)
  pub shape : HasShape header.triples header.terms (length node.names) (length node.own.given) (course_of node.course) node.at

-- it stands behind n entries of the trace of its plan over the data, and no step of it was refused
pub record NodeAt (D : Data) (node : Node) (n : ℕ) : Type 0 where
  pub going : node.spent ≡ false
  pub sought : AreSought D.terms node.own
  pub at : CursorAt node.names D node.own.given node.own.made.items (course_of node.course) node.at n

-- what a step gives of an entry, or of none
abbrev pub Gives : code.Turn → Option (Option Row) → Type 0
Gives turn.End entry = entry ≡ None
Gives turn.NotYet entry = entry ≡ Some None
Gives (turn.Row row) entry = entry ≡ Some (Some row)

-- the place behind it
abbrev pub behind : code.Turn → ℕ → ℕ
behind turn.End n = n
behind turn.NotYet n = n + 1
behind (turn.Row row) n = n + 1

-- the state of the plan behind n entries, and the last one behind all
abbrev pub IsStateAfter : Data → Plan → ℕ → State → Type 0
IsStateAfter D plan n state = (n < steps D.triples plan → Stands D.triples plan state n) × (n ≡ steps D.triples plan → state ≡ done)

-- at most how many blocks a step reads, where for a term at most r are read
abbrev pub step_reads : ℕ → Node → ℕ
step_reads r node = cost r (course_of node.course) + length node.names * r

-- the joins of a plan, and the names that its conditions and values read, each as often as it is read
abbrev pub joins_in : Course → ℕ
joins_in (rows_course variables rows) = 0
joins_in (join_course left s) = joins_in left + 1
joins_in (union_course first second) = joins_in first + joins_in second
joins_in (filter_course inner reads condition) = joins_in inner
joins_in (bind_course inner slot place reads e) = joins_in inner
joins_in (project_course inner variables kept) = joins_in inner

abbrev pub names_read : Course → ℕ
names_read (rows_course variables rows) = 0
names_read (join_course left s) = names_read left
names_read (union_course first second) = names_read first + names_read second
names_read (filter_course inner reads condition) = names_read inner + length reads
names_read (bind_course inner slot place reads e) = names_read inner + length reads
names_read (project_course inner variables kept) = names_read inner

-- the names that conditions and values read, and those of the rows, are few beside the plan's parts
abbrev pub HasFewNames : Node → Type 0
HasFewNames node = 75 * joins_in (course_of node.course) + names_read (course_of node.course) + length node.names ≤ 80 * nodes (plan_under node)
