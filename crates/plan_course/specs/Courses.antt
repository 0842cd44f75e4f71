-- Plans whose names and terms are numbered, and the plans that they stand for.
use Rattle.std.specs.Prelude.{◌≡◌, ℕ, ◌+◌, ◌*◌, ◌<◌, ◌≤◌, ◌^◌, max, List, [], ◌∷◌, length, map, replicate, slice_get, slice_index_or, slice_set, Some, Bool, true, false}
use Rattle.term_core.specs.declared.term.Term.{Term}
use Rattle.term_core.specs.Mappings.{Name, Row, has_name}
use Rattle.sparql_tree.specs.Exprs.{Expr}
use Rattle.sparql_tree.specs.ExprTrees as exprs
use Rattle.sparql_tree.specs.Scopes.{outside}
use Rattle.plan_tree.specs.Trace.{Plan, rows_plan, join_plan, union_plan, filter_plan, bind_plan, project_plan}
use Rattle.row_cells.specs.declared.cell.Cell.{Cell}
use Rattle.row_cells.specs.declared.cell.Cell.TheVariants.{Free, Given}
use Rattle.row_cells.specs.declared.cell.PatternSlots.{PatternSlots}
use Rattle.row_cells.specs.Cells.{row_of, name_at, pattern_of, AreSlots, AreKnown}
use Rattle.plan_course.specs.declared.course.Placed.{Placed}
use Rattle.plan_course.specs.declared.course.Course as code
use Rattle.plan_course.specs.declared.course.Course.TheVariants as courses

-- a plan with its names and terms numbered: rows of VALUES as terms at places, patterns with slots, and with each condition
-- and value the names that it reads; what a BIND gives has a number too
pub data Course : Type 0 where
  rows_course : (variables : List Name) (rows : List (List Placed)) → Course
  join_course : (left : Course) (s : PatternSlots) → Course
  union_course : (first second : Course) → Course
  filter_course : (inner : Course) (reads : List ℕ) (condition : Expr) → Course
  bind_course : (inner : Course) (slot place : ℕ) (reads : List ℕ) (e : Expr) → Course
  project_course : (inner : Course) (variables : List Name) (kept : List Bool) → Course

-- the numbered plan that the code holds
abbrev pub course_of : code.Course → Course
course_of (courses.Table variables rows) = rows_course variables rows
course_of (courses.Join' p left pattern) = join_course (course_of left) pattern
course_of (courses.Union' p first q second) = union_course (course_of first) (course_of second)
course_of (courses.Filter' p inner reads condition) = filter_course (course_of inner) reads (exprs.tree_of condition)
course_of (courses.Bind' p inner slot place reads value) = bind_course (course_of inner) slot place reads (exprs.tree_of value)
course_of (courses.Project' p inner variables kept) = project_course (course_of inner) variables kept

-- the cells of a row of VALUES, so many
abbrev pub cells_of : ℕ → List Placed → List Cell
cells_of width [] = replicate width Free
cells_of width (entry ∷ entries) = slice_set (cells_of width entries) entry.slot (Given entry.term)

-- the row of VALUES that terms at places mean
abbrev pub given_row : List Name → List Term → List Placed → Row
given_row names given entries = row_of names record { terms = []; given = given; made = [] } (cells_of (length names) entries)

-- the plan whose names and terms have these numbers
abbrev pub plan_of : List Name → List Term → Course → Plan
plan_of names given (rows_course variables rows) = rows_plan variables (map (given_row names given) rows)
plan_of names given (join_course left s) = join_plan (plan_of names given left) (pattern_of names given s)
plan_of names given (union_course first second) = union_plan (plan_of names given first) (plan_of names given second)
plan_of names given (filter_course inner reads condition) = filter_plan (plan_of names given inner) condition
plan_of names given (bind_course inner slot place reads e) = bind_plan (plan_of names given inner) (name_at names slot) e
plan_of names given (project_course inner variables kept) = project_plan (plan_of names given inner) variables

-- what is given by the plan's BINDs in its rows has numbers below this
abbrev pub makes : Course → ℕ
makes (rows_course variables rows) = 0
makes (join_course left s) = makes left
makes (union_course first second) = max (makes first) (makes second)
makes (filter_course inner reads condition) = makes inner
makes (bind_course inner slot place reads e) = place + 1
makes (project_course inner variables kept) = makes inner

-- the places of a row of VALUES are of so many names, and its terms of so many
abbrev pub ArePlaced : (width given : ℕ) → List Placed → Type 0
ArePlaced width given [] = Unit {0}
ArePlaced width given (entry ∷ entries) = ((entry.slot < width) × (entry.term < given)) × ArePlaced width given entries

abbrev pub AllPlaced : (width given : ℕ) → List (List Placed) → Type 0
AllPlaced width given [] = Unit {0}
AllPlaced width given (row ∷ rows) = ArePlaced width given row × AllPlaced width given rows

-- the slots that are read are of so many
abbrev pub AreRead : ℕ → List ℕ → Type 0
AreRead width [] = Unit {0}
AreRead width (slot ∷ reads) = (slot < width) × AreRead width reads

-- the numbers are of so many names, terms of the plan and BINDs; each BIND's is above those of the BINDs below it
abbrev pub IsWide : (width given made : ℕ) → Course → Type 0
IsWide width given made (rows_course variables rows) = (length rows < 2 ^ 32) × AllPlaced width given rows
IsWide width given made (join_course left s) = IsWide width given made left × (AreSlots width s × AreKnown given s)
IsWide width given made (union_course first second) = IsWide width given made first × IsWide width given made second
IsWide width given made (filter_course inner reads condition) = IsWide width given made inner × AreRead width reads
IsWide width given made (bind_course inner slot place reads e) = IsWide width given made inner × ((slot < width) × ((place < made) × ((makes inner ≤ place) × AreRead width reads)))
IsWide width given made (project_course inner variables kept) = IsWide width given made inner

-- each name that an expression reads is among those that are read for it
pub record Covers (names : List Name) (reads : List ℕ) (e : Expr) : Type 0 where
  pub slot : (name : Name) → has_name (outside e) name ≡ true → ℕ
  pub read : (name : Name) (h : has_name (outside e) name ≡ true) → (k : ℕ) × (slice_get reads k ≡ Some (slot name h))
  pub named : (name : Name) (h : has_name (outside e) name ≡ true) → slice_get names (slot name h) ≡ Some name

-- the names that are kept are those of the variables
abbrev pub AreKept : List Name → List Name → List Bool → Type 0
AreKept names variables kept = (k : ℕ) (name : Name) → slice_get names k ≡ Some name → slice_index_or kept k false ≡ has_name variables name

-- what is read for conditions and values is enough, and what projections keep is right
abbrev pub IsNumbered : List Name → Course → Type 0
IsNumbered names (rows_course variables rows) = Unit {0}
IsNumbered names (join_course left s) = IsNumbered names left
IsNumbered names (union_course first second) = IsNumbered names first × IsNumbered names second
IsNumbered names (filter_course inner reads condition) = IsNumbered names inner × Covers names reads condition
IsNumbered names (bind_course inner slot place reads e) = IsNumbered names inner × Covers names reads e
IsNumbered names (project_course inner variables kept) = IsNumbered names inner × AreKept names variables kept

-- how many blocks a step may read, where for a term at most so many are read
abbrev pub cost : ℕ → Course → ℕ
cost r (rows_course variables rows) = 0
cost r (join_course left s) = cost r left + (6 + 75 * r)
cost r (union_course first second) = cost r first + cost r second
cost r (filter_course inner reads condition) = cost r inner + length reads * r
cost r (bind_course inner slot place reads e) = cost r inner + length reads * r
cost r (project_course inner variables kept) = cost r inner
