-- What numbers stand for while they are given, and the plans that numbered ones mean.
use Rattle.std.specs.Prelude.{◌≡◌, ℕ, ◌==◌, ◌<◌, ◌≤◌, ◌^◌, List, [], ◌∷◌, length, slice_get, slice_index_or, Some, Bool, false}
use Rattle.std.specs.List.{list_any}
use Rattle.std.specs.FinMap as finmap
use Rattle.std.specs.BTreeMap.{get_by_text}
use Rattle.term_core.specs.declared.term.Term.{Term}
use Rattle.term_core.specs.Mappings.{Name, Row}
use Rattle.term_core.specs.Patterns.{Position, Known, Named, Pattern}
use Rattle.sparql_tree.specs.Exprs.{Expr}
use Rattle.sparql_tree.specs.Scopes.{outside}
use Rattle.plan_tree.specs.Trace.{Plan, rows_plan, join_plan, union_plan, filter_plan, bind_plan, project_plan}
use Rattle.row_cells.specs.declared.cell.Position as code
use Rattle.row_cells.specs.declared.cell.Position.TheVariants as place
use Rattle.row_cells.specs.declared.cell.PatternSlots.{PatternSlots}
use Rattle.plan_course.specs.declared.course.Placed.{Placed}
use Rattle.plan_course.specs.declared.numbering.Numbering.{Numbering}
use Rattle.plan_course.specs.Courses.{Course, rows_course, join_course, union_course, filter_course, bind_course, project_course, makes}

-- a look-up of a name tells its number, and a look-up of what is no name tells nothing
pub record Tells (numbering : Numbering) : Type 0 where
  pub named : (name : Name) (k : ℕ) → get_by_text numbering.slots name ≡ Some k → slice_get numbering.names k ≡ Some name
  pub told : (name : Name) (k : ℕ) → slice_get numbering.names k ≡ Some name → get_by_text numbering.slots name ≡ Some k

-- more numbers were given: each name and term keeps its own
pub record Grown (old new : Numbering) : Type 0 where
  pub tells : Tells new
  pub names : (k : ℕ) (name : Name) → slice_get old.names k ≡ Some name → slice_get new.names k ≡ Some name
  pub given : (k : ℕ) (term : Term) → slice_get old.given k ≡ Some term → slice_get new.given k ≡ Some term
  pub made : old.made ≤ new.made

-- these are the numbers of names, in their order
pub data AreNamed (names : List Name) : List ℕ → List Name → Type 0 where
  none_named : AreNamed names [] []
  then_named : {slot : ℕ} {name : Name} {slots : List ℕ} {more : List Name} → slice_get names slot ≡ Some name → AreNamed names slots more → AreNamed names (slot ∷ slots) (name ∷ more)

-- these are the numbers of the entries of a row of VALUES, in their order
pub data AreEntries (numbering : Numbering) : List Placed → List (Name × Term) → Type 0 where
  no_entries : AreEntries numbering [] []
  then_entry : {placed : Placed} {entry : Name × Term} {row : List Placed} {entries : List (Name × Term)} → slice_get numbering.names placed.slot ≡ Some entry.0
      → slice_get numbering.given placed.term ≡ Some entry.1 → AreEntries numbering row entries → AreEntries numbering (placed ∷ row) (entry ∷ entries)

-- these are the rows of VALUES with numbers
pub data AreRows (numbering : Numbering) : List (List Placed) → List Row → Type 0 where
  no_rows : AreRows numbering [] []
  then_row : {placed : List Placed} {row : Row} {more : List (List Placed)} {rows : List Row} → AreEntries numbering placed (finmap.entries row) → AreRows numbering more rows
      → AreRows numbering (placed ∷ more) (row ∷ rows)

-- a position with its number
pub data IsPosition (numbering : Numbering) : code.Position → Position → Type 0 where
  known_position : {k : ℕ} {term : Term} → slice_get numbering.given k ≡ Some term → IsPosition numbering (place.Known k) (Known term)
  named_position : {k : ℕ} {name : Name} → slice_get numbering.names k ≡ Some name → IsPosition numbering (place.Slot k) (Named name)

-- a pattern with its numbers
pub record IsPattern (numbering : Numbering) (s : PatternSlots) (p : Pattern) : Type 0 where
  pub subject : IsPosition numbering s.subject p.subject
  pub predicate : IsPosition numbering s.predicate p.predicate
  pub object : IsPosition numbering s.object p.object

-- whether a number is among some
abbrev pub has_slot : List ℕ → ℕ → Bool
has_slot slots k = list_any (λ slot. k == slot) slots

-- the numbers that are marked are these
pub record AreMarked (slots : List ℕ) (kept : List Bool) : Type 0 where
  pub marked : (k : ℕ) → slice_index_or kept k false ≡ has_slot slots k

-- a plan with its numbers
pub data Means (numbering : Numbering) : Course → Plan → Type 0 where
  rows_mean : {variables : List Name} {placed : List (List Placed)} {rows : List Row} → length placed < 2 ^ 32 → AreRows numbering placed rows
      → Means numbering (rows_course variables placed) (rows_plan variables rows)
  join_means : {left : Course} {s : PatternSlots} {below : Plan} {p : Pattern} → Means numbering left below → IsPattern numbering s p
      → Means numbering (join_course left s) (join_plan below p)
  union_means : {first second : Course} {one two : Plan} → Means numbering first one → Means numbering second two
      → Means numbering (union_course first second) (union_plan one two)
  filter_means : {inner : Course} {reads : List ℕ} {condition : Expr} {below : Plan} → Means numbering inner below → AreNamed numbering.names reads (outside condition)
      → Means numbering (filter_course inner reads condition) (filter_plan below condition)
  bind_means : {inner : Course} {slot place : ℕ} {reads : List ℕ} {value : Expr} {below : Plan} {name : Name} → Means numbering inner below
      → slice_get numbering.names slot ≡ Some name → place < numbering.made → makes inner ≤ place → AreNamed numbering.names reads (outside value)
      → Means numbering (bind_course inner slot place reads value) (bind_plan below name value)
  project_means : {inner : Course} {variables : List Name} {slots : List ℕ} {kept : List Bool} {below : Plan} → Means numbering inner below
      → AreNamed numbering.names slots variables → AreMarked slots kept → Means numbering (project_course inner variables kept) (project_plan below variables)
