-- The plan of a single pattern: its entries, and all the states of it.
use Rattle.std.specs.Prelude.{◌≡◌, ℕ, ◌+◌, List, [], ◌∷◌, ◌++◌, length, map, slice_get, Option, Some, None}
use Rattle.std.specs.FinMap as finmap
use Rattle.std.specs.List.{filter_map}
use Rattle.term_core.specs.declared.term.Triple.{Triple}
use Rattle.term_core.specs.Bags.{In}
use Rattle.term_core.specs.Mappings.{Name, Row, restricted}
use Rattle.term_core.specs.Patterns.{Pattern, names_in}
use Rattle.sparql_tree.specs.Bgp.{solutions}
use Rattle.sparql_tree.specs.Answer.{IsAnswer}
use Rattle.plan_tree.specs.Trace.{Plan, rows_plan, join_plan, project_plan, extended, changed, trace, steps, rows_of}
use Rattle.term_core.specs.Index.{range}
use Rattle.plan_tree.specs.Laws.{AreVariables}
use Rattle.plan_tree.specs.States.{idle, opened, at_triple, State, table_state, join_state, Stands}
use Rattle.term_core.specs.Data.{ids_of}

-- the pattern joined to the table of one empty row, restricted to names
abbrev pub pattern_plan : Pattern → List Name → Plan
pattern_plan p names = project_plan (join_plan (rows_plan [] (finmap.empty ∷ [])) p) names

-- the triples of the data that agree with the pattern's terms, in the order of its index
abbrev pub matches : List Triple → Pattern → List Triple
matches D p = range D p finmap.empty

-- the solution that a triple makes, or nothing where one name would get two values
abbrev pub solution_of : Pattern → Triple → Option Row
solution_of p t = extended p finmap.empty t

-- the plan's entry of a triple: its solution, restricted to the names
abbrev pub entry_of : Pattern → List Name → Triple → Option Row
entry_of p names t = changed (restricted names) (solution_of p t)

-- nothing has been given yet
abbrev pub fresh_state : State
fresh_state = join_state (table_state 0) idle

-- the empty row was taken, and no triple
abbrev pub opened_state : State
opened_state = join_state (table_state 1) opened

-- the entry of this triple was the last
abbrev pub triple_state : List Triple → Triple → State
triple_state D t = join_state (table_state 1) (at_triple (ids_of D t))

-- the triples are all given, and one entry without a row is still to come
abbrev pub closing_state : State
closing_state = join_state (table_state 1) idle

-- one empty entry, one entry a triple, two empty entries
pub record PatternTrace (D : List Triple) (p : Pattern) (names : List Name) : Type 0 where
  pub entries_are : trace D (pattern_plan p names) ≡ None ∷ (map (entry_of p names) (matches D p) ++ None ∷ None ∷ [])
  pub steps_are : steps D (pattern_plan p names) ≡ length (matches D p) + 3

-- so for every pattern
abbrev pub PatternTraces : Type 0
PatternTraces = (D : List Triple) (p : Pattern) (names : List Name) → PatternTrace D p names

-- where each form of state stands
pub record PatternStates (D : List Triple) (p : Pattern) (names : List Name) : Type 0 where
  pub fresh : Stands D (pattern_plan p names) fresh_state 0
  pub opened_next : Stands D (pattern_plan p names) opened_state 1
  pub triple : (k : ℕ) (t : Triple) → slice_get (matches D p) k ≡ Some t → Stands D (pattern_plan p names) (triple_state D t) (k + 2)
  pub closing : Stands D (pattern_plan p names) closing_state (length (matches D p) + 2)

-- they stand there for every pattern
abbrev pub PatternStatesStand : Type 0
PatternStatesStand = (D : List Triple) (p : Pattern) (names : List Name) → PatternStates D p names

-- the forms of state, each with the number of entries before it
pub data IsPatternState (D : List Triple) (p : Pattern) (state : State) (n : ℕ) : Type 0 where
  is_fresh : (is : state ≡ fresh_state) (at : n ≡ 0) → IsPatternState D p state n
  is_opened : (is : state ≡ opened_state) (at : n ≡ 1) → IsPatternState D p state n
  is_triple : (k : ℕ) (t : Triple) (found : slice_get (matches D p) k ≡ Some t) (is : state ≡ triple_state D t) (at : n ≡ k + 2) → IsPatternState D p state n
  is_closing : (is : state ≡ closing_state) (at : n ≡ length (matches D p) + 2) → IsPatternState D p state n

-- no other state stands anywhere
abbrev pub NoOtherStates : Type 0
NoOtherStates = (D : List Triple) (p : Pattern) (names : List Name) (state : State) (n : ℕ) → Stands D (pattern_plan p names) state n → IsPatternState D p state n

-- each name of the pattern is among the names
abbrev pub HasNamesOf : List Name → Pattern → Type 0
HasNamesOf names p = (name : Name) → In (names_in p) name → In names name

-- a solution binds only names of the pattern, so that a restriction to all of them keeps it
abbrev pub EntriesAreKept : Type 0
EntriesAreKept = (p : Pattern) (names : List Name) (t : Triple) → HasNamesOf names p → entry_of p names t ≡ solution_of p t

-- the rows of the plan are the triples' solutions restricted to the names, and the solutions themselves where it keeps all names of the pattern
pub record PatternRows (D : List Triple) (p : Pattern) (names : List Name) : Type 0 where
  pub cut : rows_of (trace D (pattern_plan p names)) ≡ map (restricted names) (filter_map (solution_of p) (matches D p))
  pub whole : HasNamesOf names p → rows_of (trace D (pattern_plan p names)) ≡ filter_map (solution_of p) (matches D p)

-- so for every pattern
abbrev pub RowsAreSolutions : Type 0
RowsAreSolutions = (D : List Triple) (p : Pattern) (names : List Name) → PatternRows D p names

-- the triples' solutions, restricted to the variables that are selected, answer the query (SPARQL 1.1, 18.5)
abbrev pub SelectedRowsAnswer : Type 0
SelectedRowsAnswer = (L : List Triple) (p : Pattern) (selected : List Name) → AreVariables selected →
    IsAnswer (solutions L (p ∷ [])) selected (map (restricted selected) (filter_map (solution_of p) (matches L p)))
