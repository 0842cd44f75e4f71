-- Where a plan stands while it runs.
use Rattle.std.specs.Prelude.{◌≡◌, ℕ, zero, suc, ◌+◌, ◌<◌, ◌≤◌, List, length, slice_get, Option, Some, None, Bool, true, false, ◌&&◌, is_none}
use Rattle.term_core.specs.declared.term.Term.{Term}
use Rattle.term_core.specs.declared.pattern.IdTriple.{IdTriple}
use Rattle.term_core.specs.Mappings.{Name, Row}
use Rattle.term_core.specs.Patterns.{Pattern}
use Rattle.plan_tree.specs.Trace.{Plan, Entries, trace, steps}
use Rattle.plan_tree.specs.States.{made_before}
use Rattle.preempt_scan.specs.declared.scan.Scan.{Scan}
use Rattle.preempt_scan.specs.Scans.{IsScanIn, IsScanOf, HasGiven, scanned}
use Rattle.row_cells.specs.declared.cell.Cell.{Cell}
use Rattle.row_cells.specs.declared.cell.PatternSlots.{PatternSlots}
use Rattle.row_cells.specs.Cells.{Words, row_of, pattern_of, AreCellsIn}
use Rattle.row_cells.specs.Data.{Data}
use Rattle.preempt_join.specs.declared.cursor.Open.{Open}
use Rattle.preempt_join.specs.declared.cursor.Cursor.{Cursor}
use Rattle.preempt_join.specs.declared.cursor.Cursor.TheVariants as cursor
use Rattle.plan_course.specs.Courses.{Course, rows_course, join_course, union_course, filter_course, bind_course, project_course, plan_of, makes}

-- an open scan is of a store with so many triples
abbrev pub IsOpenIn : ℕ → Option Open → Type 0
IsOpenIn triples None = Unit {0}
IsOpenIn triples (Some held) = IsScanIn triples held.scan

-- the numbers in a row that is held are of so many terms of the data, terms of the plan and BINDs
abbrev pub IsHeldIn : Option Open → (terms given made : ℕ) → List Cell → Type 0
IsHeldIn None terms given made cells = Unit {0}
IsHeldIn (Some held) terms given made cells = AreCellsIn terms given made cells

-- a cursor of the numbered plan, over a store with so many triples and terms, with rows of so many cells and so many terms
-- of the plan
abbrev pub HasShape : (triples terms width given : ℕ) → Course → Cursor → Type 0
HasShape triples terms width given (rows_course variables rows) (cursor.Table place ended) = place ≤ length rows
HasShape triples terms width given (join_course left s) (cursor.Join' p below row held) =
    HasShape triples terms width given left below × ((length row.items ≡ width) × (IsOpenIn triples held × IsHeldIn held terms given (makes left) row.items))
HasShape triples terms width given (union_course first second) (cursor.Union' p active false) = HasShape triples terms width given first active
HasShape triples terms width given (union_course first second) (cursor.Union' p active true) = HasShape triples terms width given second active
HasShape triples terms width given (filter_course inner reads condition) at = HasShape triples terms width given inner at
HasShape triples terms width given (bind_course inner slot place reads e) at = HasShape triples terms width given inner at
HasShape triples terms width given (project_course inner variables kept) at = HasShape triples terms width given inner at
HasShape triples terms width given course at = ⊥

-- the last triple that was given, of those of a range
abbrev pub IsLast : List IdTriple → ℕ → Option IdTriple → Type 0
IsLast ids zero last = last ≡ None
IsLast ids (suc k) last = slice_get ids k ≡ last

-- the open scan has given k triples of the range of a row
pub record HasOpened (D : Data) (p : Pattern) (row : Row) (held : Open) (k : ℕ) : Type 0 where
  pub scan : IsScanOf D.triples D.terms D.ids p row held.scan
  pub given : HasGiven D.ids held.scan k
  pub last : IsLast (scanned D.ids held.scan) k held.last

-- where a join stands with such cells, when its left side stands at m
abbrev pub JoinAt : Data → Pattern → Entries → ℕ → Row → Option Open → ℕ → Type 0
JoinAt D p entries m row None n = n ≡ made_before D.triples p entries m
JoinAt D p entries zero row (Some held) n = ⊥
JoinAt D p entries (suc m) row (Some held) n =
    (slice_get entries m ≡ Some (Some row)) × ((k : ℕ) × (HasOpened D p row held k × (n ≡ made_before D.triples p entries m + 1 + k)))

-- the terms that cells speak of, over the data
abbrev pub words_in : Data → List Term → List Term → Words
words_in D given made = record { terms = D.terms; given = given; made = made }

-- the cursor stands behind n entries of the plan's trace
abbrev pub CursorAt : List Name → Data → (given made : List Term) → Course → Cursor → ℕ → Type 0
CursorAt names D given made (rows_course variables rows) (cursor.Table place false) n = (place ≤ length rows) × (n ≡ place)
CursorAt names D given made (rows_course variables rows) (cursor.Table place true) n = n ≡ length rows + 1
CursorAt names D given made (join_course left s) (cursor.Join' p below row held) n =
    (m : ℕ) × (CursorAt names D given made left below m
    × JoinAt D (pattern_of names given s) (trace D.triples (plan_of names given left)) m (row_of names (words_in D given made) row.items) held n)
CursorAt names D given made (union_course first second) (cursor.Union' p active false) n =
    CursorAt names D given made first active n × (n < steps D.triples (plan_of names given first))
CursorAt names D given made (union_course first second) (cursor.Union' p active true) n =
    (k : ℕ) × (CursorAt names D given made second active k × (n ≡ steps D.triples (plan_of names given first) + k))
CursorAt names D given made (filter_course inner reads condition) at n = CursorAt names D given made inner at n
CursorAt names D given made (bind_course inner slot place reads e) at n = CursorAt names D given made inner at n
CursorAt names D given made (project_course inner variables kept) at n = CursorAt names D given made inner at n
CursorAt names D given made course at n = ⊥

-- nothing more comes
abbrev pub is_over : Cursor → Bool
is_over (cursor.Table place ended) = ended
is_over (cursor.Join' p below row held) = is_none held && is_over below
is_over (cursor.Union' p active on_second) = on_second && is_over active
