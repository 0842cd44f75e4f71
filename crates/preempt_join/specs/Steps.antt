-- One step.
use Rattle.std.specs.Prelude.{◌≡◌, ℕ, ◌+◌, ◌≤◌, List, [], ◌∷◌, length, slice_get, slice_index_or, slice_set, Option, Some, None, Bool, true, false, if◌then◌else◌}
use Rattle.term_core.specs.declared.term.Term.{Term}
use Rattle.term_core.specs.declared.pattern.IdTriple.{IdTriple}
use Rattle.term_core.specs.Mappings.{Name, Row}
use Rattle.term_core.specs.Patterns.{Pattern}
use Rattle.sparql_value.specs.Solutions.{with_value}
use Rattle.plan_tree.specs.Trace.{trace}
use Rattle.preempt_scan.specs.declared.scan.Scan.{Scan}
use Rattle.preempt_scan.specs.Scans.{HasGiven, IsScanOf, scanned}
use Rattle.row_cells.specs.declared.cell.Cell.{Cell}
use Rattle.row_cells.specs.declared.cell.Cell.TheVariants.{Free, Made}
use Rattle.row_cells.specs.declared.cell.PatternSlots.{PatternSlots}
use Rattle.row_cells.specs.declared.own.OwnTerms.{OwnTerms}
use Rattle.row_cells.specs.Cells.{Words, row_of, pattern_of, cell_at, cell_term, name_at, extended, AreCellsIn}
use Rattle.row_cells.specs.Data.{Data}
use Rattle.plan_course.specs.declared.course.Placed.{Placed}
use Rattle.preempt_join.specs.declared.cursor.Open.{Open}
use Rattle.preempt_join.specs.declared.cursor.Cursor.{Cursor}
use Rattle.preempt_join.specs.declared.cursor.Signal.{Signal}
use Rattle.preempt_join.specs.declared.cursor.Signal.TheVariants.{End, NotYet, Row as ARow}
use Rattle.plan_course.specs.Courses.{Course, cells_of, plan_of}
use Rattle.preempt_join.specs.Cursors.{CursorAt, HasOpened, words_in}

-- what a turn and the cells that it wrote show of an entry
abbrev pub Shows : List Name → Words → Signal → List Cell → Option (Option Row) → Type 0
Shows names words End cells entry = entry ≡ None
Shows names words NotYet cells entry = entry ≡ Some None
Shows names words ARow cells entry = entry ≡ Some (Some (row_of names words cells))

-- the place behind a turn
abbrev pub moved : Signal → ℕ → ℕ
moved End n = n
moved NotYet n = n + 1
moved ARow n = n + 1

-- a step from wherever the cursor stands
pub record Advances (names : List Name) (D : Data) (given : List Term) (course : Course) (made made2 : List Term) (old new : Cursor) (turn : Signal) (cells : List Cell) : Type 0 where
  pub by : (n : ℕ) → CursorAt names D given made course old n
      → Shows names (words_in D given made2) turn cells (slice_get (trace D.triples (plan_of names given course)) n) × CursorAt names D given made2 course new (moved turn n)

-- the numbers in a row that is given are of so many terms of the data, terms of the plan and BINDs
abbrev pub IsGivenIn : Signal → (terms given made : ℕ) → List Cell → Type 0
IsGivenIn End terms given made cells = Unit {0}
IsGivenIn NotYet terms given made cells = Unit {0}
IsGivenIn ARow terms given made cells = AreCellsIn terms given made cells

-- the plan's terms and how many BINDs there are
pub record KeepsOwn (old new : OwnTerms) : Type 0 where
  pub given : new.given ≡ old.given
  pub made : length new.made.items ≡ length old.made.items

-- the next entry of a table
abbrev pub TableGives : List (List Placed) → ℕ → Bool → Signal → List Cell → ℕ → Bool → Type 0
TableGives rows place true turn cells place2 ended2 = (turn ≡ End) × ((place2 ≡ place) × (ended2 ≡ true))
TableGives rows place false ARow cells place2 ended2 =
    ((row : List Placed) × ((slice_get rows place ≡ Some row) × (cells ≡ cells_of (length cells) row))) × ((place2 ≡ place + 1) × (ended2 ≡ false))
TableGives rows place false NotYet cells place2 ended2 = (slice_get rows place ≡ None) × ((place2 ≡ place) × (ended2 ≡ true))
TableGives rows place false End cells place2 ended2 = ⊥

-- what a join gives when it takes an entry of its left side
abbrev pub quiet : Signal → Signal
quiet End = End
quiet NotYet = NotYet
quiet ARow = NotYet

-- the scan that a row of the left side opens
abbrev pub Opens : List Name → Data → Words → PatternSlots → Signal → List Cell → Option Open → Type 0
Opens names D words s End cells held = held ≡ None
Opens names D words s NotYet cells held = held ≡ None
Opens names D words s ARow cells None = ⊥
Opens names D words s ARow cells (Some held) = HasOpened D (pattern_of names words.given s) (row_of names words cells) held 0

-- a turn gives the cells that a triple makes
abbrev pub Makes : Signal → List Cell → Option (List Cell) → Type 0
Makes End cells made = ⊥
Makes NotYet cells made = made ≡ None
Makes ARow cells made = made ≡ Some cells

-- what an open join gives when its scan has given k triples
abbrev pub GoesOn : List IdTriple → PatternSlots → List Cell → Option Open → ℕ → Signal → List Cell → Option Open → Type 0
GoesOn ids s cells (Some old) k turn out (Some new) =
    (t : IdTriple) × ((slice_get (scanned ids old.scan) k ≡ Some t) × ((new.scan.order ≡ old.scan.order) × ((new.scan.prefix ≡ old.scan.prefix)
    × (HasGiven ids new.scan (k + 1) × ((new.last ≡ Some t) × Makes turn out (extended s cells t))))))
GoesOn ids s cells (Some old) k turn out None = (k ≡ length (scanned ids old.scan)) × (turn ≡ NotYet)
GoesOn ids s cells None k turn out new = ⊥

-- a row is kept where a condition is true
abbrev pub sifted : Bool → Signal → Signal
sifted b End = End
sifted b NotYet = NotYet
sifted b ARow = if b then ARow else NotYet

-- the names at the slots, each with its cell's term, if that has one, over a row
abbrev pub picked : List Name → Words → List Cell → List ℕ → Row → Row
picked names words cells [] row = row
picked names words cells (slot ∷ reads) row = picked names words cells reads (with_value (name_at names slot) (cell_term words (cell_at cells slot)) row)

-- a row gets a value, which the BIND with that number gave
abbrev pub Assigns : Option Term → (slot place : ℕ) → Signal → (cells out : List Cell) → (made made2 : List Term) → Type 0
Assigns v slot place End cells out made made2 = made2 ≡ made
Assigns v slot place NotYet cells out made made2 = made2 ≡ made
Assigns None slot place ARow cells out made made2 = (out ≡ cells) × (made2 ≡ made)
Assigns (Some t) slot place ARow cells out made made2 = (out ≡ slice_set cells slot (Made place)) × (made2 ≡ slice_set made place t)

-- cells of which those that are not kept are let go
abbrev pub freed : List Bool → List Cell → List Cell
freed kept [] = []
freed [] (c ∷ cs) = Free ∷ freed [] cs
freed (k ∷ ks) (c ∷ cs) = (if k then c else Free) ∷ freed ks cs
