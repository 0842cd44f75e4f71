-- Rows of cells, one for each name, and the solutions that they mean.
use Rattle.std.specs.Prelude.{◌≡◌, ◌<◌, ℕ, List, [], ◌∷◌, length, slice_index_or, slice_set, Option, Some, None, ◌==◌, if◌then◌else◌}
use Rattle.std.specs.FinMap as finmap
use Rattle.term_core.specs.declared.term.Term.{Term}
use Rattle.term_core.specs.declared.pattern.IdTriple.{IdTriple}
use Rattle.term_core.specs.Mappings.{Name, Row}
use Rattle.term_core.specs.Patterns.{Position, Known, Named, Pattern}
use Rattle.sparql_value.specs.Solutions.{with_value}
use Rattle.store_image.specs.Table.{term_numbered}
use Rattle.row_cells.specs.declared.cell.Cell.{Cell}
use Rattle.row_cells.specs.declared.cell.Cell.TheVariants.{Free, Id, Given, Made}
use Rattle.row_cells.specs.declared.cell.Position as code
use Rattle.row_cells.specs.declared.cell.Position.TheVariants as place
use Rattle.row_cells.specs.declared.cell.PatternSlots.{PatternSlots}

-- the terms that cells speak of: those of the data by rank, those of the plan, and what each BIND gave last
pub record Words : Type 0 where
  pub terms : List Term
  pub given : List Term
  pub made : List Term

-- the term of a cell
abbrev pub cell_term : Words → Cell → Option Term
cell_term words Free = None
cell_term words (Id k) = Some (term_numbered words.terms k)
cell_term words (Given k) = Some (term_numbered words.given k)
cell_term words (Made k) = Some (term_numbered words.made k)

-- the row that cells mean, one for each name
abbrev pub row_of : List Name → Words → List Cell → Row
row_of [] words cells = finmap.empty
row_of (name ∷ names) words [] = finmap.empty
row_of (name ∷ names) words (cell ∷ cells) = with_value name (cell_term words cell) (row_of names words cells)

-- the cell at a place
abbrev pub cell_at : List Cell → ℕ → Cell
cell_at cells k = slice_index_or cells k Free

-- the name with a number
abbrev pub name_at : List Name → ℕ → Name
name_at names k = slice_index_or names k []

-- what a position of a pattern stands for
abbrev pub position_of : List Name → List Term → code.Position → Position
position_of names given (place.Known k) = Known (term_numbered given k)
position_of names given (place.Slot k) = Named (name_at names k)

-- the pattern whose terms and names are numbered so
abbrev pub pattern_of : List Name → List Term → PatternSlots → Pattern
pattern_of names given s = record {
  subject = position_of names given s.subject;
  predicate = position_of names given s.predicate;
  object = position_of names given s.object;
}

-- the cell that stands at a position: a term of the plan, or what the row has under the name
abbrev pub position_cell : List Cell → code.Position → Cell
position_cell cells (place.Known k) = Given k
position_cell cells (place.Slot k) = cell_at cells k

-- the name at a position, if there is one, is of so many
abbrev pub IsSlot : ℕ → code.Position → Type 0
IsSlot width (place.Known k) = Unit {0}
IsSlot width (place.Slot k) = k < width

abbrev pub AreSlots : ℕ → PatternSlots → Type 0
AreSlots width s = IsSlot width s.subject × (IsSlot width s.predicate × IsSlot width s.object)

-- the term at a position, if there is one, is of so many
abbrev pub IsKnown : ℕ → code.Position → Type 0
IsKnown given (place.Known k) = k < given
IsKnown given (place.Slot k) = Unit {0}

abbrev pub AreKnown : ℕ → PatternSlots → Type 0
AreKnown given s = IsKnown given s.subject × (IsKnown given s.predicate × IsKnown given s.object)

-- a name bound to a term of the data: one that has a term has this one already, since the triple agrees with it; but of two
-- places of one name the second meets the first one's rank
abbrev pub bind_cell : ℕ → ℕ → Cell → List Cell → Option (List Cell)
bind_cell slot id Free cells = Some (slice_set cells slot (Id id))
bind_cell slot id (Id k) cells = if k == id then Some cells else None
bind_cell slot id (Given k) cells = Some cells
bind_cell slot id (Made k) cells = Some cells

abbrev pub bind_slot : code.Position → ℕ → Option (List Cell) → Option (List Cell)
bind_slot (place.Known k) id cells = cells
bind_slot (place.Slot k) id None = None
bind_slot (place.Slot k) id (Some cells) = bind_cell k id (cell_at cells k) cells

-- the cells of a row with a pattern's names bound to a triple's ranks, or nothing where one name would get two
abbrev pub extended : PatternSlots → List Cell → IdTriple → Option (List Cell)
extended s cells ids = bind_slot s.object ids.o (bind_slot s.predicate ids.p (bind_slot s.subject ids.s (Some cells)))

-- the numbers in a cell are below those of the data's terms, the plan's terms and the BINDs
abbrev pub IsCellIn : (terms given made : ℕ) → Cell → Type 0
IsCellIn terms given made Free = Unit {0}
IsCellIn terms given made (Id k) = k < terms
IsCellIn terms given made (Given k) = k < given
IsCellIn terms given made (Made k) = k < made

abbrev pub AreCellsIn : (terms given made : ℕ) → List Cell → Type 0
AreCellsIn terms given made [] = Unit {0}
AreCellsIn terms given made (c ∷ cs) = IsCellIn terms given made c × AreCellsIn terms given made cs
