-- What is proved of rows of cells.
use Rattle.std.specs.Prelude.{◌≡◌, ◌<◌, ◌≤◌, ℕ, List, length, slice_get, slice_set, Option, Some, None, option_map, true}
use Rattle.std.specs.FinMap as finmap
use Rattle.std.specs.List.Sorted.{IsStrictlySortedBy}
use Rattle.term_core.specs.declared.term.Term.{Term}
use Rattle.term_core.specs.declared.pattern.IdTriple.{IdTriple}
use Rattle.term_core.specs.Mappings.{Name, value}
use Rattle.term_core.specs.Order.{term_cmp}
use Rattle.term_core.specs.Patterns.{agrees}
use Rattle.plan_tree.specs.Trace as trace
use Rattle.store_image.specs.Table.{decode, IsBelow}
use Rattle.triple_store.specs.declared.asked.Asked.{Asked}
use Rattle.triple_store.specs.Ranges.{IsAskedBy}
use Rattle.row_cells.specs.declared.cell.Cell.{Cell}
use Rattle.row_cells.specs.declared.cell.Cell.TheVariants.{Made}
use Rattle.row_cells.specs.declared.cell.PatternSlots.{PatternSlots}
use Rattle.row_cells.specs.Cells.{Words, cell_term, cell_at, row_of, pattern_of, extended, AreSlots, AreCellsIn}
use Rattle.row_cells.specs.Owns.{AsksFor}

-- no name stands twice
pub record IsOnce (names : List Name) : Type 0 where
  pub alone : (i j : ℕ) (name : Name) → slice_get names i ≡ Some name → slice_get names j ≡ Some name → i ≡ j

-- one cell a name, each number one of a term
pub record AreCells (names : List Name) (words : Words) (cells : List Cell) : Type 0 where
  pub count : length cells ≡ length names
  pub within : AreCellsIn (length words.terms) (length words.given) (length words.made) cells

-- the value of a name is the term of its cell
abbrev pub CellsAreValues : Type 0
CellsAreValues = (names : List Name) (words : Words) (cells : List Cell) (k : ℕ) (name : Name) → IsOnce names → slice_get names k ≡ Some name
    → value (row_of names words cells) name ≡ cell_term words (cell_at cells k)

-- what stands at a pattern's positions is what the pattern asks for under the row
abbrev pub CellsAsk : Type 0
CellsAsk = (names : List Name) (words : Words) (s : PatternSlots) (cells : List Cell) (asked : Asked) → IsOnce names → AreSlots (length names) s
    → AsksFor words.terms words s cells asked → IsAskedBy words.terms (pattern_of names words.given s) (row_of names words cells) asked

-- a triple that agrees with a pattern makes of the cells what it makes of the row that they mean
abbrev pub CellsExtend : Type 0
CellsExtend = (names : List Name) (words : Words) (s : PatternSlots) (cells : List Cell) (ids : IdTriple) → IsOnce names → IsStrictlySortedBy term_cmp words.terms
    → AreSlots (length names) s → AreCells names words cells → IsBelow (length words.terms) ids
    → agrees (pattern_of names words.given s) (row_of names words cells) (decode words.terms ids) ≡ true
    → option_map (row_of names words) (extended s cells ids) ≡ trace.extended (pattern_of names words.given s) (row_of names words cells) (decode words.terms ids)

-- and they are cells again
abbrev pub ExtendedAreCells : Type 0
ExtendedAreCells = (terms given made : ℕ) (s : PatternSlots) (cells after : List Cell) (ids : IdTriple) → AreCellsIn terms given made cells → IsBelow terms ids
    → extended s cells ids ≡ Some after → AreCellsIn terms given made after

-- two lists of terms agree up to a number
abbrev pub AgreeBelow : ℕ → (old new : List Term) → Type 0
AgreeBelow n old new = (k : ℕ) → k < n → slice_get old k ≡ slice_get new k

-- cells whose BINDs are below a number mean the same whatever the others give
abbrev pub OthersMakeNoOdds : Type 0
OthersMakeNoOdds = (names : List Name) (words : Words) (made : List Term) (terms given n : ℕ) (cells : List Cell) → AreCellsIn terms given n cells
    → AgreeBelow n words.made made → row_of names record { terms = words.terms; given = words.given; made = made } cells ≡ row_of names words cells

-- a cell set to what a BIND gave binds its name to that
abbrev pub CellsAssign : Type 0
CellsAssign = (names : List Name) (words : Words) (cells : List Cell) (slot k : ℕ) (name : Name) (t : Term) → IsOnce names → slice_get names slot ≡ Some name
    → slot < length cells → slice_get words.made k ≡ Some t
    → row_of names words (slice_set cells slot (Made k)) ≡ finmap.insert (row_of names words cells) name t
