-- Terms of the plan and of its BINDs, with the ranks that were looked up; and what a cell wants of a triple.
use Rattle.std.specs.Prelude.{◌≡◌, ◌<◌, ℕ, List, length, map, slice_get, slice_index_or, Option, Some, None, is_some}
use Rattle.term_core.specs.declared.term.Term.{Term}
use Rattle.term_core.specs.Mappings.{Row}
use Rattle.term_core.specs.Patterns.{Pattern, filled, fits}
use Rattle.store_image.specs.Table.{term_numbered}
use Rattle.triple_store.specs.declared.asked.Wanted.{Wanted}
use Rattle.triple_store.specs.declared.asked.Asked.{Asked}
use Rattle.triple_store.specs.Asked.{admits, is_bound}
use Rattle.row_cells.specs.declared.cell.Cell.{Cell}
use Rattle.row_cells.specs.declared.cell.PatternSlots.{PatternSlots}
use Rattle.row_cells.specs.declared.own.OwnTerms.{OwnTerms}
use Rattle.row_cells.specs.Cells.{Words, cell_term, position_cell}

-- what is wanted of a rank admits those of the terms that fit a value, if there is one
pub record Wants (terms : List Term) (value : Option Term) (wanted : Wanted) : Type 0 where
  pub bound : is_bound wanted ≡ is_some value
  pub same : (k : ℕ) → k < length terms → admits wanted k ≡ fits value (term_numbered terms k)

-- the terms that cells speak of, over terms by rank
abbrev pub words_of : List Term → OwnTerms → Words
words_of terms own = record { terms = terms; given = own.given; made = own.made.items }

-- there is room for a rank with each term of the plan
pub record HasRoom (own : OwnTerms) : Type 0 where
  pub ranks : length own.ranks.items ≡ length own.given

-- what was looked up are the ranks of the plan's terms
abbrev pub AreSought : List Term → OwnTerms → Type 0
AreSought terms own = (k : ℕ) (w : Wanted) → slice_get own.ranks.items k ≡ Some (Some w) → Wants terms (Some (term_numbered own.given k)) w

-- only ranks were looked up
pub record IsSameOwn (old new : OwnTerms) : Type 0 where
  pub given : new.given ≡ old.given
  pub made : new.made.items ≡ old.made.items
  pub room : length new.ranks.items ≡ length old.ranks.items

-- what is asked for is what stands at the three positions
pub record AsksFor (terms : List Term) (words : Words) (s : PatternSlots) (cells : List Cell) (asked : Asked) : Type 0 where
  pub subject : Wants terms (cell_term words (position_cell cells s.subject)) asked.s
  pub predicate : Wants terms (cell_term words (position_cell cells s.predicate)) asked.p
  pub object : Wants terms (cell_term words (position_cell cells s.object)) asked.o
