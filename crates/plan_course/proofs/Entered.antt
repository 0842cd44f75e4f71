-- Rows of VALUES and the terms at places that mean them.
use Rattle.std.proofs.Common.{◌≡◌, ℕ, ◌<◌, List, [], ◌∷◌, length, map, Option, Some, None, refl, ap, ◌∙◌, arith}
use Rattle.std.specs.Prelude.{slice_get, replicate}
use Rattle.std.specs.FinMap as finmap
use Rattle.std.proofs.lemmas.List.{length-replicate}
use Rattle.std.proofs.lemmas.Option.{get_or_from_slice_get, slice_get_within}
use Rattle.term_core.specs.declared.term.Term.{Term}
use Rattle.term_core.specs.declared.term.Term.TheVariants.{Iri}
use Rattle.term_core.specs.Order.{bytes_cmp}
use Rattle.term_core.specs.Mappings.{Name, Row, value, merge, with_entries}
use Rattle.term_core.proofs.Merges.{same_row, either, value-merge}
use Rattle.store_image.specs.Table.{term_numbered}
use Rattle.row_cells.specs.declared.cell.Cell.TheVariants.{Free, Given}
use Rattle.row_cells.specs.Cells.{Words, row_of}
use Rattle.row_cells.specs.Laws.{IsOnce}
use Rattle.row_cells.proofs.Set.{length_set}
use Rattle.row_cells.proofs.Rows.{set_row}
use Rattle.plan_course.specs.declared.course.Placed.{Placed}
use Rattle.plan_course.specs.declared.numbering.Numbering.{Numbering}
use Rattle.plan_course.specs.Courses.{cells_of, given_row, ArePlaced, AllPlaced}
use Rattle.plan_course.specs.Meanings.{AreEntries, no_entries, then_entry, AreRows, no_rows, then_row}

either_nothing : (a : Option Term) → either a None ≡ a
either_nothing None = refl
either_nothing (Some t) = refl

-- all entries of a row make the row
whole : (row : Row) → merge row finmap.empty ≡ row
whole row = same_row (merge row finmap.empty) row (λ name.
    value-merge row finmap.empty name ∙ ap (either (value row name)) (finmap.get-empty bytes_cmp name) ∙ either_nothing (value row name))

-- the term with a number
pub term_is : (given : List Term) (k : ℕ) (t : Term) → slice_get given k ≡ Some t → term_numbered given k ≡ t
term_is given k t e = get_or_from_slice_get given k t (Iri []) e

-- free cells mean nothing
free_row : (names : List Name) (words : Words) → row_of names words (replicate (length names) Free) ≡ finmap.empty
free_row [] words = refl
free_row (name ∷ names) words = free_row names words

cells_count : (width : ℕ) (row : List Placed) → length (cells_of width row) ≡ width
cells_count width [] = length-replicate width Free
cells_count width (p ∷ row) = length_set (cells_of width row) p.slot (Given p.term) ∙ cells_count width row

module _ (n : Numbering) (once : IsOnce n.names) where
  entries_mean : {row : List Placed} {entries : List (Name × Term)} → AreEntries n row entries → given_row n.names n.given row ≡ with_entries entries finmap.empty
  entries_mean no_entries = free_row n.names record { terms = []; given = n.given; made = [] }
  entries_mean (then_entry {placed = p} {entry = entry} {row = row} {entries = entries} e d h) =
      let within : p.slot < length n.names = slice_get_within n.names p.slot entry.0 e in
      let count : length (cells_of (length n.names) row) ≡ length n.names = cells_count (length n.names) row in
      set_row n.names record { terms = []; given = n.given; made = [] } (cells_of (length n.names) row) p.slot entry.0 (Given p.term) entry.1 once e (omega arith)
      (ap Some (term_is n.given p.term entry.1 d))
      ∙ ap (λ m. finmap.insert m entry.0 entry.1) (entries_mean h)

  -- rows of VALUES mean what they were made from
  pub rows_mean_rows : {placed : List (List Placed)} {rows : List Row} → AreRows n placed rows → map (given_row n.names n.given) placed ≡ rows
  rows_mean_rows no_rows = refl
  rows_mean_rows (then_row {row = row} e h) = λ i. (entries_mean e ∙ whole row) i ∷ rows_mean_rows h i

entries_placed : {n : Numbering} {row : List Placed} {entries : List (Name × Term)} → AreEntries n row entries → ArePlaced (length n.names) (length n.given) row
entries_placed no_entries = tt
entries_placed {n} (then_entry {placed = p} {entry = entry} e d h) =
    ((slice_get_within n.names p.slot entry.0 e, slice_get_within n.given p.term entry.1 d), entries_placed h)

-- their places are of so many names, and their terms of so many
pub rows_placed : {n : Numbering} {placed : List (List Placed)} {rows : List Row} → AreRows n placed rows → AllPlaced (length n.names) (length n.given) placed
rows_placed no_rows = tt
rows_placed (then_row e h) = (entries_placed e, rows_placed h)
