-- Cells that are set.
use Rattle.std.proofs.Common.{◌≡◌, ℕ, zero, suc, ◌<◌, List, [], ◌∷◌, length, Option, Some, None, refl, sym, ap, ◌∙◌, subst, arith, inl, inr, ⊎_elim}
use Rattle.std.specs.Prelude.{slice_get, slice_set, slice_index_or, ◌⊎◌}
use Rattle.row_cells.specs.declared.cell.Cell.{Cell}
use Rattle.row_cells.specs.declared.cell.Cell.TheVariants.{Free, Id, Given, Made}
use Rattle.term_core.proofs.Merges.{Some_same}
use Rattle.row_cells.specs.declared.cell.Position as code
use Rattle.row_cells.specs.declared.cell.Position.TheVariants as place
use Rattle.row_cells.specs.Cells.{cell_at, position_cell, IsKnown, IsCellIn, AreCellsIn}

pub set_within : (terms given made k : ℕ) (c : Cell) (cells : List Cell) → AreCellsIn terms given made cells → IsCellIn terms given made c → AreCellsIn terms given made (slice_set cells k c)
set_within terms given made k c [] h b = tt
set_within terms given made zero c (x ∷ cells) h b = (b, h.1)
set_within terms given made (suc k) c (x ∷ cells) h b = (h.0, set_within terms given made k c cells h.1 b)

pub within_at : (terms given made k : ℕ) (cells : List Cell) → AreCellsIn terms given made cells → IsCellIn terms given made (cell_at cells k)
within_at terms given made k [] h = tt
within_at terms given made zero (x ∷ cells) h = h.0
within_at terms given made (suc k) (x ∷ cells) h = within_at terms given made k cells h.1

pub length_set : (cells : List Cell) (k : ℕ) (c : Cell) → length (slice_set cells k c) ≡ length cells
length_set [] k c = refl
length_set (x ∷ cells) zero c = refl
length_set (x ∷ cells) (suc k) c = ap suc (length_set cells k c)

-- a cell behind one that is set
pub set_at : (cells : List Cell) (k j : ℕ) (new c : Cell) → cell_at (slice_set cells k new) j ≡ c → (cell_at cells j ≡ c) ⊎ (c ≡ new)
set_at [] k j new c e = inl e
set_at (x ∷ cells) zero zero new c e = inr (sym e)
set_at (x ∷ cells) zero (suc j) new c e = inl e
set_at (x ∷ cells) (suc k) zero new c e = inl e
set_at (x ∷ cells) (suc k) (suc j) new c e = set_at cells k j new c e

wider : (terms given m n : ℕ) (c : Cell) → ((k : ℕ) → k < m → k < n) → IsCellIn terms given m c → IsCellIn terms given n c
wider terms given m n Free h b = tt
wider terms given m n (Id k) h b = b
wider terms given m n (Given k) h b = b
wider terms given m n (Made k) h b = h k b

-- cells whose BINDs are below a number are so below a greater one
pub all_wider : (terms given m n : ℕ) (cells : List Cell) → ((k : ℕ) → k < m → k < n) → AreCellsIn terms given m cells → AreCellsIn terms given n cells
all_wider terms given m n [] h b = tt
all_wider terms given m n (c ∷ cells) h b = (wider terms given m n c h b.0, all_wider terms given m n cells h b.1)

-- the cell at a position of a pattern
pub position_within : (terms given made : ℕ) (cells : List Cell) (s : code.Position) → AreCellsIn terms given made cells → IsKnown given s → IsCellIn terms given made (position_cell cells s)
position_within terms given made cells (place.Known k) h b = b
position_within terms given made cells (place.Slot k) h b = within_at terms given made k cells h

-- a member of a list in which one was set
pub get_set : {X : Type 0} (xs : List X) (i k : ℕ) (x y : X) → slice_get (slice_set xs i x) k ≡ Some y → (slice_get xs k ≡ Some y) ⊎ ((k ≡ i) × (x ≡ y))
get_set [] i k x y e = inl e
get_set (z ∷ xs) zero zero x y e = inr (refl, Some_same x y e)
get_set (z ∷ xs) zero (suc k) x y e = inl e
get_set (z ∷ xs) (suc i) zero x y e = inl e
get_set (z ∷ xs) (suc i) (suc k) x y e = ⊎_elim (λ l. inl l) (λ r. inr (ap suc r.0, r.1)) (get_set xs i k x y e)
