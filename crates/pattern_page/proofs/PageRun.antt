-- Steps taken from a cursor.
use Rattle.std.proofs.Common.{◌≡◌, ℕ, ◌+◌, ◌≤◌, List, [], Bool, true, false, refl, sym, subst, arith}
use Rattle.term_core.specs.declared.term.Term.{Term}
use Rattle.term_core.specs.declared.pattern.IdTriple.{IdTriple}
use Rattle.term_core.specs.Mappings.{Row}
use Rattle.triple_store.specs.Stores.{View, IsKept}
use Rattle.pattern_page.specs.declared.page.Part.{Part}
use Rattle.pattern_page.specs.declared.page.Cursor.{Cursor}
use Rattle.pattern_page.specs.declared.page.Cursor.TheVariants as cursors
use Rattle.pattern_page.specs.declared.page.Stretch.{Stretch}
use Rattle.pattern_page.specs.PagesOf.{Seen, part_seen, IsSeen, IsAt, left_at, IsCursorWithin, AreTaken, IsStretchFrom, IsMore}
use Rattle.pattern_page.proofs.PageLists.{none_taken, taken_more, all_taken, quantum_taken}

-- what holds after each step
abbrev pub IsOnTheWay : Seen → Cursor → Stretch → ℕ → Type 0
IsOnTheWay part start stretch counter =
    IsCursorWithin part stretch.cursor × AreTaken (left_at part start) stretch.steps stretch.rows (left_at part stretch.cursor) × (stretch.steps ≡ counter)

pub one_more : (part : Seen) (start : Cursor) (old new : Stretch) (counter : ℕ) (more : Bool) → IsOnTheWay part start old counter → IsMore part old new more → more ≡ true → IsOnTheWay part start new (counter + 1)
one_more part start old new counter false h m e = cc
one_more part start old new counter true h (row, within, left, rows, steps) e = (
  within,
  taken_more (left_at part start) old.steps new.steps old.rows new.rows (left_at part old.cursor) (left_at part new.cursor) row h.1 left rows steps,
  omega (arith, steps, h.2),
)

pub stopped : (part : Seen) (start : Cursor) (quantum counter : ℕ) (old new : Stretch) (more : Bool) → IsOnTheWay part start old counter → counter ≤ quantum → IsMore part old new more → more ≡ false
    → IsStretchFrom part start quantum new
stopped part start quantum counter old new true h q m e = cc
stopped part start quantum counter old new false h q m e =
    subst (IsStretchFrom part start quantum) (sym m.1) (record {
      within = h.0;
      taken = h.1;
      steps_are = all_taken (left_at part start) old.steps quantum old.rows (left_at part old.cursor) h.1 m.0 (omega (arith, h.2, q));
    })

pub full : (part : Seen) (start : Cursor) (quantum counter : ℕ) (stretch : Stretch) → IsOnTheWay part start stretch counter → counter ≤ quantum → quantum ≤ counter → IsStretchFrom part start quantum stretch
full part start quantum counter stretch h q r = record {
  within = h.0;
  taken = h.1;
  steps_are = quantum_taken (left_at part start) stretch.steps quantum stretch.rows (left_at part stretch.cursor) h.1 (omega (arith, h.2, q, r));
}

-- a cursor that stands in the code's range stands among its triples
pub within_seen : (store : View) (part : Part) (terms : List Term) (ids : List IdTriple) (cursor : Cursor) → IsSeen store part terms ids → IsAt part cursor
    → IsCursorWithin (part_seen part terms ids) cursor
within_seen store part terms ids cursors.Fresh s w = tt
within_seen store part terms ids cursors.Opened s w = tt
within_seen store part terms ids (cursors.After place) s w = omega (arith, w, s.count)
within_seen store part terms ids cursors.Closing s w = tt
within_seen store part terms ids cursors.Done s w = tt

-- no step was taken
pub none_yet : (store : View) (part : Part) (terms : List Term) (ids : List IdTriple) (start : Cursor) (rows : List Row) → IsSeen store part terms ids → IsAt part start → rows ≡ []
    → IsOnTheWay (part_seen part terms ids) start (record { rows = rows; steps = 0; cursor = start }) 0
none_yet store part terms ids start rows s w e = (
  within_seen store part terms ids start s w,
  subst (λ r. AreTaken (left_at (part_seen part terms ids) start) 0 r (left_at (part_seen part terms ids) start)) (sym e) (none_taken (left_at (part_seen part terms ids) start)),
  refl,
)

-- what holds after each step of a run over a store
pub record IsRunning (first store : View) (part : Part) (start : Cursor) (stretch : Stretch) (counter : ℕ) : Type 0 where
  pub kept : IsKept first store
  pub at : IsAt part stretch.cursor
  pub few : stretch.steps ≤ counter
  pub way : (terms : List Term) (ids : List IdTriple) → IsSeen first part terms ids → IsOnTheWay (part_seen part terms ids) start stretch counter
