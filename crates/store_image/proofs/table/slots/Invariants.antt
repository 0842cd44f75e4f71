use Rattle.std.proofs.Common.{◌≡◌, ◌*◌, ◌++◌, map, drop}
use Rattle.std.specs.Prelude.{flat_map}
use Rattle.term_core.specs.Data.{parts}
use Rattle.store_image.specs.Numbering.{with_places}
use Rattle.store_image.specs.declared.slot.Slot.{Slot}
use Rattle.store_image.proofs.table.slots.Given as goal

abbrev pub invariant-loop-triple : goal.invariant-loop-triple
invariant-loop-triple l =
    (l.place ≡ 3 * l.triple-index)
    × (map (λ (slot : Slot). (slot.term.now, slot.place)) l.slots.items ++ with_places l.place (flat_map parts (drop l.triple-index l.document)) ≡ with_places 0 (flat_map parts l.document))
