use Rattle.std.proofs.Common.{◌≡◌, ◌≤◌, length, map, take}
use Rattle.store_image.specs.declared.slot.Slot.{Slot}
use Rattle.store_image.specs.Numbering.{AreRanked}
use Rattle.store_image.proofs.table.ranked.Given as goal

abbrev pub invariant-loop-slot : goal.invariant-loop-slot
invariant-loop-slot l =
    AreRanked (take l.slot-index (map (λ (slot : Slot). (slot.term.now, slot.place)) l.slots)) (map (λ t. t.now) l.terms.items) l.numbers.items
    × (length l.terms.items ≤ l.slot-index) × (length l.numbers.items ≡ length l.slots)
