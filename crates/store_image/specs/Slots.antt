-- Slots: the terms of a document with their places. They are ordered by their terms alone.
use Rattle.std.proofs.Common.{ℕ}
use Rattle.std.specs.declared.cmp.Ordering.{Ordering}
use Rattle.std.specs.Cmp.{IsTotalOrder}
use Rattle.std.proofs.lemmas.Cmp.{on_total}
use Rattle.term_core.specs.declared.term.Term.{Term}
use Rattle.term_core.specs.Order.{term_cmp}
use Rattle.term_core.specs.OrderLaws.{terms_total}
use Rattle.store_image.specs.declared.slot.Slot.{Slot}

-- the term and the place of a slot
abbrev pub term_and_place : Slot → Term × ℕ
term_and_place slot = (slot.term.now, slot.place)

-- the order of the terms
abbrev pub slot_cmp : Slot → Slot → Ordering
slot_cmp a b = term_cmp a.term.now b.term.now

pub slots_total : IsTotalOrder slot_cmp
slots_total = on_total (λ (s : Slot). s.term.now) terms_total
