use Rattle.std.proofs.Common.{◌≡◌, ℕ, ◌+◌, ◌-◌, ◌<◌, List, length, map, get_or, set, take, Bor, sym, ap, ◌∙◌, subst, arith}
use Rattle.std.proofs.lemmas.List.{length-set}
use Rattle.term_core.specs.declared.term.Term.{Term}
use Rattle.term_core.specs.Bags.{In}
use Rattle.term_core.proofs.Bags.{In-map}
use Rattle.store_image.specs.declared.slot.Slot.{Slot}
use Rattle.store_image.specs.Numbering.{AreSlots, AreRanked}
use Rattle.store_image.proofs.TableLists.{In-get_or, length-mapped, get_or-mapped}
use Rattle.store_image.proofs.TableSlots.{ranked_none, ranked_next}
use Rattle.store_image.proofs.table.ranked.Goals as goal

abbrev seen : Slot → Term × ℕ
seen slot = (slot.term.now, slot.place)

within : (slots : List Slot) (i : ℕ) (slot : Slot) → AreSlots (map seen slots) → i < length slots → slot ≡ get_or slots i slot → slot.place < length slots
within slots i slot s h e =
    let here : In (map seen slots) (seen slot) = In-map seen slots slot (subst (In slots) (sym e) (In-get_or slots i slot h)) in
    let w : slot.place < length (map seen slots) = s.within slot.term.now slot.place here in
    let n : length (map seen slots) ≡ length slots = length-mapped seen slots in
    omega arith

pub loop-slot-init : goal.loop-slot-init
loop-slot-init c = (
  ranked_none _ _ (ap (map (λ t. t.now)) c.new-terms.ensures.items),
  omega (arith, ap length c.new-terms.ensures.items),
  omega (arith, c.in_ok-numbers.ensures.len),
)

pub index_mut-requires : goal.index_mut-requires
index_mut-requires c =
    let w : c.slot-item.result.place < length c.args.slots.now = within c.args.slots.now c.loop-slot.slot-index c.slot-item.result c.requires.slots c.loop-slot-test.true c.slot-item.is in
    omega (arith, c.loop-slot.invariant.2)

pub loop-slot-preserved : goal.loop-slot-preserved
loop-slot-preserved c =
    let now : Bor Term → Term = λ t. t.now in
    let slot = c.slot-item.result in
    let slots = c.args.slots.now in
    let new = map now c.push_new.new.terms.items in
    let count : length new ≡ length c.push_new.new.terms.items = length-mapped now c.push_new.new.terms.items in
    let last : length new - 1 ≡ c.len.result - 1 = omega (arith, c.len.ensures) in
    let all : length (map seen slots) ≡ length slots = length-mapped seen slots in
    let index : c.loop-slot.slot-index < length slots = c.loop-slot-test.true in
    let here : get_or (map seen slots) c.loop-slot.slot-index (seen slot) ≡ seen slot =
    get_or-mapped seen slots c.loop-slot.slot-index slot (seen slot) index ∙ ap seen (sym c.slot-item.is) in (
      subst (λ n. AreRanked (take (c.loop-slot.slot-index + 1) (map seen slots)) new (set c.loop-slot.numbers.items slot.place n)) last
          (ranked_next (map seen slots) c.loop-slot.slot-index (map now c.loop-slot.terms.items) new c.loop-slot.numbers.items slot.term.now slot.place
          c.requires.slots (omega arith) here c.loop-slot.invariant.0 c.in_ok-push_new.ensures.put (c.loop-slot.invariant.2 ∙ sym all)),
      omega (arith, c.in_ok-push_new.ensures.few, c.loop-slot.invariant.1),
      length-set c.loop-slot.numbers.items slot.place (c.len.result - 1) ∙ c.loop-slot.invariant.2,
    )
