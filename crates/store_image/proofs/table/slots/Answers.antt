use Rattle.std.proofs.Common.{◌≡◌, ℕ, ◌+◌, List, [], ◌∷◌, ◌++◌, map, drop, ap, ◌∙◌, arith}
use Rattle.std.specs.Prelude.{flat_map}
use Rattle.std.proofs.lemmas.List.{map-append}
use Rattle.term_core.specs.declared.term.Term.{Term}
use Rattle.term_core.specs.Data.{parts}
use Rattle.store_image.specs.declared.slot.Slot.{Slot}
use Rattle.store_image.specs.Numbering.{with_places}
use Rattle.store_image.proofs.TableSlots.{slots_more}
use Rattle.store_image.proofs.table.slots.Goals as goal

abbrev seen : Slot → Term × ℕ
seen slot = (slot.term.now, slot.place)

pushed : (xs ys : List Slot) (slot : Slot) (t : Term) (place : ℕ) → ys ≡ xs ++ slot ∷ [] → slot.term.now ≡ t → slot.place ≡ place → map seen ys ≡ map seen xs ++ (t, place) ∷ []
pushed xs ys slot t place e is at = ap (map seen) e ∙ map-append seen xs (slot ∷ []) ∙ (λ i. map seen xs ++ (is i, at i) ∷ [])

pub loop-triple-preserved : goal.loop-triple-preserved
loop-triple-preserved c =
    let first = pushed _ _ _ _ _ c.in_ok-push.ensures.items c.of.ensures.term c.of.ensures.place in
    let second = pushed _ _ _ _ _ c.in_ok-push-2.ensures.items c.of-in-loop-triple.ensures.term c.of-in-loop-triple.ensures.place in
    let third = pushed _ _ _ _ _ c.in_ok-push-3.ensures.items c.of-in-loop-triple-2.ensures.term c.of-in-loop-triple-2.ensures.place in
    let t = c.triple-item.result in
    let place = c.loop-triple.place in
    let all = third ∙ ap (λ w. w ++ (t.object, place + 2) ∷ []) (second ∙ ap (λ w. w ++ (t.predicate, place + 1) ∷ []) first) in (
      omega arith,
      ap (λ w. w ++ with_places (place + 3) (flat_map parts (drop (c.loop-triple.triple-index + 1) c.args.document.now))) all
          ∙ slots_more c.args.document.now c.loop-triple.triple-index place t (map seen c.loop-triple.slots.items) _ c.loop-triple-test.true c.triple-item.is c.loop-triple.invariant.1,
    )
