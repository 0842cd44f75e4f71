use Rattle.std.proofs.Common.{◌≡◌, ◌∙◌, sym, length, map, Bor, Result, Ok, Err, IfOk}
use Rattle.std.specs.Prelude.{flat_map}
use Rattle.term_core.specs.Data.{parts}
use Rattle.term_core.specs.declared.term.Term.{Term}
use Rattle.store_image.specs.Numbering.{AreRanked, IsDictionary}
use Rattle.store_image.proofs.TableLists.{length-mapped}
use Rattle.store_image.proofs.TableSlots.{seen_permutation, seen_slots, seen_length, dictionary_from}
use Rattle.store_image.specs.Slots.{term_and_place}
use Rattle.store_image.proofs.table.number_terms.Goals as goal

pub ranked-requires-clause-few : goal.ranked-requires-clause-few
ranked-requires-clause-few c =
    seen_length c.args.document.now _ _ c.as_slice.result.now c.in_ok-slots.ensures c.sort_unstable.ensures.permutation c.as_slice.ensures.value c.requires

pub ranked-requires-clause-slots : goal.ranked-requires-clause-slots
ranked-requires-clause-slots c =
    seen_slots (flat_map parts c.args.document.now) _ _ c.as_slice.result.now c.in_ok-slots.ensures c.sort_unstable.ensures.permutation c.sort_unstable.ensures.sorted c.as_slice.ensures.value

both : {X E : Type 0} (r : Result X E) (P Q S : X → Type 0) → IfOk r P → IfOk r Q → ((x : X) → P x → Q x → S x) → IfOk r S
both (Ok x) P Q S p q f = f x p q
both (Err e) P Q S p q f = tt

pub returns : goal.returns
returns c =
    let P = flat_map parts c.args.document.now in
    let S = map term_and_place c.as_slice.result.now in
    let now : Bor Term → Term = λ t. t.now in
    let n : length S ≡ length c.as_slice.result.now = length-mapped term_and_place c.as_slice.result.now in
    both c.ranked.result (λ d. AreRanked S (map now d.terms.items) d.numbers.items) (λ d. length d.numbers.items ≡ length c.as_slice.result.now)
    (λ d. IsDictionary P (map now d.terms.items) d.numbers.items) c.ranked.ensures.ranked c.ranked.ensures.all
    (λ d r a. dictionary_from P S (map now d.terms.items) d.numbers.items
    (seen_permutation P _ _ c.as_slice.result.now c.in_ok-slots.ensures c.sort_unstable.ensures.permutation c.as_slice.ensures.value) r (a ∙ sym n))
