use Rattle.std.proofs.Common.{◌∙◌, ap, sym, subst, Contains}
use Rattle.store_image.specs.Numbering.{trios}
use Rattle.store_image.proofs.TableOrder.{table_from}
use Rattle.store_image.proofs.table.Table.build.Goals as goal

pub returns : goal.returns
returns c =
    table_from c.args.document.now _ c.in_ok-dictionary.dictionary.numbers.items _ c.requires c.in_ok-dictionary.ensures c.order_ids.ensures.sorted
    (λ i. let m = c.order_ids.ensures.same i in
    let is = c.in_ok-triples.ensures ∙ ap trios c.as_slice.ensures.value in
    (λ h. subst (λ w. Contains w i) is (m.0 h), λ h. m.1 (subst (λ w. Contains w i) (sym is) h)))
