use Rattle.std.proofs.Common.{◌++◌, ap, sym, ◌∙◌}
use Rattle.term_core.specs.Index.{by_subject, by_predicate, by_object}
use Rattle.store_image.specs.Keys.{keys_by}
use Rattle.store_image.specs.Image.{tree_in}
use Rattle.store_image.proofs.Keys.{keys_by_subject}
use Rattle.store_image.proofs.Areas.{three_put}
use Rattle.store_image.proofs.building.push_trees.Goals as goal

pub returns : goal.returns
returns c =
    let ids = c.args.triples.now in
    let p = c.args.payload in
    three_put c.args.out.now.items c.push_keys.new.out.items c.push_order.new.out.items c.push_order-2.new.out.items
    (tree_in p (keys_by by_subject ids)) (tree_in p (keys_by by_predicate ids)) (tree_in p (keys_by by_object ids))
    (c.in_ok-push_keys.ensures ∙ ap (λ es. c.args.out.now.items ++ tree_in p es) (sym (keys_by_subject ids c.requires.ordered)))
    c.in_ok-push_order.ensures c.in_ok-push_order-2.ensures
