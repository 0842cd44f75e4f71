use Rattle.std.proofs.Common.{◌≡◌, ◌∙◌, ap, subst}
use Rattle.std.specs.Prelude.{nat_eq}
use Rattle.std.specs.HashMap.{get}
use Rattle.std.specs.Option.{option_copied}
use Rattle.row_bag.specs.Hashes.{hash_at, rows_at, Indexes}
use Rattle.std.specs.Prelude.{option_map}
use Rattle.sparql_tree.specs.ExprTrees.{tree_of}
use Rattle.row_bag.proofs.Matches.{left_step}
use Rattle.row_bag.proofs.left.left_join.Goals as goal

pub loop-a-preserved : goal.loop-a-preserved
loop-a-preserved c =
    let names = c.in_ok-names.names.items in
    let same : c.hash_values.result ≡ hash_at names c.a-item.result = c.hash_values.ensures ∙ ap (λ w. hash_at w c.a-item.result) c.deref-in-loop-a.ensures.value in
    left_step (option_map tree_of (option_copied c.args.condition)) names c.args.left.now c.args.right.now c.loop-a.a-index c.a-item.result c.loop-a.out (rows_at (option_copied c.get.result)) c.left_one.new.out
    c.loop-a-test.true c.a-item.is c.in_ok-names.ensures.left c.in_ok-names.ensures.right c.loop-a.invariant
    (ap rows_at c.get.ensures.value ∙ ap (λ k. rows_at (get nat_eq c.in_ok-index.index k)) same ∙ subst (λ w. Indexes (hash_at w) c.args.right.now c.in_ok-index.index) c.deref.ensures.value c.in_ok-index.ensures (hash_at names c.a-item.result))
    c.in_ok-left_one.ensures
