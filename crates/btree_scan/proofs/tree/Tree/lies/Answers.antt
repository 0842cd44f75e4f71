use Rattle.std.proofs.Common.{◌/◌, ◌∙◌, ap, refl, arith}
use Rattle.sage_outside.specs.Parts.{IsPayload}
use Rattle.btree_build.specs.Trees.{blocks_for}
use Rattle.btree_scan.specs.Levels.{IsLevel}
use Rattle.btree_scan.proofs.Three.{lies_from, none_lies, contrary}
use Rattle.btree_scan.proofs.tree.Tree.lies.Goals as goal

pub returns-then-end-count : goal.returns-then-end-count
returns-then-end-count c = none_lies _ (λ lies. omega (arith, lies.within 0 tt, c.blocks_for-one.ensures.is))

pub returns-then-not-is_within : goal.returns-then-not-is_within
returns-then-not-is_within c = none_lies _ (λ lies.
    let tree = c.args.self.now in
    let one = c.blocks_for-one.ensures.is in
    let two = c.blocks_for-two.ensures.is ∙ ap (blocks_for (tree.payload / 12)) one in
    contrary c.is_within.result (c.is_within.ensures.1 (λ lt. let level : IsLevel tree 1 = omega (arith, lt, one) in omega (arith, lies.within 1 level, one, two))) (cc))

pub returns-then-not-is_within-2 : goal.returns-then-not-is_within-2
returns-then-not-is_within-2 c = none_lies _ (λ lies.
    let tree = c.args.self.now in
    let per = tree.payload / 12 in
    let one = c.blocks_for-one.ensures.is in
    let two = c.blocks_for-two.ensures.is ∙ ap (blocks_for per) one in
    let three = c.blocks_for-three.ensures.is ∙ ap (blocks_for per) two in
    contrary c.is_within-2.result (c.is_within-2.ensures.1 (λ lt. let level : IsLevel tree 2 = omega (arith, lt, two) in omega (arith, lies.within 2 level, one, two, three))) (cc))

pub returns : goal.returns
returns c =
    let tree = c.args.self.now in
    let per = tree.payload / 12 in
    let payload : IsPayload tree.payload = record { one = c.is_payload.ensures.0 c.if-not-is_payload.false } in
    let one = c.blocks_for-one.ensures.is in
    let two = c.blocks_for-two.ensures.is ∙ ap (blocks_for per) one in
    let three = c.blocks_for-three.ensures.is ∙ ap (blocks_for per) two in (
      λ t. lies_from tree c.args.count c.blocks_for-one.result c.blocks_for-two.result c.blocks_for-three.result payload (omega arith) (omega arith) one two three (omega arith)
          (λ lt. c.is_within.ensures.0 c.if-not-is_within.false lt) (λ lt. c.is_within-2.ensures.0 c.if-not-is_within-2.false lt),
      λ lies. refl,
    )
