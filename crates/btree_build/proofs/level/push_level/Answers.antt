use Rattle.std.proofs.Common.{◌≡◌, ◌++◌, ◌<◌, ◌∷◌, [], ◌∙◌, ap, arith, length, List, get_or}
use Rattle.term_core.specs.declared.pattern.IdTriple.{IdTriple}
use Rattle.btree_build.specs.Trees.{block_bytes}
use Rattle.btree_build.proofs.Filling.{on_ok}
use Rattle.btree_build.proofs.Levels.{level_more, above_more, first_taken, wide, level_ended, above_ended}
use Rattle.btree_build.proofs.level.push_level.Goals as goal

pub filling-preserved : goal.filling-preserved
filling-preserved c =
    let none : IdTriple = record { s = 0; p = 0; o = 0 } in
    let rest = c.filling.rest.now in
    let count = c.min-count.result in
    let some : 0 < length rest = omega arith in
    let put = on_ok c.push_block.result _ (c.push_block.new.out.items ≡ c.filling.out.items ++ block_bytes c.split_at.result.0.now) c.in_ok-push_block.was c.push_block.ensures in
    let first = on_ok c.push_first.result _ _ c.in_ok-push_first.was c.push_first.ensures in
    record {
      bytes = level_more c.args.per rest c.requires.per some count c.filling.out.items c.push_block.new.out.items _ c.split_at.result.0.now c.split_at.result.1.now (grind (arith, c.min-count.ensures)) c.split_at.ensures.front c.split_at.ensures.back put c.filling.invariant.bytes;
      up = above_more c.args.per rest c.requires.per some count (get_or c.split_at.result.0.now 0 none) c.filling.up.items c.push_first.new.out.items _ c.split_at.result.1.now (grind (arith, c.min-count.ensures)) (ap (λ (l : List IdTriple). get_or l 0 none ∷ []) c.split_at.ensures.front ∙ first_taken count rest none (grind (arith, c.min-count.ensures, wide c.args.per c.requires.per)) some) c.split_at.ensures.back first c.filling.invariant.up;
    }

pub returns-clause-bytes : goal.returns-clause-bytes
returns-clause-bytes c = level_ended c.args.per c.filling.rest.now _ _ c.requires.per (omega arith) c.filling.invariant.bytes

pub returns-clause-above : goal.returns-clause-above
returns-clause-above c = above_ended c.args.per c.filling.rest.now _ _ c.requires.per (omega arith) c.filling.invariant.up
