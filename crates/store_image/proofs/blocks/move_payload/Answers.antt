use Rattle.std.proofs.Common.{◌≡◌, ◌+◌, ◌-◌, ◌*◌, ◌++◌, take, drop, replicate, ap, ◌∙◌, arith}
use Rattle.store_image.proofs.Moves.{put_block}
use Rattle.store_image.proofs.blocks.move_payload.Goals as goal

pub returns : goal.returns
returns c =
    let from = 4080 * c.args.number in
    let size : from + 4080 - from ≡ 4080 = omega arith in
    put_block c.args.number c.args.bytes.now c.copy_from_slice.new.self _
    (c.copy_from_slice.ensures.after ∙ c.block_of-block.ensures ∙ ap (λ k. take k (drop from c.args.bytes.now) ++ replicate 16 0) size)
