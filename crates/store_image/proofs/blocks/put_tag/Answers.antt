use Rattle.std.proofs.Common.{◌≡◌, ◌+◌, ◌-◌, ◌*◌, take, drop, ap, ◌∙◌, arith}
use Rattle.sage_outside.specs.Parts.{tag_of}
use Rattle.store_image.proofs.Moves.{put_behind}
use Rattle.store_image.proofs.blocks.put_tag.Goals as goal

pub returns : goal.returns
returns c =
    let at = 4096 * c.args.number in
    let size : at + 4080 - at ≡ 4080 = omega arith in
    put_behind c.args.number c.args.bytes.now c.copy_from_slice.new.self
    (c.copy_from_slice.ensures.after ∙ c.tag-tag.ensures ∙ ap (λ k. tag_of c.args.number (take k (drop at c.args.bytes.now))) size)
