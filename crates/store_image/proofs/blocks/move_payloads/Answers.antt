use Rattle.std.proofs.Common.{◌≡◌, ◌+◌, ◌-◌, ◌*◌, ◌++◌, ℕ, suc, length, take, drop, replicate, arith, refl, sym, ap, ◌∙◌, length-append, length-take, length-drop}
use Rattle.store_image.proofs.Moves.{moved_more, front_more, long_more}
use Rattle.store_image.proofs.blocks.move_payloads.Goals as goal

pub loop-left-preserved : goal.loop-left-preserved
loop-left-preserved c =
    let left = c.loop-left.left in
    let next = c.loop-left.left - 1 in
    let count = c.args.count in
    let bytes = c.loop-left.bytes in
    let new = c.move_payload.new.bytes in
    let e : left ≡ suc next = omega arith in
    let payload = take 4080 (drop (4080 * next) bytes) in
    let one : length (payload ++ replicate 16 0) ≡ 4096 =
    length-append payload (replicate 16 0) ∙ omega (arith, length-take 4080 (drop (4080 * next) bytes), length-drop (4080 * next) bytes, c.loop-left.invariant.few, c.loop-left.invariant.long) in
    record {
      few = omega arith;
      long = long_more next count bytes new (payload ++ replicate 16 0) (omega arith) c.loop-left.invariant.long one c.move_payload.ensures;
      front = front_more left next count bytes new c.args.bytes.now (payload ++ replicate 16 0) (drop (4096 * (next + 1)) bytes) e c.loop-left.invariant.few c.loop-left.invariant.long c.loop-left.invariant.front c.move_payload.ensures;
      moved = moved_more left next count bytes new c.args.bytes.now e c.loop-left.invariant.few c.loop-left.invariant.long (omega arith) c.loop-left.invariant.front c.loop-left.invariant.moved c.move_payload.ensures;
    }
