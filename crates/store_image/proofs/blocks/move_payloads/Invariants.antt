use Rattle.std.proofs.Common.{◌≡◌, ◌≤◌, ◌-◌, ◌*◌, length, take, drop}
use Rattle.store_image.specs.Format.{spread}
use Rattle.store_image.proofs.blocks.move_payloads.Given as goal

abbrev pub invariant-loop-left : goal.invariant-loop-left
invariant-loop-left l = record {
  few : l.left ≤ l.count;
  long : length l.bytes ≡ 4096 * l.count;
  front : take (4080 * l.left) l.bytes ≡ take (4080 * l.left) l.initial.bytes;
  moved : drop (4096 * l.left) l.bytes ≡ spread 4080 (l.count - l.left) (drop (4080 * l.left) l.initial.bytes);
}

abbrev pub decreases-loop-left : goal.decreases-loop-left
decreases-loop-left l = l.left
