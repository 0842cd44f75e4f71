use Rattle.std.proofs.Common.{◌≡◌, ◌*◌, ◌++◌, drop}
use Rattle.store_image.specs.Format.{all_tagged}
use Rattle.store_image.proofs.blocks.put_tags.Given as goal

abbrev pub invariant-loop-number : goal.invariant-loop-number
invariant-loop-number l = l.bytes ≡ all_tagged 4080 0 l.number (l.initial.bytes) ++ drop (4096 * l.number) l.initial.bytes
